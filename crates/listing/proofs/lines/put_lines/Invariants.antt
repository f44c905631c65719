-- The lines of the jobs so far are put.
use Rattle.listing.proofs.Lining.{LinesPut}
use Rattle.listing.proofs.lines.put_lines.Given as goal

abbrev pub invariant-loop-j : goal.invariant-loop-j
invariant-loop-j l = LinesPut l.initial.text.bytes l.initial.text.length l.jobs l.plan l.j l.text.bytes l.text.length
