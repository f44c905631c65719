-- `pairs::read_list` meets its contract. The loop's invariant is `Marked`.
use Rattle.reader.proofs.PairRows.{Marked}
use Rattle.reader.proofs.pairs.read_list.Given as goal

abbrev pub invariant-loop-i : goal.invariant-loop-i
invariant-loop-i l = Marked l.file l.n l.from l.i l.at l.pairs l.rows
