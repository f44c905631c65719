-- `timing::keys_of` meets its contract: the keys so far are gathered.
use Rattle.marks.specs.Row.{no_marks}
use Rattle.timed.specs.TimedTold.{KeysTell}
use Rattle.timed.proofs.timing.keys_of.Given as goal

abbrev pub invariant-loop-j : goal.invariant-loop-j
invariant-loop-j l = KeysTell no_marks l.plan l.j l.keys
