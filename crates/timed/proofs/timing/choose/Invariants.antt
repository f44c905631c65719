-- `timing::choose` meets its contract: the least of the keys so far is kept.
use Rattle.timed.proofs.TimedKeys.{LeastSo}
use Rattle.timed.proofs.timing.choose.Given as goal

abbrev pub invariant-loop-key : goal.invariant-loop-key
invariant-loop-key l = LeastSo l.keys l.least l.key-index
