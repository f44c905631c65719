-- `order::next_from` meets its contract: the best of the jobs so far.
use Rattle.turns.proofs.OrderLoops.{BestTo}
use Rattle.turns.proofs.order.next_from.Given as goal

abbrev pub invariant-loop-i : goal.invariant-loop-i
invariant-loop-i l = BestTo l.plan l.m l.from l.best l.i
