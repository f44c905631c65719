-- `order::after` meets its contract: the next jobs of the jobs so far.
use Rattle.turns.proofs.OrderLoops.{AfterTo}
use Rattle.turns.proofs.order.after.Given as goal

abbrev pub invariant-loop-j : goal.invariant-loop-j
invariant-loop-j l = AfterTo l.plan l.jobs l.next l.j
