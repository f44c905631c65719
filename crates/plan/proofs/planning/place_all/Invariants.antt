-- `planning::place_all` meets its contract: job after job is placed, until one misses its deadline.
use Rattle.plan.proofs.PlanLoops.{Going}
use Rattle.plan.proofs.planning.place_all.Given as goal

abbrev pub invariant-loop : goal.invariant-loop
invariant-loop l = Going l.framed l.processors l.placed l.counter
