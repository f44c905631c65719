-- `planning::least` meets its contract: number after number, the best so far is kept with its key.
use Rattle.plan.proofs.PlanLoops.{Least}
use Rattle.plan.proofs.planning.least.Given as goal

abbrev pub invariant-loop-j : goal.invariant-loop-j
invariant-loop-j g l = Least (λ j b. g.Q.Fn.post l.passes (j, tt) b) (λ j k. g.K.Fn.post l.key (j, tt) k) l.n l.j l.best
