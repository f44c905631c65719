-- What a plan is when the timed run takes it.
use Rattle.std.specs.Prelude.{ℕ, ◌≤◌, ◌<◌, List}
use Rattle.graph.specs.Work.{Work, job_count_of, cost}
use Rattle.graph.specs.WorkLaws.{Forward}
use Rattle.plan.specs.Feasible.{Feasible}

-- a feasible plan of a work whose jobs all cost a tick or more
pub record Ordered (w : Work) (m : ℕ) (plan : List ℕ) : Type 0 where
  pub forward : Forward w
  pub feasible : Feasible w m plan
  pub worth : (j : ℕ) → j < job_count_of w → 1 ≤ cost w j
