-- `planning::ready_at` meets its contract: job after job that the row marks, the latest end so far.
use Rattle.std.specs.Prelude.{◌≡◌}
use Rattle.plan.specs.PlanTold.{ready_by}
use Rattle.plan.proofs.planning.ready_at.Given as goal

abbrev pub invariant-loop-i : goal.invariant-loop-i
invariant-loop-i l = l.ready ≡ ready_by l.ends l.row l.i l.release
