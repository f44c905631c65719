use Rattle.plan.proofs.PlanLoops.{set_out, one_placed, one_missed, placed_all}
use Rattle.plan.proofs.ToldSteps.{met}
use Rattle.plan.proofs.planning.place_all.Goals as goal

pub loop-init : goal.loop-init
loop-init c = rw c.nothing-placed.ensures set_out

pub place_next-requires : goal.place_next-requires
place_next-requires c = let pre = c.requires in
    record { work = pre.work; number = c.loop.counter; below = c.loop-test.true; reached = c.loop.invariant.reached _ pre.tabled }

pub loop-preserved : goal.loop-preserved
loop-preserved c = one_placed c.loop.invariant c.loop-test.true c.place_next.ensures c.in_ok-place_next.was

pub returns-in_err-place_next : goal.returns-in_err-place_next
returns-in_err-place_next c =
    rw (met _ c.from_residual.ensures.1) (one_missed c.loop.invariant c.loop-test.true c.place_next.ensures c.in_err-place_next.was)

pub returns : goal.returns
returns c = placed_all c.loop.invariant c.loop.auto.counter-end c.loop-test.false
