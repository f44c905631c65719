use Rattle.std.proofs.Common.{sym, ◌∙◌}
use Rattle.plan.proofs.PlanLoops.{at_release, not_marked, is_marked}
use Rattle.plan.proofs.planning.ready_at.Goals as goal
use Rattle.plan.proofs.planning.ready_at.Goals.{then-has, else-has}

pub loop-i-init : goal.loop-i-init
loop-i-init c = at_release c.args.ends.now _ _

pub loop-i-preserved : goal.loop-i-preserved
loop-i-preserved c =
    let has = c.has.ensures in
    elim c.if-has.branch [
      | then-has w ↦ rw w.ready-is (w.max-ready.ensures ∙ is_marked c.args.ends.now _ _ c.loop-i.i c.loop-i.invariant (sym has ∙ w.if-has.true))
      | else-has w ↦ rw w.ready-is (not_marked c.args.ends.now _ _ c.loop-i.i c.loop-i.invariant (sym has ∙ w.if-has.false))
    ]
