-- `judge` meets its contract: the fault of the plan, or what is found of the durations.
use Rattle.std.proofs.Common.{ap, arith, ◌∙◌}
use Rattle.reply.specs.Told.{judged}
use Rattle.graph.specs.FrameOf.{few_jobs}
use Rattle.plan.proofs.CallLaws.{frame_tables, frame_checkable}
use Rattle.timed.proofs.CallLaws.{plan_good_told, plan_faulty_told}
use Rattle.plan.proofs.ToldSteps.{met}
use Rattle.timed.proofs.judge.Goals as goal

pub judge-requires : goal.judge-requires
judge-requires c = let pre = c.requires in frame_checkable pre.0 _ pre.1

pub returns-in_err-judge : goal.returns-in_err-judge
returns-in_err-judge c =
    let pre = c.requires in
    rw (met _ c.from_residual.ensures.1) (plan_faulty_told pre.0 _ _ _ (c.in_err-judge.ensures.is _ (frame_tables pre.0)))

pub judge-requires-2 : goal.judge-requires-2
judge-requires-2 c = let pre = c.requires in (omega (arith, few_jobs pre.0), omega (arith, pre.2))

pub returns : goal.returns
returns c = let pre = c.requires in c.judge-2.ensures ∙ ap judged (plan_good_told pre.0 _ _ _ (c.in_ok-judge.ensures.is _ (frame_tables pre.0)))
