-- `check_framed` meets its contract: 10 for a short plan, or what the checker finds on the frame's tables.
use Rattle.std.proofs.Common.{ap, arith, sym, ◌∙◌}
use Rattle.reply.specs.Told.{judged}
use Rattle.graph.specs.FrameOf.{few_jobs}
use Rattle.plan.proofs.CallLaws.{frame_tables, frame_checkable, short_plan_told, long_plan_told}
use Rattle.plan.proofs.ToldSteps.{has_room, met}
use Rattle.plan.proofs.check_framed.Goals as goal

pub overflow_mul-n : goal.overflow_mul-n
overflow_mul-n c = omega (arith, few_jobs c.requires)

pub returns-in_err-room : goal.returns-in_err-room
returns-in_err-room c = rw (met _ c.from_residual.ensures.1) (short_plan_told c.requires _ _ c.in_err-room.ensures)

pub judge-requires : goal.judge-requires
judge-requires c = frame_checkable c.requires _ (has_room _ _ c.in_ok-room.ensures)

pub returns : goal.returns
returns c = c.judge.ensures.is _ (frame_tables c.requires) ∙ sym (ap judged (long_plan_told c.requires _ _ c.in_ok-room.ensures))
