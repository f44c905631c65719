-- `check_file` meets its contract: 4 for the processors, the file's own reply, or what the checker finds.
use Rattle.std.proofs.Common.{ap, sym, ◌∙◌}
use Rattle.reply.specs.Told.{judged}
use Rattle.graph.specs.FrameOf.{file_frame}
use Rattle.plan.proofs.CallLaws.{check_range, check_refused_told, check_work_told}
use Rattle.plan.proofs.ToldSteps.{accepted_zero, met}
use Rattle.plan.proofs.check_file.Goals as goal

pub returns-in_err-processors : goal.returns-in_err-processors
returns-in_err-processors c = rw (met _ c.from_residual.ensures.1) (check_range _ _ _ c.in_err-processors.ensures)

pub returns-in_err-ok : goal.returns-in_err-ok
returns-in_err-ok c = rw (met _ c.from_residual-in_err-ok.ensures.1) (check_refused_told _ _ _ c.in_ok-processors.ensures c.frame-framed.ensures c.in_err-ok.ensures)

pub check_framed-requires : goal.check_framed-requires
check_framed-requires c = file_frame _ c.frame-framed.ensures (accepted_zero _ c.in_ok-ok.ensures)

pub returns : goal.returns
returns c = c.check_framed.ensures ∙ sym (ap judged (check_work_told _ _ _ c.in_ok-processors.ensures c.frame-framed.ensures c.in_ok-ok.ensures))
