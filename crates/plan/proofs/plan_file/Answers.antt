-- `plan_file` meets its contract: 4 for the processors, the file's own reply, or what the planner gives.
use Rattle.std.proofs.Common.{ap, sym, ◌∙◌}
use Rattle.reply.specs.Told.{told}
use Rattle.graph.specs.FrameOf.{file_frame}
use Rattle.plan.proofs.CallLaws.{plan_range, plan_refused_told, plan_work_told, in_range, refused_filled, same_filled}
use Rattle.plan.proofs.ToldSteps.{accepted_zero, met}
use Rattle.plan.proofs.plan_file.Goals as goal

pub returns-in_err-processors : goal.returns-in_err-processors
returns-in_err-processors c =
    let e = plan_range _ _ _ c.in_err-processors.ensures in
    rw (met _ c.from_residual.ensures.1) (record { result = sym (ap (told (λ words. tt)) e); filled = refused_filled _ e })

pub returns-in_err-ok : goal.returns-in_err-ok
returns-in_err-ok c =
    let e = plan_refused_told _ _ _ c.in_ok-processors.ensures c.frame-framed.ensures c.in_err-ok.ensures in
    rw (met _ c.from_residual-in_err-ok.ensures.1) (record { result = sym (ap (told (λ words. tt)) e); filled = refused_filled _ e })

pub plan_framed-requires : goal.plan_framed-requires
plan_framed-requires c =
    let range = in_range _ c.in_ok-processors.ensures in
    (file_frame _ c.frame-framed.ensures (accepted_zero _ c.in_ok-ok.ensures), range.0, range.1)

pub returns : goal.returns
returns c =
    let e = plan_work_told _ _ _ c.in_ok-processors.ensures c.frame-framed.ensures c.in_ok-ok.ensures in
    record {
      result = c.plan_framed.ensures.result ∙ sym (ap (told (λ words. tt)) e);
      filled = c.plan_framed.ensures.filled ∙ same_filled _ e;
    }
