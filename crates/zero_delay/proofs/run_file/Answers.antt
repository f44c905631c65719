-- `run_file` meets its contract: 4 for the frames, the file's own reply, or the run.
use Rattle.std.proofs.Common.{◌∙◌}
use Rattle.std.proofs.lemmas.Result.{err_from_is_err_and}
use Rattle.graph.specs.FrameOf.{file_frame, file_accepted}
use Rattle.zero_delay.specs.ZeroDelay.{run_work}
use Rattle.zero_delay.specs.CallLaws.{stops, goes_on, frames_range, file_steps, answer_told, accepted, refused_told, refused_filled, same_filled}
use Rattle.zero_delay.proofs.run_file.Goals as goal

pub returns-in_err-frames : goal.returns-in_err-frames
returns-in_err-frames c =
    let e = file_steps _ _ _ _ ∙ stops _ _ (λ ok. ok) c.in_err-frames.ensures in
    let p = err_from_is_err_and c.from_residual.result c.from_residual.ensures.1 in
    record { result = rw (p.1, p.2) (refused_told e); filled = refused_filled _ e }

pub returns-in_err-ok : goal.returns-in_err-ok
returns-in_err-ok c =
    let e = file_steps _ _ _ _ ∙ goes_on _ _ c.in_ok-frames.ensures ∙ stops _ _ (λ w. tt) (c.in_err-ok.ensures ∙ answer_told _ c.frame-framed.ensures) in
    let p = err_from_is_err_and c.from_residual-in_err-ok.result c.from_residual-in_err-ok.ensures.1 in
    record { result = rw (p.1, p.2) (refused_told e); filled = refused_filled _ e }

pub run_framed-requires : goal.run_framed-requires
run_framed-requires c = (file_frame _ c.frame-framed.ensures (accepted _ c.frame-framed.ensures c.in_ok-ok.ensures), frames_range c.in_ok-frames.ensures)

pub returns : goal.returns
returns c =
    let e =
    file_steps c.args.file.now _ _ _ ∙ goes_on _ _ c.in_ok-frames.ensures
    ∙ file_accepted _ c.frame-framed.ensures (λ w. run_work w c.args.frames c.args.input.now c.args.output.now) (accepted _ c.frame-framed.ensures c.in_ok-ok.ensures) in
    record { result = rw e c.run_framed.ensures.result; filled = same_filled c.args.output.now e c.run_framed.ensures.filled }
