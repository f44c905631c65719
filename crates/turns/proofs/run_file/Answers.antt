-- `run_file` meets its contract: 4 for processors and frames, the file's own reply, or the run.
use Rattle.plan.proofs.ToldSteps.{met}
use Rattle.turns.specs.CallCases.{small_processors, small_frames, run_refused, refused_filled, same_run, same_filled, processors_refused, frames_refused, file_stops, frame_there, frame_runs}
use Rattle.turns.proofs.run_file.Goals as goal

pub returns-in_err-processors : goal.returns-in_err-processors
returns-in_err-processors c =
    let e = processors_refused _ _ _ _ _ _ _ c.in_err-processors.ensures in
    record { result = rw (met _ c.from_residual.ensures.1) (run_refused e); filled = refused_filled _ e }

pub returns-in_err-frames : goal.returns-in_err-frames
returns-in_err-frames c =
    let e = frames_refused _ _ _ _ _ _ _ c.in_ok-processors.ensures c.in_err-frames.ensures in
    record { result = rw (met _ c.from_residual-in_err-frames.ensures.1) (run_refused e); filled = refused_filled _ e }

pub returns-in_err-ok : goal.returns-in_err-ok
returns-in_err-ok c =
    let e = file_stops _ _ _ _ _ _ _ c.in_ok-processors.ensures c.in_ok-frames.ensures c.frame-framed.ensures c.in_err-ok.ensures in
    record { result = rw (met _ c.from_residual-in_err-ok.ensures.1) (run_refused e); filled = refused_filled _ e }

pub run_framed-requires : goal.run_framed-requires
run_framed-requires c = (
  frame_there c.args.file.now c.args.asked.now.processors c.args.asked.now.frames c.args.asked.now.plan.now c.args.asked.now.input.now c.args.asked.now.turns.now c.args.output.now
      c.in_ok-processors.ensures c.in_ok-frames.ensures c.frame-framed.ensures c.in_ok-ok.ensures,
  small_processors c.in_ok-processors.ensures,
  small_frames c.in_ok-frames.ensures,
)

pub returns : goal.returns
returns c =
    let e = frame_runs _ _ _ _ _ _ c.args.output.now c.in_ok-processors.ensures c.in_ok-frames.ensures c.frame-framed.ensures c.in_ok-ok.ensures in
    record { result = same_run e c.run_framed.ensures.result; filled = same_filled c.args.output.now e c.run_framed.ensures.filled }
