-- `run_framed` meets its contract: 10 for input and output, 16 for samples, or the run.
use Rattle.std.proofs.Common.{mul-le-mul, ◌∙◌}
use Rattle.std.proofs.lemmas.Result.{err_from_is_err_and}
use Rattle.graph.specs.FrameOf.{few_jobs}
use Rattle.zero_delay.specs.CallLaws.{stops, goes_on, room_there, framed_steps, refused_told, refused_filled, same_filled}
use Rattle.zero_delay.proofs.run_framed.Goals as goal

pub returns-in_err-room : goal.returns-in_err-room
returns-in_err-room c =
    let e = framed_steps c.requires.0 _ _ _ ∙ stops _ _ (λ ok. ok) c.in_err-room.ensures in
    let p = err_from_is_err_and c.from_residual.result c.from_residual.ensures.1 in
    record { result = rw (p.1, p.2) (refused_told e); filled = refused_filled _ e }

pub returns-in_err-room-2 : goal.returns-in_err-room-2
returns-in_err-room-2 c =
    let e = framed_steps c.requires.0 _ _ _ ∙ goes_on _ _ c.in_ok-room.ensures ∙ stops _ _ (λ ok. ok) c.in_err-room-2.ensures in
    let p = err_from_is_err_and c.from_residual-in_err-room-2.result c.from_residual-in_err-room-2.ensures.1 in
    record { result = rw (p.1, p.2) (refused_told e); filled = refused_filled _ e }

pub judge-requires : goal.judge-requires
judge-requires c = let pre = c.requires in
    (mul-le-mul (few_jobs pre.0) pre.1, room_there c.in_ok-room.ensures)

pub returns-in_err-judge : goal.returns-in_err-judge
returns-in_err-judge c =
    let e = framed_steps c.requires.0 _ _ _ ∙ goes_on _ _ c.in_ok-room.ensures ∙ goes_on _ _ c.in_ok-room-2.ensures ∙ stops _ _ (λ ok. ok) c.in_err-judge.ensures in
    let p = err_from_is_err_and c.from_residual-in_err-judge.result c.from_residual-in_err-judge.ensures.1 in
    record { result = rw (p.1, p.2) (refused_told e); filled = refused_filled _ e }

pub run_admitted-requires : goal.run_admitted-requires
run_admitted-requires c = let pre = c.requires in
    record { frame = pre.0; few = pre.1; input_there = room_there c.in_ok-room.ensures; output_there = room_there c.in_ok-room-2.ensures }

pub returns : goal.returns
returns c =
    let e = framed_steps c.requires.0 _ _ _ ∙ goes_on _ _ c.in_ok-room.ensures ∙ goes_on _ _ c.in_ok-room-2.ensures ∙ goes_on _ _ c.in_ok-judge.ensures in
    record { result = rw (e, c.run_admitted.ensures.result); filled = same_filled c.args.output.now e c.run_admitted.ensures.filled }
