-- `run_framed` meets its contract: 10 for short memory, the fault of plan or durations, or the times at the front of the buffer.
use Rattle.std.proofs.Common.{◌*◌, ap, arith, sym, ◌∙◌, length-take}
use Rattle.reply.specs.Result.{done}
use Rattle.reply.specs.Told.{told}
use Rattle.graph.specs.FrameOf.{few_jobs}
use Rattle.plan.proofs.CallLaws.{refused_filled, done_filled, put_front}
use Rattle.plan.proofs.ToldSteps.{has_room, met}
use Rattle.timed.proofs.CallLaws.{admitted_told, short_plan_told, short_durations_told, short_out_told, work_refused_told, work_done_told, timable, times_are, times_long, times_fit}
use Rattle.timed.proofs.run_framed.Goals as goal

pub overflow_mul-n : goal.overflow_mul-n
overflow_mul-n c = omega (arith, few_jobs c.requires.0)

pub returns-in_err-room : goal.returns-in_err-room
returns-in_err-room c =
    let e = short_plan_told c.requires.0 _ _ _ _ c.in_err-room.ensures in
    rw (met _ c.from_residual.ensures.1) (record { result = sym (ap (told (λ times. tt)) e); filled = refused_filled _ e })

pub returns-in_err-room-2 : goal.returns-in_err-room-2
returns-in_err-room-2 c =
    let e = short_durations_told c.requires.0 _ _ _ _ c.in_ok-room.ensures c.in_err-room-2.ensures in
    rw (met _ c.from_residual-in_err-room-2.ensures.1) (record { result = sym (ap (told (λ times. tt)) e); filled = refused_filled _ e })

pub returns-in_err-room-3 : goal.returns-in_err-room-3
returns-in_err-room-3 c =
    let e = short_out_told c.requires.0 _ _ _ _ c.in_ok-room.ensures c.in_ok-room-2.ensures c.in_err-room-3.ensures in
    rw (met _ c.from_residual-in_err-room-3.ensures.1) (record { result = sym (ap (told (λ times. tt)) e); filled = refused_filled _ e })

pub judge-requires : goal.judge-requires
judge-requires c = (c.requires.0, has_room _ _ c.in_ok-room.ensures, has_room _ _ c.in_ok-room-2.ensures)

pub returns-in_err-judge : goal.returns-in_err-judge
returns-in_err-judge c =
    let e = work_refused_told c.requires.0 _ _ _ _ c.in_ok-room.ensures c.in_ok-room-2.ensures c.in_ok-room-3.ensures c.in_err-judge.ensures in
    rw (met _ c.from_residual-in_err-judge.ensures.1) (record { result = sym (ap (told (λ times. tt)) e); filled = refused_filled _ e })

pub time_all-words-requires : goal.time_all-words-requires
time_all-words-requires c =
    let pre = c.requires in
    let good = admitted_told pre.0 _ pre.1 pre.2 _ _ (has_room _ _ c.in_ok-room.ensures) (has_room _ _ c.in_ok-room-2.ensures) c.in_ok-judge.ensures in
    record { work = _; m = _; timable = timable good }

pub slice_bounds-words-end : goal.slice_bounds-words-end
slice_bounds-words-end c =
    let pre = c.requires in
    let good = admitted_told pre.0 _ pre.1 pre.2 _ _ (has_room _ _ c.in_ok-room.ensures) (has_room _ _ c.in_ok-room-2.ensures) c.in_ok-judge.ensures in
    times_fit good _ (times_are good c.time_all-words.ensures)

pub slice_bounds-copy_from_slice-end-3 : goal.slice_bounds-copy_from_slice-end-3
slice_bounds-copy_from_slice-end-3 c =
    let pre = c.requires in
    let good = admitted_told pre.0 _ pre.1 pre.2 _ _ (has_room _ _ c.in_ok-room.ensures) (has_room _ _ c.in_ok-room-2.ensures) c.in_ok-judge.ensures in
    sym (times_long good _ (times_are good c.time_all-words.ensures))

pub copy_from_slice-requires : goal.copy_from_slice-requires
copy_from_slice-requires c =
    let pre = c.requires in
    let good = admitted_told pre.0 _ pre.1 pre.2 _ _ (has_room _ _ c.in_ok-room.ensures) (has_room _ _ c.in_ok-room-2.ensures) c.in_ok-judge.ensures in
    omega (
      arith,
      length-take (2 * c.args.framed.now.job_count) c.args.out.now,
      has_room _ _ c.in_ok-room-3.ensures,
      times_long good _ (times_are good c.time_all-words.ensures),
    )

pub returns : goal.returns
returns c =
    let pre = c.requires in
    let good = admitted_told pre.0 _ pre.1 pre.2 _ _ (has_room _ _ c.in_ok-room.ensures) (has_room _ _ c.in_ok-room-2.ensures) c.in_ok-judge.ensures in
    let told_so = c.time_all-words.ensures in
    let e = work_done_told pre.0 _ _ _ _ c.in_ok-room.ensures c.in_ok-room-2.ensures c.in_ok-room-3.ensures c.in_ok-judge.ensures in
    record {
      result = sym (ap (told (λ times. tt)) e);
      filled = rw c.copy_from_slice.ensures.after (put_front _ _ _ (sym (times_long good _ (times_are good told_so))) (has_room _ _ c.in_ok-room-3.ensures) ∙ done_filled _ (e ∙ ap done (sym (times_are good told_so))));
    }
