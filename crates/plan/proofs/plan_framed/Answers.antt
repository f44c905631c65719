-- `plan_framed` meets its contract: 10 for a short buffer, 19 for a deadline missed, or the plan at the front of the buffer.
use Rattle.std.proofs.Common.{◌*◌, ap, arith, sym, ◌∙◌, length-take}
use Rattle.reply.specs.Told.{told}
use Rattle.graph.specs.FrameOf.{few_jobs}
use Rattle.plan.proofs.CallLaws.{tabled, short_room_told, enough_room_told, planned_missed, planned_done, refused_filled, planned_filled, same_filled, front_size, front_fits, put_front}
use Rattle.plan.proofs.ToldSteps.{has_room, met}
use Rattle.plan.proofs.plan_framed.Goals as goal

pub overflow_mul-n : goal.overflow_mul-n
overflow_mul-n c = omega (arith, few_jobs c.requires.0)

pub returns-in_err-room : goal.returns-in_err-room
returns-in_err-room c =
    let e = short_room_told c.requires.0 _ _ c.in_err-room.ensures in
    rw (met _ c.from_residual.ensures.1) (record { result = sym (ap (told (λ words. tt)) e); filled = refused_filled _ e })

pub place_all-requires : goal.place_all-requires
place_all-requires c = let pre = c.requires in record { work = _; tabled = tabled pre.0 _ pre.1 pre.2 }

pub returns-in_err-words : goal.returns-in_err-words
returns-in_err-words c =
    let pre = c.requires in
    let e = enough_room_told pre.0 _ _ c.in_ok-room.ensures ∙ planned_missed (c.in_err-words.ensures.is _ (tabled pre.0 _ pre.1 pre.2)) in
    rw (met _ c.from_residual-in_err-words.ensures.1) (record { result = sym (ap (told (λ words. tt)) e); filled = refused_filled _ e })

pub slice_bounds-words-end : goal.slice_bounds-words-end
slice_bounds-words-end c = let pre = c.requires in front_fits pre.0 _ pre.1 (c.in_ok-words.ensures.is _ (tabled pre.0 _ pre.1 pre.2))

pub slice_bounds-copy_from_slice-end-3 : goal.slice_bounds-copy_from_slice-end-3
slice_bounds-copy_from_slice-end-3 c = let pre = c.requires in front_size pre.0 _ pre.1 (c.in_ok-words.ensures.is _ (tabled pre.0 _ pre.1 pre.2))

pub copy_from_slice-requires : goal.copy_from_slice-requires
copy_from_slice-requires c = let pre = c.requires in omega (
  arith,
  length-take (2 * c.args.framed.now.job_count) c.args.out.now,
  has_room _ _ c.in_ok-room.ensures,
  front_size pre.0 _ pre.1 (c.in_ok-words.ensures.is _ (tabled pre.0 _ pre.1 pre.2)),
)

pub returns : goal.returns
returns c =
    let pre = c.requires in
    let told_so = c.in_ok-words.ensures.is _ (tabled pre.0 _ pre.1 pre.2) in
    let e = enough_room_told pre.0 _ _ c.in_ok-room.ensures ∙ planned_done told_so in
    record {
      result = sym (ap (told (λ words. tt)) e);
      filled = rw c.copy_from_slice.ensures.after (put_front _ _ _ (front_size pre.0 _ pre.1 told_so) (has_room _ _ c.in_ok-room.ensures) ∙ planned_filled _ told_so ∙ same_filled _ (enough_room_told pre.0 _ _ c.in_ok-room.ensures));
    }
