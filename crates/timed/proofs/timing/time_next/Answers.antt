-- `timing::time_next` meets its contract: the job that is planned next gets its start and its end.
use Rattle.std.proofs.Common.{arith}
use Rattle.timed.proofs.TimedSteps.{chosen_told, chosen_low, chosen_fits, chosen_processor, chosen_small, chosen_reached}
use Rattle.timed.proofs.TimedKeys.{key_timed}
use Rattle.timed.proofs.timing.time_next.Goals as goal

pub offset_bounds-framed-job : goal.offset_bounds-framed-job
offset_bounds-framed-job c = let pre = c.requires.next in omega (arith, chosen_fits pre.reached pre.below (chosen_told pre.reached pre.below c.requires.keys_tell c.choose-job.ensures))

pub bounds-framed-job : goal.bounds-framed-job
bounds-framed-job c = let pre = c.requires.next in chosen_fits pre.reached pre.below (chosen_told pre.reached pre.below c.requires.keys_tell c.choose-job.ensures)

pub offset_bounds-framed-job-2 : goal.offset_bounds-framed-job-2
offset_bounds-framed-job-2 c = let pre = c.requires.next in omega (arith, chosen_fits pre.reached pre.below (chosen_told pre.reached pre.below c.requires.keys_tell c.choose-job.ensures))

pub bounds-framed-job-2 : goal.bounds-framed-job-2
bounds-framed-job-2 c = let pre = c.requires.next in chosen_fits pre.reached pre.below (chosen_told pre.reached pre.below c.requires.keys_tell c.choose-job.ensures)

pub ready_at-ready-requires : goal.ready_at-ready-requires
ready_at-ready-requires c = let pre = c.requires.next in omega (arith, chosen_fits pre.reached pre.below (chosen_told pre.reached pre.below c.requires.keys_tell c.choose-job.ensures))

pub overflow_mul-processor : goal.overflow_mul-processor
overflow_mul-processor c = let pre = c.requires.next in omega (arith, chosen_fits pre.reached pre.below (chosen_told pre.reached pre.below c.requires.keys_tell c.choose-job.ensures))

pub offset_bounds-plan-job : goal.offset_bounds-plan-job
offset_bounds-plan-job c = let pre = c.requires.next in omega (arith, chosen_fits pre.reached pre.below (chosen_told pre.reached pre.below c.requires.keys_tell c.choose-job.ensures))

pub bounds-plan-job : goal.bounds-plan-job
bounds-plan-job c = let pre = c.requires.next in omega (arith, chosen_low pre.reached pre.below (chosen_told pre.reached pre.below c.requires.keys_tell c.choose-job.ensures), pre.reached.timable.plan_there)

pub bounds-timing-processor : goal.bounds-timing-processor
bounds-timing-processor c = let pre = c.requires.next in chosen_processor pre.reached pre.below (chosen_told pre.reached pre.below c.requires.keys_tell c.choose-job.ensures)

pub offset_bounds-durations-job : goal.offset_bounds-durations-job
offset_bounds-durations-job c = let pre = c.requires.next in omega (arith, chosen_fits pre.reached pre.below (chosen_told pre.reached pre.below c.requires.keys_tell c.choose-job.ensures))

pub bounds-durations-job : goal.bounds-durations-job
bounds-durations-job c = let pre = c.requires.next in omega (arith, chosen_low pre.reached pre.below (chosen_told pre.reached pre.below c.requires.keys_tell c.choose-job.ensures), pre.reached.timable.durations_there)

pub overflow_add-end : goal.overflow_add-end
overflow_add-end c = let pre = c.requires.next in omega (arith, chosen_small pre.reached pre.below (chosen_told pre.reached pre.below c.requires.keys_tell c.choose-job.ensures) c.ready_at-ready.ensures c.max-start.ensures)

pub stand-requires : goal.stand-requires
stand-requires c = let pre = c.requires.next in (chosen_fits pre.reached pre.below (chosen_told pre.reached pre.below c.requires.keys_tell c.choose-job.ensures), chosen_processor pre.reached pre.below (chosen_told pre.reached pre.below c.requires.keys_tell c.choose-job.ensures))

pub offset_bounds-keys-job : goal.offset_bounds-keys-job
offset_bounds-keys-job c = let pre = c.requires.next in omega (arith, chosen_fits pre.reached pre.below (chosen_told pre.reached pre.below c.requires.keys_tell c.choose-job.ensures))

pub bounds-keys-job : goal.bounds-keys-job
bounds-keys-job c = let pre = c.requires.next in chosen_fits pre.reached pre.below (chosen_told pre.reached pre.below c.requires.keys_tell c.choose-job.ensures)

pub returns : goal.returns
returns c =
    let pre = c.requires.next in
    record {
      stepped = record {
        is = λ w m k h R.
            rw c.stand.ensures (chosen_reached R h (chosen_told R h c.requires.keys_tell c.choose-job.ensures) c.ready_at-ready.ensures c.max-start.ensures);
      };
      keys_tell =
          rw c.stand.ensures
          (key_timed c.requires.keys_tell (chosen_low pre.reached pre.below (chosen_told pre.reached pre.below c.requires.keys_tell c.choose-job.ensures)) pre.reached.timable.few);
    }
