-- The cases of the call and of a run, by the numbers that are compared: each refusal, and the run.
use Rattle.std.specs.Prelude.{ℕ, ◌*◌, ◌≤◌, ◌<◌, ◌≡◌, List, length}
use Rattle.std.proofs.Math.Path.{ap}
use Rattle.std.proofs.Common.{sym, subst, ◌∙◌}
use borrow.Author.Tests.{le-leb, lt-leb}
use Rattle.reply.specs.Result.{Result, done, refused, and_then, answer_of}
use Rattle.reply.specs.ResultLaws.{zero_means, other_means}
use Rattle.reply.specs.Reply.{reply_number}
use Rattle.reply.specs.declared.Answer.{Answer}
use Rattle.reply.specs.declared.Reply.{Reply}
use Rattle.reply.specs.declared.Reply.TheVariants.{OutOfRange, ShortBuffer}
use Rattle.graph.specs.Work.{Work, load_work, job_count_of}
use Rattle.graph.specs.Graph.{frame_file}
use Rattle.graph.specs.FrameOf.{FrameOf, work_in, jobs_is, file_accepted, file_refused}
use Rattle.graph.specs.declared.Framed.{Framed}
use Rattle.machine.specs.Samples.{ok_samples}
use Rattle.machine.specs.SampleLaws.{honest_samples}
use Rattle.zero_delay.specs.declared.Ran.{Ran}
use Rattle.zero_delay.specs.ZeroDelay.{Sofar, ran_jobs, run_work, zero_delay, ran_of}
use Rattle.zero_delay.specs.Calls.{refused_with}

-- ---- the cases of a run

module _ (w : Work) (frames : ℕ) (input output : List ℕ) where
  pub short_input : length input < 2 * (job_count_of w * frames) → run_work w frames input output ≡ refused ShortBuffer 0
  unfolding run_work
  short_input h = rw (lt-leb _ _ h)

  module _ (there : 2 * (job_count_of w * frames) ≤ length input) where
    pub short_output : length output < 2 * (job_count_of w * frames) → run_work w frames input output ≡ refused ShortBuffer 0
    unfolding run_work
    short_output h = rw (le-leb _ _ there, lt-leb _ _ h)

    module _ (room : 2 * (job_count_of w * frames) ≤ length output) where
      after_rooms : run_work w frames input output ≡ and_then (ok_samples (job_count_of w * frames) input) λ ok. done (ran_jobs w input (job_count_of w * frames))
      unfolding run_work
      after_rooms = rw (le-leb _ _ there, le-leb _ _ room)

      pub bad_sample : {reply : Reply} {place : ℕ} → ok_samples (job_count_of w * frames) input ≡ refused reply place → run_work w frames input output ≡ refused reply place
      bad_sample e = after_rooms ∙ rw e

      pub good_samples : ok_samples (job_count_of w * frames) input ≡ done tt → run_work w frames input output ≡ done (ran_jobs w input (job_count_of w * frames))
      good_samples e = after_rooms ∙ rw e

-- the same of a frame
module _ {framed : Framed} (frame : FrameOf framed) (frames : ℕ) (input output : List ℕ) where
  pub frame_short_input : length input < 2 * (framed.job_count * frames) → run_work (work_in framed) frames input output ≡ refused ShortBuffer 0
  frame_short_input h = short_input _ frames input output (subst (λ J. length input < 2 * (J * frames)) (jobs_is frame) h)

  module _ (there : 2 * (framed.job_count * frames) ≤ length input) where
    there_is : 2 * (job_count_of (work_in framed) * frames) ≤ length input
    there_is = subst (λ J. 2 * (J * frames) ≤ length input) (jobs_is frame) there

    pub frame_short_output : length output < 2 * (framed.job_count * frames) → run_work (work_in framed) frames input output ≡ refused ShortBuffer 0
    frame_short_output h = short_output _ frames input output there_is (subst (λ J. length output < 2 * (J * frames)) (jobs_is frame) h)

    module _ (room : 2 * (framed.job_count * frames) ≤ length output) {judged : Answer} (told : judged ≡ answer_of (ok_samples (framed.job_count * frames) input)) where
      room_is : 2 * (job_count_of (work_in framed) * frames) ≤ length output
      room_is = subst (λ J. 2 * (J * frames) ≤ length output) (jobs_is frame) room

      judged_is : judged ≡ answer_of (ok_samples (job_count_of (work_in framed) * frames) input)
      judged_is = told ∙ ap (λ (J : ℕ). answer_of (ok_samples (J * frames) input)) (jobs_is frame)

      pub frame_bad_sample : (reply_number judged.reply ≡ 0 → ⊥)
          → run_work (work_in framed) frames input output ≡ refused judged.reply judged.place
      frame_bad_sample other =
          other_means (ok_samples (job_count_of (work_in framed) * frames) input) (λ z. other (rw judged_is z)) λ reply place e.
          rw (judged_is, e) (bad_sample _ frames input output there_is room_is e)

      pub frame_good_samples : reply_number judged.reply ≡ 0
          → run_work (work_in framed) frames input output ≡ done (ran_jobs (work_in framed) input (job_count_of (work_in framed) * frames))
      frame_good_samples zero =
          zero_means (ok_samples (job_count_of (work_in framed) * frames) input) (honest_samples (job_count_of (work_in framed) * frames) input) (rw judged_is at zero) λ ok e.
          good_samples _ frames input output there_is room_is e

-- what a refused run returns
pub refused_ran : {r : Result Sofar} {reply : Reply} {place : ℕ} → r ≡ refused reply place → refused_with (record { reply = reply; place = place }) ≡ ran_of r
unfolding ran_of
refused_ran e = rw e

-- what a run that is another returns
pub same_ran : {r q : Result Sofar} {x : Ran} → r ≡ q → x ≡ ran_of q → x ≡ ran_of r
same_ran e f = f ∙ ap ran_of (sym e)

-- ---- the cases of the call

module _ (file : List ℕ) (frames : ℕ) (input output : List ℕ) where
  pub no_frames : frames < 1 → zero_delay file frames input output ≡ refused OutOfRange 0
  unfolding zero_delay
  no_frames h = rw (lt-leb 1 frames h)

  module _ (some : 1 ≤ frames) where
    pub many_frames : 100 < frames → zero_delay file frames input output ≡ refused OutOfRange 0
    unfolding zero_delay
    many_frames h = rw (le-leb 1 frames some, lt-leb frames 100 h)

    module _ (few : frames ≤ 100) {framed : Framed} (told : framed ≡ frame_file file) where
      in_range : zero_delay file frames input output ≡ and_then (load_work file) λ w. run_work w frames input output
      unfolding zero_delay
      in_range = rw (le-leb 1 frames some, le-leb frames 100 few)

      pub frame_refused : (reply_number framed.answer.reply ≡ 0 → ⊥) → zero_delay file frames input output ≡ refused framed.answer.reply framed.answer.place
      frame_refused other = in_range ∙ file_refused file told _ other

      pub frame_run : reply_number framed.answer.reply ≡ 0 → zero_delay file frames input output ≡ run_work (work_in framed) frames input output
      frame_run zero = in_range ∙ file_accepted file told _ zero
