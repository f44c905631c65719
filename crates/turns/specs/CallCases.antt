-- The cases of the call: the numbers of processors and frames, the file, the lent words; plan, samples and turns; and the run.
use Rattle.std.specs.Prelude.{ℕ, ◌*◌, ◌≤◌, ◌<◌, ◌≡◌, List, length, leb, ◌&&◌, Ok, Err}
use Rattle.std.proofs.Common.{sym, ap, ◌∙◌, arith}
use borrow.Author.Tests.{leb-true, le-leb, lt-leb}
use Rattle.reply.specs.Result.{Result, done, refused, and_then}
use Rattle.reply.specs.ResultLaws.{require_done}
use Rattle.reply.specs.Reply.{reply_number}
use Rattle.reply.specs.Call.{ok_processors, ok_frames, room_of}
use Rattle.reply.specs.Tests.{both}
use Rattle.std.specs.declared.result.Result as Std
use Rattle.reply.specs.Told.{told, judged, refusal_in}
use Rattle.reply.specs.declared.Refusal.{Refusal}
use Rattle.reply.specs.declared.Reply.{Reply}
use Rattle.reply.specs.declared.Reply.TheVariants.{OutOfRange, ShortBuffer}
use Rattle.graph.specs.Work.{Work, load_work, job_count_of}
use Rattle.graph.specs.Graph.{frame_file}
use Rattle.graph.specs.FrameOf.{FrameOf, work_in, jobs_is, file_frame, file_accepted, file_refused}
use Rattle.graph.specs.declared.Framed.{Framed}
use Rattle.machine.specs.Samples.{ok_samples}
use Rattle.plan.specs.Plan.{checked_by}
use Rattle.plan.specs.CheckTold.{Judged}
use Rattle.plan.proofs.CallLaws.{frame_tables}
use Rattle.plan.proofs.ToldSteps.{judged_done, refused_told, accepted_zero, file_told}
use Rattle.promises.specs.Turns.{Between, ok_turns, turn_work, turn_call}
use Rattle.turns.specs.Turned.{turned_of, turn_filled}
use Rattle.turns.specs.Calls.{refused_with, turn_ran, judged_by, ran_in}
use Rattle.turns.specs.CallLaws.{all_judged}
use Rattle.turns.specs.declared.TurnRan.{TurnRan}

-- ---- what a step told

-- so many processors and frames
pub small_processors : {m : ℕ} → Ok tt ≡ judged (ok_processors m) → m ≤ 4
small_processors {m} e = leb-true m 4 (both (leb 1 m) (leb m 4) (require_done (leb 1 m && leb m 4) OutOfRange 0 (judged_done (ok_processors m) e))).1

pub small_frames : {frames : ℕ} → Ok tt ≡ judged (ok_frames frames) → frames ≤ 100
small_frames {frames} e = leb-true frames 100 (both (leb 1 frames) (leb frames 100) (require_done (leb 1 frames && leb frames 100) OutOfRange 0 (judged_done (ok_frames frames) e))).1

-- what a step told that gives a run
pub run_refused : {r : Result Between} {e : Refusal} → r ≡ refused e.reply e.place → Err e ≡ told turn_ran r
run_refused h = rw h

pub refused_filled : {r : Result Between} {reply : Reply} {place : ℕ} (output : List ℕ) → r ≡ refused reply place → output ≡ turn_filled r output
unfolding turn_filled
refused_filled output e = rw e

pub run_done : {r : Result Between} {c : Between} {x : TurnRan} → r ≡ done c → x ≡ turn_ran c → Ok x ≡ told turn_ran r
run_done h e = rw (h, e)

pub same_run : {r q : Result Between} {x : Std.Result TurnRan Refusal} → r ≡ q → x ≡ told turn_ran q → x ≡ told turn_ran r
same_run e f = f ∙ ap (told turn_ran) (sym e)

pub same_filled : {r q : Result Between} {after : List ℕ} (output : List ℕ) → r ≡ q → after ≡ turn_filled q output → after ≡ turn_filled r output
same_filled output e f = f ∙ ap (λ (r : Result Between). turn_filled r output) (sym e)

-- what the call returns of it
pub ran_is : (r : Result Between) {x : TurnRan} → Ok x ≡ told turn_ran r → x ≡ turned_of r
ran_is (done c) h = cc
ran_is (refused reply place) h = cc

pub refusal_is : (r : Result Between) {e : Refusal} {x : TurnRan} → Err e ≡ told turn_ran r → x ≡ refused_with e → x ≡ turned_of r
unfolding turned_of
refusal_is r h f = f ∙ rw (refused_told turn_ran r h)

-- ---- the run of a work

-- what was told of a frame's tables, of its work
module _ {framed : Framed} (frame : FrameOf framed) where
  pub plan_told : (m : ℕ) (plan : List ℕ) {r : Std.Result (Unit {0}) Refusal} → Judged framed.jobs framed.before framed.job_count m plan r → r ≡ judged (checked_by (work_in framed) m plan)
  plan_told m plan told = told.is (work_in framed) (frame_tables frame)

-- six steps, and then x
abbrev pub steps : {A : Type 0} → (s₁ s₂ s₃ s₄ s₅ s₆ : Result (Unit {0})) → A → Result A
steps s₁ s₂ s₃ s₄ s₅ s₆ x =
    and_then s₁ λ ok₁. and_then s₂ λ ok₂. and_then s₃ λ ok₃. and_then s₄ λ ok₄. and_then s₅ λ ok₅. and_then s₆ λ ok₆. done x

module _ {framed : Framed} (frame : FrameOf framed) (m frames : ℕ) (plan input list output : List ℕ) where
  abbrev J : ℕ
  J = framed.job_count

  pub work_steps : turn_work (work_in framed) m frames plan input list output
      ≡ steps (room_of (2 * framed.job_count) (length plan)) (room_of (2 * (framed.job_count * frames)) (length input)) (room_of (2 * (framed.job_count * frames)) (length output))
      (checked_by (work_in framed) m plan) (ok_samples (framed.job_count * frames) input) (ok_turns m list) (ran_in framed frames plan input list)
  unfolding turn_work
  work_steps = rw (jobs_is frame)

  pub plan_short : {e : Refusal} → Err e ≡ judged (room_of (2 * framed.job_count) (length plan)) → turn_work (work_in framed) m frames plan input list output ≡ refused e.reply e.place
  plan_short e = work_steps ∙ rw (refused_told (λ ok. ok) (room_of (2 * framed.job_count) (length plan)) e)

  module _ (planned : Ok tt ≡ judged (room_of (2 * framed.job_count) (length plan))) where
    has_plan : room_of (2 * framed.job_count) (length plan) ≡ done tt
    has_plan = judged_done (room_of (2 * framed.job_count) (length plan)) planned

    pub input_short : {e : Refusal} → Err e ≡ judged (room_of (2 * (framed.job_count * frames)) (length input)) → turn_work (work_in framed) m frames plan input list output ≡ refused e.reply e.place
    input_short e = work_steps ∙ rw (has_plan, refused_told (λ ok. ok) (room_of (2 * (framed.job_count * frames)) (length input)) e)

    module _ (there : Ok tt ≡ judged (room_of (2 * (framed.job_count * frames)) (length input))) where
      has_input : room_of (2 * (framed.job_count * frames)) (length input) ≡ done tt
      has_input = judged_done (room_of (2 * (framed.job_count * frames)) (length input)) there

      pub output_short : {e : Refusal} → Err e ≡ judged (room_of (2 * (framed.job_count * frames)) (length output)) → turn_work (work_in framed) m frames plan input list output ≡ refused e.reply e.place
      output_short e = work_steps ∙ rw (has_plan, has_input, refused_told (λ ok. ok) (room_of (2 * (framed.job_count * frames)) (length output)) e)

      module _ (room : Ok tt ≡ judged (room_of (2 * (framed.job_count * frames)) (length output))) where
        has_output : room_of (2 * (framed.job_count * frames)) (length output) ≡ done tt
        has_output = judged_done (room_of (2 * (framed.job_count * frames)) (length output)) room

        pub plan_faulty : {e : Refusal} → Err e ≡ judged (checked_by (work_in framed) m plan) → turn_work (work_in framed) m frames plan input list output ≡ refused e.reply e.place
        plan_faulty e = work_steps ∙ rw (has_plan, has_input, has_output, refused_told (λ ok. ok) (checked_by (work_in framed) m plan) e)

        module _ (good : Ok tt ≡ judged (checked_by (work_in framed) m plan)) where
          good_plan : checked_by (work_in framed) m plan ≡ done tt
          good_plan = judged_done (checked_by (work_in framed) m plan) good

          pub sample_wrong : {e : Refusal} → Err e ≡ judged (ok_samples (framed.job_count * frames) input) → turn_work (work_in framed) m frames plan input list output ≡ refused e.reply e.place
          sample_wrong e = work_steps ∙ rw (has_plan, has_input, has_output, good_plan, refused_told (λ ok. ok) (ok_samples (framed.job_count * frames) input) e)

          module _ (sampled : Ok tt ≡ judged (ok_samples (framed.job_count * frames) input)) where
            good_samples : ok_samples (framed.job_count * frames) input ≡ done tt
            good_samples = judged_done (ok_samples (framed.job_count * frames) input) sampled

            pub turn_wrong : {e : Refusal} → Err e ≡ judged (ok_turns m list) → turn_work (work_in framed) m frames plan input list output ≡ refused e.reply e.place
            turn_wrong e = work_steps ∙ rw (has_plan, has_input, has_output, good_plan, good_samples, refused_told (λ ok. ok) (ok_turns m list) e)

            module _ (named : Ok tt ≡ judged (ok_turns m list)) where
              good_turns : ok_turns m list ≡ done tt
              good_turns = judged_done (ok_turns m list) named

              pub all_good : turn_work (work_in framed) m frames plan input list output ≡ done (ran_in framed frames plan input list)
              all_good = work_steps ∙ rw (has_plan, has_input, has_output, good_plan, good_samples, good_turns)

              pub good_judged : judged_by (work_in framed) m frames plan input list ≡ done tt
              good_judged = all_judged (work_in framed) m frames plan input list good_plan (rw (jobs_is frame) at good_samples) good_turns

-- ---- the call

module _ (file : List ℕ) (m frames : ℕ) (plan input list output : List ℕ) where
  pub processors_refused : {e : Refusal} → Err e ≡ judged (ok_processors m) → turn_call file m frames plan input list output ≡ refused e.reply e.place
  unfolding turn_call
  processors_refused e = rw (refused_told (λ ok. ok) (ok_processors m) e)

  module _ (few : Ok tt ≡ judged (ok_processors m)) where
    pub frames_refused : {e : Refusal} → Err e ≡ judged (ok_frames frames) → turn_call file m frames plan input list output ≡ refused e.reply e.place
    unfolding turn_call
    frames_refused e = rw (judged_done (ok_processors m) few, refused_told (λ ok. ok) (ok_frames frames) e)

    module _ (asked : Ok tt ≡ judged (ok_frames frames)) {framed : Framed} (told_frame : framed ≡ frame_file file) where
      pub file_stops : {e : Refusal} → Err e ≡ refusal_in framed.answer → turn_call file m frames plan input list output ≡ refused e.reply e.place
      unfolding turn_call
      file_stops e = rw (
        judged_done (ok_processors m) few,
        judged_done (ok_frames frames) asked,
        refused_told (λ (w : Work). tt) (load_work file) (e ∙ file_told file told_frame),
      )

      module _ (accepted : Ok tt ≡ refusal_in framed.answer) where
        pub frame_there : FrameOf framed
        frame_there = file_frame file told_frame (accepted_zero framed.answer accepted)

        pub frame_runs : turn_call file m frames plan input list output ≡ turn_work (work_in framed) m frames plan input list output
        unfolding turn_call
        frame_runs = rw (judged_done (ok_processors m) few, judged_done (ok_frames frames) asked) (file_accepted file told_frame _ (accepted_zero framed.answer accepted))

-- ---- the same cases, by the numbers

module _ {framed : Framed} (frame : FrameOf framed) (m frames : ℕ) (plan input list output : List ℕ) where
  abbrev w : Work
  w = work_in framed

  abbrev needed : 2 * (framed.job_count * frames) ≡ 2 * (job_count_of (work_in framed) * frames)
  needed = ap (λ (n : ℕ). 2 * (n * frames)) (jobs_is frame)

  pub short_plan : length plan < 2 * framed.job_count → turn_work (work_in framed) m frames plan input list output ≡ refused ShortBuffer 0
  unfolding turn_work
  short_plan h = rw (lt-leb (2 * job_count_of w) (length plan) (omega (arith, jobs_is frame)))

  module _ (planned : 2 * framed.job_count ≤ length plan) where
    pub short_input : length input < 2 * (framed.job_count * frames) → turn_work (work_in framed) m frames plan input list output ≡ refused ShortBuffer 0
    unfolding turn_work
    short_input h = rw (le-leb (2 * job_count_of w) (length plan) (omega (arith, jobs_is frame)), lt-leb (2 * (job_count_of w * frames)) (length input) (omega (arith, needed)))

    module _ (there : 2 * (framed.job_count * frames) ≤ length input) where
      pub short_output : length output < 2 * (framed.job_count * frames) → turn_work (work_in framed) m frames plan input list output ≡ refused ShortBuffer 0
      unfolding turn_work
      short_output h = rw (
        le-leb (2 * job_count_of w) (length plan) (omega (arith, jobs_is frame)),
        le-leb (2 * (job_count_of w * frames)) (length input) (omega (arith, needed)),
        lt-leb (2 * (job_count_of w * frames)) (length output) (omega (arith, needed)),
      )

module _ (file : List ℕ) (m frames : ℕ) (plan input list output : List ℕ) where
  pub no_processors : m < 1 → turn_call file m frames plan input list output ≡ refused OutOfRange 0
  unfolding turn_call
  no_processors h = rw (lt-leb 1 m h)

  module _ (one : 1 ≤ m) where
    pub many_processors : 4 < m → turn_call file m frames plan input list output ≡ refused OutOfRange 0
    unfolding turn_call
    many_processors h = rw (le-leb 1 m one, lt-leb m 4 h)

    module _ (four : m ≤ 4) where
      pub no_frames : frames < 1 → turn_call file m frames plan input list output ≡ refused OutOfRange 0
      unfolding turn_call
      no_frames h = rw (le-leb 1 m one, le-leb m 4 four, lt-leb 1 frames h)

      module _ (some : 1 ≤ frames) where
        pub many_frames : 100 < frames → turn_call file m frames plan input list output ≡ refused OutOfRange 0
        unfolding turn_call
        many_frames h = rw (le-leb 1 m one, le-leb m 4 four, le-leb 1 frames some, lt-leb frames 100 h)

        module _ (few : frames ≤ 100) {framed : Framed} (told : framed ≡ frame_file file) where
          in_range : turn_call file m frames plan input list output ≡ and_then (load_work file) λ w. turn_work w m frames plan input list output
          unfolding turn_call
          in_range = rw (le-leb 1 m one, le-leb m 4 four, le-leb 1 frames some, le-leb frames 100 few)

          pub frame_refused : (reply_number framed.answer.reply ≡ 0 → ⊥) → turn_call file m frames plan input list output ≡ refused framed.answer.reply framed.answer.place
          frame_refused other = in_range ∙ file_refused file told _ other

          pub frame_run : reply_number framed.answer.reply ≡ 0 → turn_call file m frames plan input list output ≡ turn_work (work_in framed) m frames plan input list output
          frame_run zero = in_range ∙ file_accepted file told _ zero
