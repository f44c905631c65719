-- The cases of the call: the number of processors, the file, the lent words, the plan and the durations; and that the tables of a frame are those of its work.
use Rattle.std.specs.Prelude.{ℕ, ◌*◌, ◌≤◌, ◌<◌, ◌≡◌, refl, List, leb, length, get_or, take, Ok, Err}
use Rattle.std.proofs.Common.{sym, ap, subst, ◌∙◌, arith, length-take}
use borrow.Author.Tests.{le-leb, lt-leb}
use Rattle.std.proofs.lemmas.List.Edits.{sets}
use Rattle.reply.specs.Reply.{reply_number}
use Rattle.reply.specs.declared.Answer.{Answer}
use Rattle.reply.specs.Result.{Result, done, refused, and_then, require, in_order, answer_of}
use Rattle.reply.specs.ResultLaws.{zero_means, other_means, accepted, order_same}
use Rattle.reply.specs.Call.{ok_processors, room_of, ok_room}
use Rattle.reply.specs.Told.{judged, refusal_in}
use Rattle.reply.specs.declared.Refusal.{Refusal}
use Rattle.reply.specs.declared.Reply.TheVariants.{OutOfRange, ShortBuffer, LongDuration}
use Rattle.network.specs.Lists.{table}
use Rattle.network.specs.ListLaws.{length_table, get_or_table}
use Rattle.graph.specs.Columns.{Column}
use Rattle.graph.specs.Work.{Work, load_work, job_of, job_count_of, cost}
use Rattle.graph.specs.Graph.{frame_file}
use Rattle.graph.specs.FrameOf.{FrameOf, work_in, work_is, job_is, jobs_is, file_accepted, file_refused}
use Rattle.graph.specs.declared.Framed.{Framed}
use Rattle.graph.specs.declared.Job.{Job}
use Rattle.plan.specs.Plan.{checked_by, plan_filled}
use Rattle.plan.proofs.CheckLaws.{honest_check}
use Rattle.plan.specs.PlanTold.{Tabled}
use Rattle.plan.proofs.CallLaws.{tabled}
use Rattle.plan.proofs.ToldSteps.{told_stop, told_refused, told_next, accepted_zero, file_told, judged_done}
use Rattle.timed.specs.Timed.{duration_of, times_of, ok_durations, ok_timed, timed_work, timed_call, timed_filled}
use Rattle.timed.specs.PlannedOrder.{Ordered}
use Rattle.timed.proofs.TimedLaws.{computed, one_solution}
use Rattle.timed.specs.TimedTold.{ok_within, lent, Timable, AllTimed, Admitted}
use Rattle.timed.proofs.Promise.{durations_short, honest_timed, ordered_by}

-- a column of whatever table
any_column : {A : Type 0} → A → (A → ℕ) → List A → List ℕ
any_column none field l = table 128 (λ j. field (get_or l j none))

any_column_lem : {A : Type 0} (none : A) (field : A → ℕ) (l : List A) → Column none field l (any_column none field l)
unfolding any_column
any_column_lem none field l = record { size = length_table 128 _; each = λ j h. get_or_table 128 _ j 0 h }

module _ {framed : Framed} (frame : FrameOf framed) where
  -- ---- plan and durations

  budget_is : (j : ℕ) → (job_of framed.jobs j).budget ≡ cost (work_in framed) j
  budget_is j = ap (λ (x : Job). x.budget) (job_is frame j) ∙ ap (λ (w : Work). cost w j) (sym (work_is frame))

  durations_are : (durations : List ℕ) → ok_within framed.jobs framed.job_count durations ≡ ok_durations (work_in framed) durations
  unfolding ok_within ok_durations
  durations_are durations =
      ap (λ (n : ℕ). in_order n (λ j. require (leb (duration_of durations j) (job_of framed.jobs j).budget) LongDuration j)) (jobs_is frame)
      ∙ order_same (job_count_of (work_in framed)) _ _ (λ j h. rw (budget_is j) refl)

  module _ (m : ℕ) (plan durations : List ℕ) {judged : Answer} (is : judged ≡ answer_of (checked_by (work_in framed) m plan)) where
    pub plan_good : reply_number judged.reply ≡ 0 → ok_within framed.jobs framed.job_count durations ≡ ok_timed (work_in framed) m plan durations
    unfolding ok_timed
    plan_good zero =
        zero_means (checked_by (work_in framed) m plan) (honest_check (work_in framed) m plan) (rw is at zero) λ ok e.
        rw e (durations_are durations)

    pub plan_faulty : (reply_number judged.reply ≡ 0 → ⊥) → judged ≡ answer_of (ok_timed (work_in framed) m plan durations)
    unfolding ok_timed
    plan_faulty other = is ∙ other_means (checked_by (work_in framed) m plan) (λ z. other (rw is z)) λ reply place e. rw e refl

  pub admitted : (m : ℕ) → 1 ≤ m → m ≤ 4 → (plan durations : List ℕ) → 2 * framed.job_count ≤ length plan → framed.job_count ≤ length durations
      → {judged : Answer} → judged ≡ answer_of (ok_timed (work_in framed) m plan durations) → reply_number judged.reply ≡ 0 → Admitted framed plan durations
  admitted m some few plan durations long_plan long-durations is zero =
      zero_means (ok_timed (work_in framed) m plan durations) (honest_timed (work_in framed) durations m plan) (rw is at zero) λ ok e.
      record { frame = frame; m = m; some = some; few = few; plan_there = long_plan; durations_there = long-durations; accepted = e }

  module _ (m : ℕ) (plan durations : List ℕ) where
    pub plan_good_told : {u : Unit {0}} → Ok u ≡ judged (checked_by (work_in framed) m plan) → ok_within framed.jobs framed.job_count durations ≡ ok_timed (work_in framed) m plan durations
    unfolding ok_timed
    plan_good_told h = durations_are durations ∙ sym (told_next (checked_by (work_in framed) m plan) _ h)

    pub plan_faulty_told : {e : Refusal} → Err e ≡ judged (checked_by (work_in framed) m plan) → Err e ≡ judged (ok_timed (work_in framed) m plan durations)
    unfolding ok_timed
    plan_faulty_told h = told_stop (λ ok. ok) (λ ok. ok) (checked_by (work_in framed) m plan) _ h

  pub admitted_told : (m : ℕ) → 1 ≤ m → m ≤ 4 → (plan durations : List ℕ) → 2 * framed.job_count ≤ length plan → framed.job_count ≤ length durations
      → {u : Unit {0}} → Ok u ≡ judged (ok_timed (work_in framed) m plan durations) → Admitted framed plan durations
  admitted_told m some few plan durations long_plan long_durations good =
      record { frame = frame; m = m; some = some; few = few; plan_there = long_plan; durations_there = long_durations; accepted = judged_done (ok_timed (work_in framed) m plan durations) good }

  -- ---- room

  module _ (m : ℕ) (plan durations out : List ℕ) where
    pub short_plan : length plan < 2 * framed.job_count → timed_work (work_in framed) m plan durations out ≡ refused ShortBuffer 0
    unfolding timed_work
    short_plan h = rw (lt-leb (2 * job_count_of (work_in framed)) (length plan) (omega (arith, jobs_is frame))) refl

    module _ (long_plan : 2 * framed.job_count ≤ length plan) where
      pub short_durations : length durations < framed.job_count → timed_work (work_in framed) m plan durations out ≡ refused ShortBuffer 0
      unfolding timed_work
      short_durations h = rw (
        le-leb (2 * job_count_of (work_in framed)) (length plan) (omega (arith, jobs_is frame)),
        lt-leb (job_count_of (work_in framed)) (length durations) (omega (arith, jobs_is frame)),
      ) refl

      module _ (long-durations : framed.job_count ≤ length durations) where
        pub short_out : length out < 2 * framed.job_count → timed_work (work_in framed) m plan durations out ≡ refused ShortBuffer 0
        unfolding timed_work
        short_out h = rw (
          le-leb (2 * job_count_of (work_in framed)) (length plan) (omega (arith, jobs_is frame)),
          le-leb (job_count_of (work_in framed)) (length durations) (omega (arith, jobs_is frame)),
          lt-leb (2 * job_count_of (work_in framed)) (length out) (omega (arith, jobs_is frame)),
        ) refl

        module _ (long-out : 2 * framed.job_count ≤ length out) {judged : Answer} (is : judged ≡ answer_of (ok_timed (work_in framed) m plan durations)) where
          in_room : timed_work (work_in framed) m plan durations out ≡ and_then (ok_timed (work_in framed) m plan durations) λ ok. done (times_of (work_in framed) plan durations)
          unfolding timed_work
          in_room = rw (
            le-leb (2 * job_count_of (work_in framed)) (length plan) (omega (arith, jobs_is frame)),
            le-leb (job_count_of (work_in framed)) (length durations) (omega (arith, jobs_is frame)),
            le-leb (2 * job_count_of (work_in framed)) (length out) (omega (arith, jobs_is frame)),
          ) refl

          pub work_refused : (reply_number judged.reply ≡ 0 → ⊥) → timed_work (work_in framed) m plan durations out ≡ refused judged.reply judged.place
          work_refused other =
              in_room ∙ other_means (ok_timed (work_in framed) m plan durations) (λ z. other (rw is z)) λ reply place e. rw (is, e) refl

          module _ (zero : reply_number judged.reply ≡ 0) where
            pub work_done : timed_work (work_in framed) m plan durations out ≡ done (times_of (work_in framed) plan durations)
            work_done =
                in_room ∙ zero_means (ok_timed (work_in framed) m plan durations) (honest_timed (work_in framed) durations m plan) (rw is at zero) λ ok e. rw e refl

            pub work_filled : (words : List ℕ) → take (2 * framed.job_count) words ≡ times_of (work_in framed) plan durations
                → sets out 0 (take (2 * framed.job_count) words) ≡ timed_filled (timed_work (work_in framed) m plan durations out) out
            unfolding plan_filled
            work_filled words told = ap (sets out 0) told ∙ sym (ap (λ (r : Result (List ℕ)). plan_filled r out) work_done)

            pub work_answer : judged ≡ answer_of (timed_work (work_in framed) m plan durations out)
            work_answer =
                is
                ∙ zero_means (ok_timed (work_in framed) m plan durations) (honest_timed (work_in framed) durations m plan) (rw is at zero) (λ ok e. ap answer_of e)
                ∙ sym (ap answer_of work_done)

  -- ---- the same, by what the code is told

  module _ (m : ℕ) (plan durations out : List ℕ) where
    abbrev w : Work
    w = work_in framed

    abbrev J : ℕ
    J = job_count_of w

    -- two words for each job, and one
    twice : (buffer : List ℕ) → judged (room_of (2 * framed.job_count) (length buffer)) ≡ judged (ok_room (2 * job_count_of (work_in framed)) buffer)
    twice buffer = ap (λ (n : ℕ). judged (room_of (2 * n) (length buffer))) (jobs_is frame)

    once : (buffer : List ℕ) → judged (room_of framed.job_count (length buffer)) ≡ judged (ok_room (job_count_of (work_in framed)) buffer)
    once buffer = ap (λ (n : ℕ). judged (room_of n (length buffer))) (jobs_is frame)

    pub short_plan_told : {e : Refusal} → Err e ≡ judged (room_of (2 * framed.job_count) (length plan)) → timed_work (work_in framed) m plan durations out ≡ refused e.reply e.place
    unfolding timed_work
    short_plan_told h = told_refused (λ ok. ok) (ok_room (2 * J) plan) _ (h ∙ twice plan)

    module _ {u₁ : Unit {0}} (a : Ok u₁ ≡ judged (room_of (2 * framed.job_count) (length plan))) where
      pub short_durations_told : {e : Refusal} → Err e ≡ judged (room_of framed.job_count (length durations)) → timed_work (work_in framed) m plan durations out ≡ refused e.reply e.place
      unfolding timed_work
      short_durations_told h = told_next (ok_room (2 * J) plan) _ (a ∙ twice plan) ∙ told_refused (λ ok. ok) (ok_room J durations) _ (h ∙ once durations)

      module _ {u₂ : Unit {0}} (b : Ok u₂ ≡ judged (room_of framed.job_count (length durations))) where
        pub short_out_told : {e : Refusal} → Err e ≡ judged (room_of (2 * framed.job_count) (length out)) → timed_work (work_in framed) m plan durations out ≡ refused e.reply e.place
        unfolding timed_work
        short_out_told h =
            told_next (ok_room (2 * J) plan) _ (a ∙ twice plan)
            ∙ told_next (ok_room J durations) _ (b ∙ once durations)
            ∙ told_refused (λ ok. ok) (ok_room (2 * J) out) _ (h ∙ twice out)

        module _ {u₃ : Unit {0}} (c : Ok u₃ ≡ judged (room_of (2 * framed.job_count) (length out))) where
          pub work_refused_told : {e : Refusal} → Err e ≡ judged (ok_timed (work_in framed) m plan durations) → timed_work (work_in framed) m plan durations out ≡ refused e.reply e.place
          unfolding timed_work
          work_refused_told h =
              told_next (ok_room (2 * J) plan) _ (a ∙ twice plan)
              ∙ told_next (ok_room J durations) _ (b ∙ once durations)
              ∙ told_next (ok_room (2 * J) out) _ (c ∙ twice out)
              ∙ told_refused (λ ok. ok) (ok_timed w m plan durations) _ h

          pub work_done_told : {v : Unit {0}} → Ok v ≡ judged (ok_timed (work_in framed) m plan durations) → timed_work (work_in framed) m plan durations out ≡ done (times_of (work_in framed) plan durations)
          unfolding timed_work
          work_done_told h =
              told_next (ok_room (2 * J) plan) _ (a ∙ twice plan)
              ∙ told_next (ok_room J durations) _ (b ∙ once durations)
              ∙ told_next (ok_room (2 * J) out) _ (c ∙ twice out)
              ∙ told_next (ok_timed w m plan durations) _ h

-- ---- the tables

module _ {framed : Framed} {plan durations : List ℕ} (A : Admitted framed plan durations) where
  in_order_lem : Ordered (work_in framed) A.m plan
  unfolding ok_timed
  in_order_lem =
      accepted (checked_by (work_in framed) A.m plan) (λ ok. ok_durations (work_in framed) durations) tt A.accepted λ ok good short.
      subst (λ (x : Work). checked_by x A.m plan ≡ done tt → Ordered x A.m plan) (sym (work_is A.frame))
      (ordered_by A.frame.net A.frame.valid A.m plan) good

  all_short : (j : ℕ) → j < job_count_of (work_in framed) → duration_of durations j ≤ cost (work_in framed) j
  unfolding ok_timed
  all_short =
      accepted (checked_by (work_in framed) A.m plan) (λ ok. ok_durations (work_in framed) durations) tt A.accepted λ ok good short.
      durations_short (work_in framed) durations short

  T : Tabled (work_in framed) framed A.m
  T = tabled A.frame A.m A.some A.few

  pub timable : Timable (work_in framed) A.m (lent framed plan durations)
  timable = record {
    ordered = in_order_lem;
    short = λ j k. all_short j (omega (arith, T.count));
    count_is = T.count;
    release_is = T.release_is;
    row_is = T.row_is;
    few = T.few;
    small = λ j k. omega (arith, T.plannable.due j (omega (arith, T.count)), T.small);
    processors = A.few;
    plan_there = A.plan_there;
    durations_there = A.durations_there;
  }

  -- what keeps the rule is what is computed
  pub times_are : {words : List ℕ} → AllTimed (lent framed plan durations) words → take (2 * framed.job_count) words ≡ times_of (work_in framed) plan durations
  times_are told = one_solution in_order_lem durations _ _ (told.is (work_in framed) A.m timable) (computed in_order_lem durations)

  pub times_long : (words : List ℕ) → take (2 * framed.job_count) words ≡ times_of (work_in framed) plan durations
      → length (take (2 * framed.job_count) words) ≡ 2 * framed.job_count
  times_long words e = ap length e ∙ (computed in_order_lem durations).size ∙ ap (λ (n : ℕ). 2 * n) (sym (jobs_is A.frame))

  pub times_fit : (words : List ℕ) → take (2 * framed.job_count) words ≡ times_of (work_in framed) plan durations → 2 * framed.job_count ≤ length words
  times_fit words e = omega (arith, times_long words e, length-take (2 * framed.job_count) words)

-- ---- the call

module _ (file : List ℕ) (m : ℕ) (plan durations out : List ℕ) where
  pub call_none : m < 1 → timed_call file m plan durations out ≡ refused OutOfRange 0
  unfolding timed_call
  call_none h = rw (lt-leb 1 m h) refl

  module _ (some : 1 ≤ m) where
    pub call_many : 4 < m → timed_call file m plan durations out ≡ refused OutOfRange 0
    unfolding timed_call
    call_many h = rw (le-leb 1 m some, lt-leb m 4 h) refl

    module _ (few : m ≤ 4) {framed : Framed} (told : framed ≡ frame_file file) where
      in_range : timed_call file m plan durations out ≡ and_then (load_work file) λ w. timed_work w m plan durations out
      unfolding timed_call
      in_range = rw (le-leb 1 m some, le-leb m 4 few) refl

      pub call_refused : (reply_number framed.answer.reply ≡ 0 → ⊥) → timed_call file m plan durations out ≡ refused framed.answer.reply framed.answer.place
      call_refused other = in_range ∙ file_refused file told _ other

      pub call_work : reply_number framed.answer.reply ≡ 0 → timed_call file m plan durations out ≡ timed_work (work_in framed) m plan durations out
      call_work zero = in_range ∙ file_accepted file told _ zero

  pub call_range : {e : Refusal} → Err e ≡ judged (ok_processors m) → timed_call file m plan durations out ≡ refused e.reply e.place
  unfolding timed_call
  call_range h = told_refused (λ ok. ok) (ok_processors m) _ h

  module _ {u : Unit {0}} (range : Ok u ≡ judged (ok_processors m)) {framed : Framed} (told_frame : framed ≡ frame_file file) where
    call_ranged : timed_call file m plan durations out ≡ and_then (load_work file) λ w. timed_work w m plan durations out
    unfolding timed_call
    call_ranged = told_next (ok_processors m) _ range

    pub call_refused_told : {e : Refusal} → Err e ≡ refusal_in framed.answer → timed_call file m plan durations out ≡ refused e.reply e.place
    call_refused_told h = call_ranged ∙ told_refused (λ w. tt) (load_work file) _ (h ∙ file_told file told_frame)

    pub call_work_told : {v : Unit {0}} → Ok v ≡ refusal_in framed.answer → timed_call file m plan durations out ≡ timed_work (work_in framed) m plan durations out
    call_work_told h = call_ranged ∙ file_accepted file told_frame _ (accepted_zero framed.answer h)
