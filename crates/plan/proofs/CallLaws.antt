-- The cases of both calls: the number of processors, the file, the lent words; and that the tables of a frame are those of its work.
use Rattle.std.specs.Prelude.{ℕ, ◌+◌, ◌*◌, ◌≤◌, ◌<◌, ◌≡◌, refl, Bool, true, false, ◌&&◌, List, leb, length, take, drop, ◌++◌, Ok, Err}
use Rattle.std.proofs.Common.{sym, ap, subst, ◌∙◌, arith, get_or, leb-true, length-take}
use Rattle.std.proofs.Math.Decide.{dec_lt}
use Rattle.std.proofs.lemmas.List.Edits.{sets, sets-eq}
use borrow.Author.Tests.{le-leb, lt-leb}
use Rattle.reply.specs.Tests.{split, both}
use Rattle.reply.specs.Result.{Result, done, refused, and_then, answer_of}
use Rattle.reply.specs.ResultLaws.{Honest}
use Rattle.reply.specs.Reply.{reply_number}
use Rattle.reply.specs.declared.Answer.{Answer}
use Rattle.reply.specs.declared.Reply.TheVariants.{Done, OutOfRange, ShortBuffer}
use Rattle.std.specs.declared.result.Result as Std
use Rattle.reply.specs.Call.{ok_processors, room_of, ok_room}
use Rattle.reply.specs.Told.{told, judged, refusal_in}
use Rattle.reply.specs.declared.Refusal.{Refusal}
use Rattle.reply.specs.declared.Reply.{Reply}
use Rattle.marks.specs.Row.{marked, row_of, no_marks}
use Rattle.marks.specs.Laws.{marked_row, marked_past}
use Rattle.marks.specs.declared.Row.{Row}
use Rattle.network.specs.ListLaws.{get_or_table, fill_at}
use Rattle.graph.specs.Work.{Work, work_of, load_work, job_count_of, precedes}
use Rattle.graph.proofs.WorkLaws.{goes_forward}
use Rattle.graph.specs.Sequence.{no_job}
use Rattle.graph.specs.Columns.{Column}
use Rattle.graph.specs.Graph.{frame_file, rows_to}
use Rattle.graph.specs.FrameOf.{FrameOf, work_in, work_is, count_is, job_is, jobs_is, few_jobs, file_accepted, file_refused}
use Rattle.graph.specs.Promise.{jobs_are}
use Rattle.graph.specs.declared.Framed.{Framed}
use Rattle.graph.specs.declared.Job.{Job}
use Rattle.plan.specs.Plan.{planned_by, plan_work, plan_call, plan_filled, checked_by, check_work, check_call}
use Rattle.plan.specs.CheckTold.{TablesOf, Checkable}
use Rattle.plan.specs.CheckTables.{tables_of, checkable}
use Rattle.plan.specs.PlanTold.{row_at, front, Tabled, PlannedAs}
use Rattle.plan.proofs.ToldSteps.{ok_not, told_stop, told_refused, refused_told, told_done, told_next, accepted_zero, file_told}
use Rattle.plan.proofs.Promise.{plannable, planner_misses, planner_size}

-- ---- a frame

module _ {framed : Framed} (frame : FrameOf framed) where
  pub frame_tables : TablesOf (work_in framed) framed.jobs framed.before framed.job_count
  frame_tables =
      rw (work_is frame)
      (subst (λ (x : Framed). TablesOf (work_of frame.net) x.jobs x.before x.job_count) (sym frame.is)
      (tables_of (work_of frame.net) (jobs_are frame.net frame.valid).most))

  pub frame_checkable : (plan : List ℕ) → 2 * framed.job_count ≤ length plan → Checkable framed.jobs framed.before framed.job_count plan
  frame_checkable plan =
      subst (λ (x : Framed). 2 * x.job_count ≤ length plan → Checkable x.jobs x.before x.job_count plan) (sym frame.is)
      (checkable frame.net frame.valid plan)

  module _ (m : ℕ) (plan : List ℕ) where
    pub short_plan : length plan < 2 * framed.job_count → check_work (work_in framed) m plan ≡ refused ShortBuffer 0
    unfolding check_work
    short_plan h = rw (lt-leb (2 * job_count_of (work_in framed)) (length plan) (omega (arith, jobs_is frame))) refl

    pub long_plan : 2 * framed.job_count ≤ length plan → check_work (work_in framed) m plan ≡ checked_by (work_in framed) m plan
    unfolding check_work
    long_plan h = rw (le-leb (2 * job_count_of (work_in framed)) (length plan) (omega (arith, jobs_is frame))) refl

    short_same : judged (room_of (2 * framed.job_count) (length plan)) ≡ judged (ok_room (2 * job_count_of (work_in framed)) plan)
    short_same = ap (λ (n : ℕ). judged (room_of (2 * n) (length plan))) (jobs_is frame)

    -- a plan that is too short
    pub short_plan_told : {e : Refusal} → Err e ≡ judged (room_of (2 * framed.job_count) (length plan)) → Err e ≡ judged (check_work (work_in framed) m plan)
    unfolding check_work
    short_plan_told h = told_stop (λ ok. ok) (λ ok. ok) (ok_room (2 * job_count_of (work_in framed)) plan) _ (h ∙ short_same)

    -- a plan that is long enough
    pub long_plan_told : {u : Unit {0}} → Ok u ≡ judged (room_of (2 * framed.job_count) (length plan)) → check_work (work_in framed) m plan ≡ checked_by (work_in framed) m plan
    unfolding check_work
    long_plan_told h = told_next (ok_room (2 * job_count_of (work_in framed)) plan) _ (h ∙ short_same)

  -- ---- the planner's tables

  abbrev w : Work
  w = work_of frame.net

  most : job_count_of (work_of frame.net) ≤ 128
  most = (jobs_are frame.net frame.valid).most

  -- a number of each job
  field : {column : List ℕ} (f : Job → ℕ) → Column no_job f framed.jobs column → (j : ℕ) → j < job_count_of (work_of frame.net) → get_or column j 0 ≡ f (get_or (work_of frame.net).jobs j no_job)
  field f c j k = c.each j (omega (arith, most)) ∙ ap f (job_is frame j)

  row_there : (j : ℕ) → j < job_count_of (work_of frame.net) → row_at framed j ≡ row_of (λ i. precedes (work_of frame.net) i j)
  unfolding rows_to
  row_there j k =
      ap (λ (x : Framed). get_or x.before j no_marks) frame.is
      ∙ fill_at 128 no_marks (rows_to (job_count_of w) w.before) j
      ∙ get_or_table (job_count_of w) _ j no_marks k

  row_marks : (i j : ℕ) → j < job_count_of (work_of frame.net) → marked (row_at framed j) i ≡ precedes (work_of frame.net) i j
  row_marks i j k = ap (λ (x : Row). marked x i) (row_there j k) ∙ elim (dec_lt i 128) [
    | yes low ↦ marked_row (λ i. precedes w i j) i low
    | no past ↦ marked_past (row_of (λ i. precedes w i j)) i (omega arith) ∙ sym (none_past (omega arith) (precedes w i j) refl)
  ]
    where
      none_past : 128 ≤ i → (b : Bool) → precedes w i j ≡ b → b ≡ false
      none_past past true e = absurd (omega (arith, most, ((goes_forward frame.net frame.valid).within i j e).0))
      none_past past false e = refl

  pub tabled : (m : ℕ) → 1 ≤ m → m ≤ 4 → Tabled (work_in framed) framed m
  tabled m some few = rw (work_is frame) (record {
    plannable = plannable frame.net frame.valid;
    count = sym (count_is frame);
    deadline_is = λ j h. ap (λ (x : Job). x.deadline) (job_is frame j);
    release_is = λ j h. ap (λ (x : Job). x.release) (job_is frame j);
    budget_is = λ j h. ap (λ (x : Job). x.budget) (job_is frame j);
    row_is = λ i j h. row_marks i j (omega (arith, count_is frame));
    few = few_jobs frame;
    small = (jobs_are frame.net frame.valid).frame.most;
    fits = λ j h. omega (arith, ((jobs_are frame.net frame.valid).each j (omega (arith, count_is frame))).fits);
    processors = (some, few);
  })

  module _ (m : ℕ) (out : List ℕ) where
    pub short_room : length out < 2 * framed.job_count → plan_work (work_in framed) m out ≡ refused ShortBuffer 0
    unfolding plan_work
    short_room h = rw (lt-leb (2 * job_count_of (work_in framed)) (length out) (omega (arith, jobs_is frame))) refl

    pub enough_room : 2 * framed.job_count ≤ length out → plan_work (work_in framed) m out ≡ planned_by (work_in framed) m
    unfolding plan_work
    enough_room h = rw (le-leb (2 * job_count_of (work_in framed)) (length out) (omega (arith, jobs_is frame))) refl

    room_same : judged (room_of (2 * framed.job_count) (length out)) ≡ judged (ok_room (2 * job_count_of (work_in framed)) out)
    room_same = ap (λ (n : ℕ). judged (room_of (2 * n) (length out))) (jobs_is frame)

    -- lent words that are too few
    pub short_room_told : {e : Refusal} → Err e ≡ judged (room_of (2 * framed.job_count) (length out)) → plan_work (work_in framed) m out ≡ refused e.reply e.place
    unfolding plan_work
    short_room_told h = told_refused (λ ok. ok) (ok_room (2 * job_count_of (work_in framed)) out) _ (h ∙ room_same)

    -- and enough of them
    pub enough_room_told : {u : Unit {0}} → Ok u ≡ judged (room_of (2 * framed.job_count) (length out)) → plan_work (work_in framed) m out ≡ planned_by (work_in framed) m
    unfolding plan_work
    enough_room_told h = told_next (ok_room (2 * job_count_of (work_in framed)) out) _ (h ∙ room_same)

  -- the planner refuses by 19 alone
  pub honest_plan : (m : ℕ) → 1 ≤ m → Honest (planned_by (work_in framed) m)
  honest_plan m some = rw (work_is frame) (record {
    above = λ reply place e. rw (planner_misses frame.net frame.valid m some reply place e).is (omega arith);
  })

-- ---- what was planned

-- as an answer
abbrev pub answer_in : Std.Result (List ℕ) Refusal → Answer
answer_in (Ok words) = record { reply = Done; place = 0 }
answer_in (Err refusal) = record { reply = refusal.reply; place = refusal.place }

module _ {r : Result (List ℕ)} {n : ℕ} where
  pub planned_answer : {planned : Std.Result (List ℕ) Refusal} → PlannedAs r n planned → answer_in planned ≡ answer_of r
  planned_answer {planned} told_so = go planned told_so.is
    where
      go : (planned : Std.Result (List ℕ) Refusal) → front (2 * n) planned ≡ told (λ words. words) r → answer_in planned ≡ answer_of r
      go (Ok words) h = let (a, e, same) = told_done r h in rw e refl
      go (Err refusal) h = rw (refused_told (λ words. words) r h) refl

  pub planned_done : {words : List ℕ} → PlannedAs r n (Ok words) → r ≡ done (take (2 * n) words)
  planned_done told_so = let (a, e, same) = told_done r told_so.is in e ∙ ap done (sym same)

  pub planned_missed : {refusal : Refusal} → PlannedAs r n (Err refusal) → r ≡ refused refusal.reply refusal.place
  planned_missed told_so = refused_told (λ words. words) r told_so.is

  module _ (out : List ℕ) where
    pub planned_filled : {words : List ℕ} → PlannedAs r n (Ok words) → sets out 0 (take (2 * n) words) ≡ plan_filled r out
    unfolding plan_filled
    planned_filled told_so = rw (planned_done told_so) refl

    pub planned_not : {refusal : Refusal} → PlannedAs r n (Err refusal) → out ≡ plan_filled r out
    unfolding plan_filled
    planned_not told_so = rw (planned_missed told_so) refl

-- the plan has two words for each job
module _ {framed : Framed} (frame : FrameOf framed) (m : ℕ) (some : 1 ≤ m) {words : List ℕ} (told_so : PlannedAs (planned_by (work_in framed) m) framed.job_count (Ok words)) where
  pub front_size : 2 * framed.job_count ≡ length (take (2 * framed.job_count) words)
  front_size =
      let e : planned_by (work_of frame.net) m ≡ done (take (2 * framed.job_count) words) = ap (λ (w : Work). planned_by w m) (sym (work_is frame)) ∙ planned_done told_so in
      omega (arith, planner_size frame.net frame.valid m some _ e, count_is frame)

  pub front_fits : 2 * framed.job_count ≤ length words
  front_fits = omega (arith, front_size, length-take (2 * framed.job_count) words)

-- a refused call fills nothing
pub refused_filled : {r : Result (List ℕ)} {reply : Reply} {place : ℕ} (out : List ℕ) → r ≡ refused reply place → out ≡ plan_filled r out
unfolding plan_filled
refused_filled out e = rw e

-- and what is equal fills the same
pub same_filled : {r q : Result (List ℕ)} (out : List ℕ) → r ≡ q → plan_filled q out ≡ plan_filled r out
same_filled out e = ap (λ (r : Result (List ℕ)). plan_filled r out) (sym e)

-- words in front of lent memory are what it is filled with
pub done_filled : {r : Result (List ℕ)} {words : List ℕ} (out : List ℕ) → r ≡ done words → sets out 0 words ≡ plan_filled r out
unfolding plan_filled
done_filled out e = rw e

-- words in front of lent memory, and what is behind them
pub put_front : (out words : List ℕ) (n : ℕ) → n ≡ length words → n ≤ length out → words ++ drop n out ≡ sets out 0 words
put_front out words n e l = let z : 0 + length words ≡ n = omega (arith, e) in sym (sets-eq words out 0 (omega (arith, e)) ∙ ap (λ (k : ℕ). words ++ drop k out) z)

-- the range of the processors
pub in_range : (m : ℕ) {u : Unit {0}} → Ok u ≡ judged (ok_processors m) → (1 ≤ m) × (m ≤ 4)
in_range m h = split (leb 1 m && leb m 4)
    (λ t. let (a, b) = both (leb 1 m) (leb m 4) t in (leb-true 1 m a, leb-true m 4 b))
    (λ t. ok_not (rw t at h))

-- ---- the call of the checker

module _ (file : List ℕ) (m : ℕ) (plan : List ℕ) where
  pub check_none : m < 1 → check_call file m plan ≡ refused OutOfRange 0
  unfolding check_call
  check_none h = rw (lt-leb 1 m h) refl

  module _ (some : 1 ≤ m) where
    pub check_many : 4 < m → check_call file m plan ≡ refused OutOfRange 0
    unfolding check_call
    check_many h = rw (le-leb 1 m some, lt-leb m 4 h) refl

    module _ (few : m ≤ 4) {framed : Framed} (told : framed ≡ frame_file file) where
      check_in_range : check_call file m plan ≡ and_then (load_work file) λ w. check_work w m plan
      unfolding check_call
      check_in_range = rw (le-leb 1 m some, le-leb m 4 few) refl

      pub check_refused : (reply_number framed.answer.reply ≡ 0 → ⊥) → check_call file m plan ≡ refused framed.answer.reply framed.answer.place
      check_refused other = check_in_range ∙ file_refused file told _ other

      pub check_work_lem : reply_number framed.answer.reply ≡ 0 → check_call file m plan ≡ check_work (work_in framed) m plan
      check_work_lem zero = check_in_range ∙ file_accepted file told _ zero

  pub check_range : {e : Refusal} → Err e ≡ judged (ok_processors m) → Err e ≡ judged (check_call file m plan)
  unfolding check_call
  check_range h = told_stop (λ ok. ok) (λ ok. ok) (ok_processors m) _ h

  module _ {u : Unit {0}} (range : Ok u ≡ judged (ok_processors m)) {framed : Framed} (told_frame : framed ≡ frame_file file) where
    check_ranged : check_call file m plan ≡ and_then (load_work file) λ w. check_work w m plan
    unfolding check_call
    check_ranged = told_next (ok_processors m) _ range

    pub check_refused_told : {e : Refusal} → Err e ≡ refusal_in framed.answer → Err e ≡ judged (check_call file m plan)
    check_refused_told h = rw check_ranged (told_stop (λ w. tt) (λ ok. ok) (load_work file) _ (h ∙ file_told file told_frame))

    pub check_work_told : {v : Unit {0}} → Ok v ≡ refusal_in framed.answer → check_call file m plan ≡ check_work (work_in framed) m plan
    check_work_told h = check_ranged ∙ file_accepted file told_frame _ (accepted_zero framed.answer h)

-- ---- the call of the planner

module _ (file : List ℕ) (m : ℕ) (out : List ℕ) where
  pub plan_none : m < 1 → plan_call file m out ≡ refused OutOfRange 0
  unfolding plan_call
  plan_none h = rw (lt-leb 1 m h) refl

  module _ (some : 1 ≤ m) where
    pub plan_many : 4 < m → plan_call file m out ≡ refused OutOfRange 0
    unfolding plan_call
    plan_many h = rw (le-leb 1 m some, lt-leb m 4 h) refl

    module _ (few : m ≤ 4) {framed : Framed} (told : framed ≡ frame_file file) where
      plan_in_range : plan_call file m out ≡ and_then (load_work file) λ w. plan_work w m out
      unfolding plan_call
      plan_in_range = rw (le-leb 1 m some, le-leb m 4 few) refl

      pub plan_refused : (reply_number framed.answer.reply ≡ 0 → ⊥) → plan_call file m out ≡ refused framed.answer.reply framed.answer.place
      plan_refused other = plan_in_range ∙ file_refused file told _ other

      pub plan_work_lem : reply_number framed.answer.reply ≡ 0 → plan_call file m out ≡ plan_work (work_in framed) m out
      plan_work_lem zero = plan_in_range ∙ file_accepted file told _ zero

  pub plan_range : {e : Refusal} → Err e ≡ judged (ok_processors m) → plan_call file m out ≡ refused e.reply e.place
  unfolding plan_call
  plan_range h = told_refused (λ ok. ok) (ok_processors m) _ h

  module _ {u : Unit {0}} (range : Ok u ≡ judged (ok_processors m)) {framed : Framed} (told_frame : framed ≡ frame_file file) where
    plan_ranged : plan_call file m out ≡ and_then (load_work file) λ w. plan_work w m out
    unfolding plan_call
    plan_ranged = told_next (ok_processors m) _ range

    pub plan_refused_told : {e : Refusal} → Err e ≡ refusal_in framed.answer → plan_call file m out ≡ refused e.reply e.place
    plan_refused_told h = plan_ranged ∙ told_refused (λ w. tt) (load_work file) _ (h ∙ file_told file told_frame)

    pub plan_work_told : {v : Unit {0}} → Ok v ≡ refusal_in framed.answer → plan_call file m out ≡ plan_work (work_in framed) m out
    plan_work_told h = plan_ranged ∙ file_accepted file told_frame _ (accepted_zero framed.answer h)
