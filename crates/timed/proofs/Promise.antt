-- What is promised of the timed run: on an accepted plan its rule has exactly one solution, the one that the call leaves in the lent words; and with
-- durations up to the budgets every job ends at its deadline or earlier.
use Rattle.std.specs.Prelude.{ℕ, ◌+◌, ◌*◌, ◌≤◌, ◌<◌, ◌≡◌, ◌↔◌, ◌&&◌, List, leb, length, get_or}
use Rattle.std.proofs.Common.{sym, ap, subst, ◌∙◌, arith}
use Rattle.std.proofs.lemmas.List.Edits.{sets}
use borrow.Author.Tests.{leb-true}
use Rattle.reply.specs.Result.{Result, done, require, answer_of}
use Rattle.reply.specs.ResultLaws.{Honest, honest_done, honest_then, honest_require, honest_order, require_done, order_done, done_same, done_means, accepted, required}
use Rattle.reply.specs.declared.Answer.{Answer}
use Rattle.reply.specs.declared.Reply.TheVariants.{OutOfRange, ShortBuffer, LongDuration}
use Rattle.network.specs.Net.{Net}
use Rattle.network.specs.Valid.{Valid}
use Rattle.graph.specs.Work.{Work, work_of, load_work, job_count_of, deadline, cost}
use Rattle.graph.proofs.WorkLaws.{goes_forward}
use Rattle.graph.specs.FileLaws.{honest_work}
use Rattle.graph.specs.Promise.{jobs_are, file_work}
use Rattle.plan.specs.Plan.{checked_by, plan_filled}
use Rattle.plan.proofs.Promise.{sets_front}
use Rattle.plan.proofs.CheckLaws.{checked_feasible, honest_check}
use Rattle.timed.specs.Timed.{start_is, duration_of, start_in, end_in, Timed, times_of, ok_durations, ok_timed, timed_work, timed_call, timed_filled, KeepsTime, InTime}
use Rattle.timed.specs.PlannedOrder.{Ordered}
use Rattle.timed.proofs.PlannedOrder.{start_same}
use Rattle.timed.proofs.TimedLaws.{computed, one_solution, ends_in_time}

-- ---- what the durations say

module _ (w : Work) (durations : List ℕ) where
  pub durations_short : ok_durations w durations ≡ done tt → (j : ℕ) → j < job_count_of w → duration_of durations j ≤ cost w j
  unfolding ok_durations
  durations_short e j h = leb-true (duration_of durations j) (cost w j)
      (require_done _ LongDuration j (order_done (λ j. require (leb (duration_of durations j) (cost w j)) LongDuration j) (job_count_of w) e j h))

  honest_durations : Honest (ok_durations w durations)
  unfolding ok_durations
  honest_durations = honest_order (job_count_of w) _ (λ j h. honest_require (leb (duration_of durations j) (cost w j)) LongDuration j (omega arith))

  pub honest_timed : (m : ℕ) (plan : List ℕ) → Honest (ok_timed w m plan durations)
  unfolding ok_timed
  honest_timed m plan = honest_then (checked_by w m plan) (λ ok. ok_durations w durations) (honest_check w m plan) (λ ok. honest_durations)

-- ---- an accepted plan

pub ordered_by : (net : Net) → Valid net → (m : ℕ) (plan : List ℕ) → checked_by (work_of net) m plan ≡ done tt → Ordered (work_of net) m plan
ordered_by net ok m plan e = record {
  forward = goes_forward net ok;
  feasible = checked_feasible (work_of net) m plan (goes_forward net ok) e;
  worth = λ j h. ((jobs_are net ok).each j h).worth;
}

module _ (net : Net) (ok : Valid net) (m : ℕ) (plan durations : List ℕ) (good : checked_by (work_of net) m plan ≡ done tt) where
  -- the times that keep the rule are the computed ones, and no others
  pub one_timed : (times : List ℕ) → Timed (work_of net) plan durations times ↔ (times ≡ times_of (work_of net) plan durations)
  one_timed times =
      let O = ordered_by net ok m plan good in (
        λ t. one_solution O durations times (times_of (work_of net) plan durations) t (computed O durations),
        λ e. subst (Timed (work_of net) plan durations) (sym e) (computed O durations),
      )

  -- with durations up to the budgets, every job ends at its deadline or earlier
  pub timed_in_time : ok_durations (work_of net) durations ≡ done tt → (j : ℕ) → j < job_count_of (work_of net)
      → end_in (times_of (work_of net) plan durations) j ≤ deadline (work_of net) j
  timed_in_time short =
      let O = ordered_by net ok m plan good in
      ends_in_time O durations (durations_short (work_of net) durations short) (times_of (work_of net) plan durations) (computed O durations)

-- ---- the call

pub honest_call : (file : List ℕ) (m : ℕ) (plan durations out : List ℕ) → Honest (timed_call file m plan durations out)
unfolding timed_call timed_work
honest_call file m plan durations out =
    honest_then _ _ (honest_require (leb 1 m && leb m 4) OutOfRange 0 (omega arith)) λ ok.
    honest_then (load_work file) _ (honest_work file) λ w.
    honest_then _ _ (honest_require (leb (2 * job_count_of w) (length plan)) ShortBuffer 0 (omega arith)) λ ok₁.
    honest_then _ _ (honest_require (leb (job_count_of w) (length durations)) ShortBuffer 0 (omega arith)) λ ok₂.
    honest_then _ _ (honest_require (leb (2 * job_count_of w) (length out)) ShortBuffer 0 (omega arith)) λ ok₃.
    honest_then (ok_timed w m plan durations) _ (honest_timed w durations m plan) λ ok₄.
    honest_done (times_of w plan durations)

-- what a call that is done has met, and what it gives
pub record DoneBy (w : Work) (m : ℕ) (plan durations out times : List ℕ) : Type 0 where
  pub net : Net
  pub valid : Valid net
  pub is : w ≡ work_of net
  pub room : 2 * job_count_of w ≤ length out
  pub good : checked_by w m plan ≡ done tt
  pub short : ok_durations w durations ≡ done tt
  pub gives : times_of w plan durations ≡ times

pub call_done : (file : List ℕ) (m : ℕ) (plan durations out times : List ℕ) → timed_call file m plan durations out ≡ done times
    → (w : Work) → load_work file ≡ done w → DoneBy w m plan durations out times
unfolding timed_call timed_work ok_timed
call_done file m plan durations out times e w load =
    required (leb 1 m && leb m 4) OutOfRange 0 _ times e λ range e₁.
    accepted (load_work file) _ times e₁ λ u loads e₂.
    let same : u ≡ w = done_same (sym loads ∙ load) in
    required (leb (2 * job_count_of u) (length plan)) ShortBuffer 0 _ times e₂ λ room₁ e₃.
    required (leb (job_count_of u) (length durations)) ShortBuffer 0 _ times e₃ λ room₂ e₄.
    required (leb (2 * job_count_of u) (length out)) ShortBuffer 0 _ times e₄ λ room₃ e₅.
    accepted (ok_timed u m plan durations) _ times e₅ λ a both e₆.
    accepted (checked_by u m plan) (λ ok. ok_durations u durations) a both λ b good short.
    let (net, read, ok, is) = file_work file u loads in
    subst (λ (x : Work). DoneBy x m plan durations out times) same (record {
      net = net;
      valid = ok;
      is = is;
      room = leb-true _ _ room₃;
      good = good;
      short = short;
      gives = done_same e₆;
    })

module _ {w : Work} {m : ℕ} {plan durations out times : List ℕ} (D : DoneBy w m plan durations out times) where
  O : Ordered w m plan
  O = subst (λ (x : Work). checked_by x m plan ≡ done tt → Ordered x m plan) (sym D.is) (ordered_by D.net D.valid m plan) D.good

  timed : Timed w plan durations times
  timed = subst (Timed w plan durations) D.gives (computed O durations)

  there : (k : ℕ) → k < 2 * job_count_of w → get_or (sets out 0 times) k 0 ≡ get_or times k 0
  there k h = sets_front out times (omega (arith, timed.size, D.room)) k (omega (arith, timed.size))

  start_there : (j : ℕ) → j < job_count_of w → start_in (sets out 0 times) j ≡ start_is w plan (end_in (sets out 0 times)) j
  start_there j h =
      there (2 * j) (omega arith)
      ∙ timed.start j h
      ∙ start_same O (end_in times) (end_in (sets out 0 times)) j (λ i hi l. sym (there (2 * i + 1) (omega arith)))

  end_there : (j : ℕ) → j < job_count_of w → end_in (sets out 0 times) j ≡ start_in (sets out 0 times) j + duration_of durations j
  end_there j h = there (2 * j + 1) (omega arith) ∙ timed.end j h ∙ ap (λ (x : ℕ). x + duration_of durations j) (sym (there (2 * j) (omega arith)))

  in_time_there : (j : ℕ) → j < job_count_of w → end_in (sets out 0 times) j ≤ deadline w j
  in_time_there j h = omega (arith, there (2 * j + 1) (omega arith), ends_in_time O durations (durations_short w durations D.short) times timed j h)

module _ (file : List ℕ) (m : ℕ) (plan durations out : List ℕ) where
  abbrev call : Result (List ℕ)
  call = timed_call file m plan durations out

  -- the words that a call leaves keep the rule
  pub keeps_time : KeepsTime file plan durations (answer_of (timed_call file m plan durations out)) (timed_filled (timed_call file m plan durations out) out)
  unfolding plan_filled
  keeps_time = record {
    start = λ w load e. done_means call (honest_call file m plan durations out) e λ times is. rw is (start_there (call_done file m plan durations out times is w load));
    end = λ w load e. done_means call (honest_call file m plan durations out) e λ times is. rw is (end_there (call_done file m plan durations out times is w load));
  }

  -- and the deadlines
  pub in_time : InTime file (answer_of (timed_call file m plan durations out)) (timed_filled (timed_call file m plan durations out) out)
  unfolding plan_filled
  in_time = record {
    each = λ w load e. done_means call (honest_call file m plan durations out) e λ times is. rw is (in_time_there (call_done file m plan durations out times is w load));
  }

  -- in the words of a caller
  module _ {answer : Answer} {after : List ℕ} (result : answer ≡ answer_of (timed_call file m plan durations out)) (filled : after ≡ timed_filled (timed_call file m plan durations out) out) where
    pub told_time : KeepsTime file plan durations answer after
    told_time = rw (result, filled) keeps_time

    pub told_in_time : InTime file answer after
    told_in_time = rw (result, filled) in_time
