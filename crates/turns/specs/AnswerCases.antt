-- The cases of the call by the answers of its steps: what an answer that is done, or that is not, says of the run.
use Rattle.std.specs.Prelude.{ℕ, ◌*◌, ◌≤◌, ◌≡◌, refl, List, length}
use Rattle.std.proofs.Common.{sym, ap, ◌∙◌, arith}
use borrow.Author.Tests.{le-leb}
use Rattle.reply.specs.Result.{Result, done, refused, and_then, answer_of}
use Rattle.reply.specs.ResultLaws.{zero_means, other_means}
use Rattle.reply.specs.Reply.{reply_number}
use Rattle.reply.specs.declared.Answer.{Answer}
use Rattle.reply.specs.declared.Reply.{Reply}
use Rattle.graph.specs.Work.{Work, job_count_of}
use Rattle.graph.specs.FrameOf.{FrameOf, work_in, jobs_is}
use Rattle.graph.specs.declared.Framed.{Framed}
use Rattle.machine.specs.Samples.{ok_samples}
use Rattle.machine.specs.SampleLaws.{honest_samples}
use Rattle.plan.specs.Plan.{checked_by}
use Rattle.plan.proofs.CheckLaws.{honest_check}
use Rattle.promises.specs.Turns.{Between, ok_turns, turn_work}
use Rattle.turns.specs.Turned.{turned_of}
use Rattle.turns.specs.Calls.{refused_with, judged_by, ran_in}
use Rattle.turns.specs.CallLaws.{honest_judged, plan_refused, sample_refused, turns_judged}
use Rattle.turns.specs.declared.TurnRan.{TurnRan}

-- what an answer says of a frame's samples, of its work
module _ {framed : Framed} (frame : FrameOf framed) where
  pub samples_told : (frames : ℕ) (input : List ℕ) {r : Answer} → r ≡ answer_of (ok_samples (framed.job_count * frames) input)
      → r ≡ answer_of (ok_samples (job_count_of (work_in framed) * frames) input)
  samples_told frames input told = told ∙ ap (λ (J : ℕ). answer_of (ok_samples (J * frames) input)) (jobs_is frame)

module _ (w : Work) (m frames : ℕ) (plan input list : List ℕ) where
  -- the plan has a fault
  pub judged_plan : {answer : Answer} → answer ≡ answer_of (checked_by w m plan) → (reply_number answer.reply ≡ 0 → ⊥) → answer ≡ answer_of (judged_by w m frames plan input list)
  judged_plan told other =
      other_means (checked_by w m plan) (λ z. other (rw told z)) λ reply place e.
      told ∙ rw (e, plan_refused w m frames plan input list e) refl

  module _ {checked : Answer} (told : checked ≡ answer_of (checked_by w m plan)) (zero : reply_number checked.reply ≡ 0) where
    good_check : checked_by w m plan ≡ done tt
    good_check = zero_means {P = checked_by w m plan ≡ done tt} (checked_by w m plan) (honest_check w m plan) (rw told at zero) λ ok e. e

    -- a sample is wrong
    pub judged_sample : {answer : Answer} → answer ≡ answer_of (ok_samples (job_count_of w * frames) input) → (reply_number answer.reply ≡ 0 → ⊥)
        → answer ≡ answer_of (judged_by w m frames plan input list)
    judged_sample told other =
        other_means (ok_samples (job_count_of w * frames) input) (λ z. other (rw told z)) λ reply place e.
        told ∙ rw (e, sample_refused w m frames plan input list good_check e) refl

    -- the turns decide
    pub judged_turns : {sampled answer : Answer} → sampled ≡ answer_of (ok_samples (job_count_of w * frames) input) → reply_number sampled.reply ≡ 0
        → answer ≡ answer_of (ok_turns m list) → answer ≡ answer_of (judged_by w m frames plan input list)
    judged_turns sampled none told =
        zero_means (ok_samples (job_count_of w * frames) input) (honest_samples (job_count_of w * frames) input) (rw sampled at none) λ ok e.
        told ∙ ap answer_of (sym (turns_judged w m frames plan input list good_check e))

-- ---- the run of a work

then_then : (a b c : Result (Unit {0})) (x : Between)
    → and_then a (λ ok₁. and_then b λ ok₂. and_then c λ ok₃. done x) ≡ and_then (and_then a λ ok₁. and_then b λ ok₂. c) (λ ok. done x)
then_then (done a) (done b) c x = refl
then_then (done a) (refused reply place) c x = refl
then_then (refused reply place) b c x = refl

module _ {framed : Framed} (frame : FrameOf framed) (m frames : ℕ) (plan input list output : List ℕ) where
  abbrev w : Work
  w = work_in framed

  abbrev end : Between
  end = ran_in framed frames plan input list

  abbrev needed : 2 * (framed.job_count * frames) ≡ 2 * (job_count_of (work_in framed) * frames)
  needed = ap (λ (n : ℕ). 2 * (n * frames)) (jobs_is frame)

  module _ (planned : 2 * framed.job_count ≤ length plan) (there : 2 * (framed.job_count * frames) ≤ length input) (room : 2 * (framed.job_count * frames) ≤ length output) where
    after_rooms : turn_work (work_in framed) m frames plan input list output ≡ and_then (judged_by (work_in framed) m frames plan input list) (λ ok. done (ran_in framed frames plan input list))
    unfolding turn_work judged_by
    after_rooms =
        rw (
          le-leb (2 * job_count_of w) (length plan) (omega (arith, jobs_is frame)),
          le-leb (2 * (job_count_of w * frames)) (length input) (omega (arith, needed)),
          le-leb (2 * (job_count_of w * frames)) (length output) (omega (arith, needed)),
        )
        (then_then (checked_by w m plan) (ok_samples (job_count_of w * frames) input) (ok_turns m list) end)

    module _ {judged : Answer} (told : judged ≡ answer_of (judged_by (work_in framed) m frames plan input list)) where
      pub refused_run : (reply_number judged.reply ≡ 0 → ⊥) → turn_work (work_in framed) m frames plan input list output ≡ refused judged.reply judged.place
      refused_run other =
          other_means (judged_by w m frames plan input list) (λ z. other (rw told z)) λ reply place e.
          after_rooms ∙ rw (told, e) refl

      pub good_judged : reply_number judged.reply ≡ 0 → judged_by (work_in framed) m frames plan input list ≡ done tt
      good_judged zero = zero_means {P = judged_by w m frames plan input list ≡ done tt} (judged_by w m frames plan input list) (honest_judged w m frames plan input list) (rw told at zero) λ ok e. e

      pub good_run : reply_number judged.reply ≡ 0
          → turn_work (work_in framed) m frames plan input list output ≡ done (ran_in framed frames plan input list)
      good_run zero = after_rooms ∙ rw (good_judged zero) refl

-- ---- what is returned

pub refused_ran : {r : Result Between} {reply : Reply} {place : ℕ} → r ≡ refused reply place → refused_with (record { reply = reply; place = place }) ≡ turned_of r
unfolding turned_of
refused_ran e = rw e

pub same_ran : {r q : Result Between} {x : TurnRan} → r ≡ q → x ≡ turned_of q → x ≡ turned_of r
same_ran e f = f ∙ ap turned_of (sym e)
