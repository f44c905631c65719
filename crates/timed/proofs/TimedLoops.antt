-- The loops of the timed run: the durations judged so far, and the jobs timed so far.
use Rattle.std.specs.Prelude.{ℕ, ◌+◌, ◌≤◌, ◌<◌, ◌≡◌, refl, List, Ok, Err}
use Rattle.std.proofs.Common.{sym, ap, ◌∙◌, arith, add-one, get_or}
use borrow.Author.Tests.{le-leb, lt-leb}
use Rattle.reply.specs.Result.{done}
use Rattle.reply.specs.ResultLaws.{order_zero, order_more, order_refused}
use Rattle.reply.specs.Told.{judged}
use Rattle.reply.specs.declared.Reply.TheVariants.{LongDuration}
use Rattle.graph.specs.Work.{Work, job_of}
use Rattle.graph.specs.declared.Job.{Job}
use Rattle.timed.specs.TimedTold.{ok_within, Lent, jobs_in, Timable, Reached, Stepped, AllTimed}
use Rattle.plan.specs.Standing.{nothing_by}
use Rattle.plan.specs.declared.standing.Standing.{Standing}
use Rattle.timed.proofs.TimedSteps.{none_reached, all_timed}

-- ---- the durations judged so far

module _ (jobs : List Job) (durations : List ℕ) where
  pub record Within (j : ℕ) : Type 0 where
    pub is : ok_within jobs j durations ≡ done tt

  pub none_judged : Within 0
  unfolding ok_within
  none_judged = record { is = order_zero _ }

  pub one_within : {j : ℕ} → Within j → get_or durations j 0 ≤ (job_of jobs j).budget → Within (j + 1)
  unfolding ok_within
  one_within {j} e h = record { is = rw (add-one j) (order_more _ j e.is ∙ rw (le-leb (get_or durations j 0) (job_of jobs j).budget h) refl) }

  pub one_above : {j : ℕ} (n : ℕ) → j < n → Within j → (job_of jobs j).budget < get_or durations j 0
      → Err (record { reply = LongDuration; place = j }) ≡ judged (ok_within jobs n durations)
  unfolding ok_within
  one_above {j} n l e h = sym (ap judged (order_refused _ j n LongDuration j l e.is (rw (lt-leb (get_or durations j 0) (job_of jobs j).budget h) refl)))

  pub all_judged : {j : ℕ} (n : ℕ) → j ≤ n → n ≤ j → Within j → Ok tt ≡ judged (ok_within jobs n durations)
  all_judged {j} n l g e = let same : n ≡ j = omega arith in rw (same, e.is) refl

-- ---- the jobs timed so far

pub record Going (t : Lent) (timing : Standing) (k : ℕ) : Type 0 where
  pub reached : (w : Work) (m : ℕ) → Timable w m t → Reached w m t k timing

pub set_out : {t : Lent} → Going t nothing_by 0
set_out = record { reached = λ w m T. none_reached T }

pub one_timed : {t : Lent} {k : ℕ} {timing timing' : Standing} → Going t timing k → k < jobs_in t → Stepped t timing timing' → Going t timing' (k + 1)
one_timed {t} {k} g below stepped = record {
  reached = λ w m T. rw (add-one k) (stepped.is w m k below (g.reached w m T));
}

pub timed_all : {t : Lent} {k : ℕ} {timing : Standing} → Going t timing k → k ≤ jobs_in t → jobs_in t ≤ k → AllTimed t timing.words
timed_all {t} {k} g l h = record {
  is = λ w m T.
      let same : k ≡ jobs_in t = omega arith in
      all_timed (rw same at (g.reached w m T));
}
