-- The loops of `order`: the best job so far, and the jobs after the first ones.
use Prim.Native.Nat.{ℕ, zero, suc, ◌+◌, ◌*◌, ◌≤◌, ◌<◌}
use mathlib.Core.Path.{◌≡◌, refl, sym, ap, ◌∙◌}
use mathlib.Core.List.{List}
use native.Mathlib.Numerals.{add-one}
use native.Mathlib.Omega.{arith}
use borrow.Author.Count.{below_more}
use lib.ListN.{length, get_or, set, replicate, length-set, length-replicate}
use lib.Seq.{get_or-set_same, get_or-set_other}
use Rattle.std.specs.Prelude.{Option, None}
use Rattle.reply.specs.Tools.{pick, better}
use Rattle.reply.specs.Pick.{pick_zero, pick_suc, pick_most}
use Rattle.plan.specs.Plan.{processor_at, start_at}
use Rattle.turns.specs.Order.{job_in, one_more, InPlan, on_from, next_from, job_from, better_job}

-- ---- a job, or none

pub more_in : (n : ℕ) → one_more (job_in n) ≡ n
more_in zero = refl
more_in (suc j) = refl

-- ---- the best of the first i jobs

-- it is one of them
job_within : (plan : List ℕ) (n i : ℕ) → n ≤ i → 2 * i ≤ length plan → InPlan plan (job_in n)
job_within plan zero i h l = tt
job_within plan (suc j) i h l = omega arith

pub record BestTo (plan : List ℕ) (m from : ℕ) (best : Option ℕ) (i : ℕ) : Type 0 where
  pub is : best ≡ job_in (pick (on_from plan m from) (start_at plan) i)

module _ {plan : List ℕ} {m from : ℕ} where
  pub start : BestTo plan m from None 0
  start = record { is = ap job_in (sym (pick_zero (on_from plan m from) (start_at plan))) }

  module _ {best : Option ℕ} {i : ℕ} (to : BestTo plan m from best i) where
    pub within : 2 * i ≤ length plan → InPlan plan best
    within h = rw to.is (job_within plan (pick (on_from plan m from) (start_at plan) i) i (pick_most (on_from plan m from) (start_at plan) i) h)

    pub turn : {best' : Option ℕ} → best' ≡ better_job plan m from i best → BestTo plan m from best' (i + 1)
    turn e = rw (add-one i) (record {
      is =
          e
          ∙ ap (λ (b : Option ℕ). better_job plan m from i b) to.is
          ∙ ap (λ (n : ℕ). job_in (better (on_from plan m from) (start_at plan) i n)) (more_in (pick (on_from plan m from) (start_at plan) i))
          ∙ ap job_in (sym (pick_suc (on_from plan m from) (start_at plan) i));
    })

    pub finish : {jobs : ℕ} → jobs ≤ i → i ≤ jobs → best ≡ job_from plan jobs m from
    unfolding next_from
    finish {jobs} h l = let z : i ≡ jobs = omega arith in rw z at to.is

-- ---- the jobs after the first n

pub record AfterTo (plan : List ℕ) (jobs : ℕ) (after : List (Option ℕ)) (n : ℕ) : Type 0 where
  pub size : length after ≡ 128
  pub each : (j : ℕ) → j < n → get_or after j None ≡ job_from plan jobs (processor_at plan j) (start_at plan j + 1)

module _ {plan : List ℕ} {jobs : ℕ} where
  pub after_start : AfterTo plan jobs (replicate 128 None) 0
  after_start = record { size = length-replicate {A = Option ℕ} 128 None; each = λ j h. absurd (omega arith) }

  module _ {after : List (Option ℕ)} {n : ℕ} (to : AfterTo plan jobs after n) where
    pub after_turn : {next : Option ℕ} → n < 128 → next ≡ job_from plan jobs (processor_at plan n) (start_at plan n + 1)
        → AfterTo plan jobs (set after n next) (n + 1)
    after_turn {next} h e = record {
      size = length-set after n next ∙ to.size;
      each = below_more (λ j. get_or (set after n next) j None ≡ job_from plan jobs (processor_at plan j) (start_at plan j + 1)) n
          (λ j l. get_or-set_other after n j next None (λ z. omega arith) ∙ to.each j l)
          (get_or-set_same after n next None (omega (arith, to.size)) ∙ e);
    }
