-- The planned order of a processor, job after job: the next job is the first of those that start later.
use Rattle.std.specs.Prelude.{ℕ, zero, suc, Option, Some, None, slice_index_or, length, ◌*◌, ◌+◌, ◌≤◌, ◌<◌, ◌≡◌, ◌≢◌, Bool, true, false, not, ◌&&◌, List, [], ◌∷◌, map, leb, eqb}
use Rattle.std.proofs.Math.Path.{sym, ap}
use Rattle.std.proofs.Common.{subst, ◌∙◌}
use Rattle.std.proofs.Math.Decide.{ℕ_discrete}
use native.Mathlib.Omega.{arith}
use borrow.Author.Tests.{leb-true, le-leb, eqb-true, eq-eqb, not-true}
use Rattle.reply.specs.Tools.{pick, better}
use Rattle.reply.specs.Tests.{split, clash, both, both_true, same_test}
use Rattle.reply.specs.Pick.{Lowest, picked, pick_tests}
use Rattle.plan.specs.Plan.{processor_at, start_at}

-- ---- a job, or none

-- what is picked, as the code keeps it
abbrev pub job_in : ℕ → Option ℕ
job_in zero = None
job_in (suc j) = Some j

-- and back: one more than the job, or 0 if there is none
abbrev pub one_more : Option ℕ → ℕ
one_more None = 0
one_more (Some j) = suc j

-- a plan has the two words of a job
abbrev pub InPlan : List ℕ → Option ℕ → Type 0
InPlan plan None = Unit {0}
InPlan plan (Some j) = 2 * j + 2 ≤ length plan

-- ---- the planned order

-- job i is on processor m, and starts at `from` or later
abbrev pub on_from : List ℕ → ℕ → ℕ → ℕ → Bool
on_from plan m from i = eqb (processor_at plan i) m && leb from (start_at plan i)

-- the job on processor m that starts first, of those that start at `from` or later: one more, or 0 if there is none
unfoldable pub next_from : List ℕ → ℕ → ℕ → ℕ → ℕ
next_from plan jobs m from = pick (on_from plan m from) (start_at plan) jobs

abbrev pub job_from : List ℕ → ℕ → ℕ → ℕ → Option ℕ
job_from plan jobs m from = job_in (next_from plan jobs m from)

-- the first job of each of four processors
abbrev pub firsts : List ℕ → ℕ → List (Option ℕ)
firsts plan jobs = map (λ m. job_from plan jobs m 0) (0 ∷ 1 ∷ 2 ∷ 3 ∷ [])

-- of the best job so far and job i
abbrev pub better_job : List ℕ → ℕ → ℕ → ℕ → Option ℕ → Option ℕ
better_job plan m from i best = job_in (better (on_from plan m from) (start_at plan) i (one_more best))

-- the job on processor m that starts first, of those that have not finished
abbrev pub is_left : List ℕ → ℕ → (ℕ → Bool) → ℕ → Bool
is_left plan m finished i = eqb (processor_at plan i) m && not (finished i)

unfoldable pub next_left : List ℕ → ℕ → ℕ → (ℕ → Bool) → ℕ
next_left plan jobs m finished = pick (is_left plan m finished) (start_at plan) jobs

-- of each processor its first job; of each job the next one on its processor
pub record FirstIs (plan : List ℕ) (jobs : ℕ) (first : List (Option ℕ)) : Type 0 where
  pub each : (m : ℕ) → m < 4 → slice_index_or first m None ≡ job_from plan jobs m 0
  pub four : length first ≡ 4

pub record AfterIs (plan : List ℕ) (jobs : ℕ) (after : List (Option ℕ)) : Type 0 where
  pub each : (j : ℕ) → j < jobs → slice_index_or after j None ≡ job_from plan jobs (processor_at plan j) (start_at plan j + 1)

-- two jobs on one processor start at different times
pub record StartsApart (plan : List ℕ) (jobs : ℕ) : Type 0 where
  pub apart : (i j : ℕ) → i < jobs → j < jobs → i ≢ j → processor_at plan i ≡ processor_at plan j → start_at plan i ≢ start_at plan j

-- on each processor the jobs that have finished start before those that have not
pub record InOrder (plan : List ℕ) (jobs : ℕ) (finished : ℕ → Bool) : Type 0 where
  pub before : (i k : ℕ) → i < jobs → k < jobs → processor_at plan i ≡ processor_at plan k → finished i ≡ true → finished k ≡ false → start_at plan i < start_at plan k

-- ---- what is picked

module _ (plan : List ℕ) (jobs : ℕ) where
  -- the next job of a processor: it is one of those left, and the first of them
  pub left_picked : (m : ℕ) (finished : ℕ → Bool) (j : ℕ) → next_left plan jobs m finished ≡ suc j → Lowest (is_left plan m finished) (start_at plan) jobs j
  unfolding next_left
  left_picked m finished j e = picked (is_left plan m finished) (start_at plan) jobs j e

  pub left_on : (m : ℕ) (finished : ℕ → Bool) (j : ℕ) → next_left plan jobs m finished ≡ suc j → processor_at plan j ≡ m
  left_on m finished j e = eqb-true _ _ (both (eqb (processor_at plan j) m) _ (left_picked m finished j e).passes).0

  pub left_todo : (m : ℕ) (finished : ℕ → Bool) (j : ℕ) → next_left plan jobs m finished ≡ suc j → finished j ≡ false
  left_todo m finished j e = not-true (finished j) (both (eqb (processor_at plan j) m) _ (left_picked m finished j e).passes).1

  -- before any has finished it is the first
  pub first_left : (m : ℕ) (finished : ℕ → Bool) → ((i : ℕ) → i < jobs → finished i ≡ false) → next_from plan jobs m 0 ≡ next_left plan jobs m finished
  unfolding next_from next_left
  first_left m finished none = pick_tests (on_from plan m 0) (is_left plan m finished) (start_at plan) jobs λ i h. rw (none i h, le-leb 0 (start_at plan i) (omega arith))

  module _ (apart : StartsApart plan jobs) (m : ℕ) (finished finished' : ℕ → Bool) (j : ℕ) (next : next_left plan jobs m finished ≡ suc j) (order : InOrder plan jobs finished)
      (same : finished' j ≡ true) (others : (i : ℕ) → i ≢ j → finished' i ≡ finished i) where
    low : Lowest (is_left plan m finished) (start_at plan) jobs j
    low = left_picked m finished j next

    -- another that is left on the processor starts later
    later : (i : ℕ) → i < jobs → i ≢ j → processor_at plan i ≡ m → finished i ≡ false → start_at plan j < start_at plan i
    later i h d on todo =
        let other : start_at plan i ≢ start_at plan j = apart.apart i j h low.below d (on ∙ sym (left_on m finished j next)) in
        omega (arith, low.least i h (both_true (eqb (processor_at plan i) m) (not (finished i)) (eq-eqb (processor_at plan i) m on) (rw todo)))

    -- when the next job has finished, the one after it is the next
    pub left_after : next_from plan jobs (processor_at plan j) (start_at plan j + 1) ≡ next_left plan jobs m finished'
    unfolding next_from next_left
    left_after =
        ap (λ (p : ℕ). pick (on_from plan p (start_at plan j + 1)) (start_at plan) jobs) (left_on m finished j next)
        ∙ pick_tests (on_from plan m (start_at plan j + 1)) (is_left plan m finished') (start_at plan) jobs λ i h.
        same_test (on_from plan m (start_at plan j + 1) i) (is_left plan m finished' i)
        (λ t.
        let (on, starts) = both (eqb (processor_at plan i) m) _ t in
        let late : start_at plan j + 1 ≤ start_at plan i = leb-true (start_at plan j + 1) (start_at plan i) starts in
        let d : i ≢ j = λ e. omega (arith, ap (start_at plan) e) in
        both_true _ _ on (rw (others i d) (split (finished i)
        (λ f. absurd (omega (
          arith,
          order.before i j h low.below (eqb-true _ _ on ∙ sym (left_on m finished j next)) f (left_todo m finished j next),
        )))
        (λ f. rw f))))
        (λ t.
        let (on, todo) = both (eqb (processor_at plan i) m) _ t in
        let d : i ≢ j = λ e. clash same (subst (λ k. finished' k ≡ false) e (not-true (finished' i) todo)) in
        let late : start_at plan j + 1 ≤ start_at plan i = omega (arith, later i h d (eqb-true (processor_at plan i) m on) (sym (others i d) ∙ not-true (finished' i) todo)) in
        both_true _ _ on (le-leb (start_at plan j + 1) (start_at plan i) late))

    -- the jobs of other processors are left as they were
    pub left_other : (k : ℕ) → k ≢ m → next_left plan jobs k finished ≡ next_left plan jobs k finished'
    unfolding next_left
    left_other k d = pick_tests (is_left plan k finished) (is_left plan k finished') (start_at plan) jobs λ i h. elim (ℕ_discrete i j) [
      | yes e ↦
          let on : processor_at plan i ≡ m = ap (processor_at plan) e ∙ left_on m finished j next in
          same_test (is_left plan k finished i) (is_left plan k finished' i)
          (λ t. absurd (d (sym (eqb-true _ _ (both (eqb (processor_at plan i) k) _ t).0) ∙ on)))
          (λ t. absurd (d (sym (eqb-true _ _ (both (eqb (processor_at plan i) k) _ t).0) ∙ on)))
      | no e ↦ rw (others i e)
    ]

    -- and they have finished in order
    pub order_after : InOrder plan jobs finished'
    order_after = record {
      before = λ i k hi hk on f todo.
          let dk : k ≢ j = λ e. clash same (subst (λ x. finished' x ≡ false) e todo) in
          let todo' : finished k ≡ false = sym (others k dk) ∙ todo in
          elim (ℕ_discrete i j) [
            | yes e ↦ rw e (later k hk dk (sym on ∙ ap (processor_at plan) e ∙ left_on m finished j next) todo')
            | no e ↦ order.before i k hi hk on (sym (others i e) ∙ f) todo'
          ];
    }
