-- The order of a feasible plan: what precedes a job is planned to start earlier, no two jobs on a processor start together, and so a job's start depends
-- on jobs that are planned to start earlier alone.
use Rattle.std.specs.Prelude.{ℕ, zero, suc, ◌-◌, ◌≤◌, ◌<◌, ◌≡◌, refl, ◌≢◌, ◌⊎◌, true, false, List, ltb, eqb}
use Rattle.std.proofs.Common.{sym, ◌∙◌, inl, inr, arith}
use Rattle.std.proofs.Math.Path.{ap}
use Rattle.std.proofs.Math.Bool.{cond}
use Rattle.std.proofs.Math.Decide.{ℕ_discrete}
use borrow.Author.Tests.{ltb-true, lt-ltb, eqb-true, eq-eqb}
use Rattle.reply.specs.Tests.{split, clash, both, both_true}
use Rattle.reply.specs.Pick.{Picked, pick_is}
use Rattle.graph.specs.Work.{Work, job_count_of, precedes}
use Rattle.plan.specs.Greatest.{greatest_same}
use Rattle.plan.specs.Plan.{processor_at, start_at, end_at, ready_at, start_after}
use Rattle.plan.specs.StartLaws.{start_least}
use Rattle.timed.specs.Timed.{is_earlier, job_before, end_before, start_is}
use Rattle.timed.specs.PlannedOrder.{Ordered}

-- ---- the earlier jobs of a processor

module _ (plan : List ℕ) (j i : ℕ) where
  pub earlier_true : is_earlier plan j i ≡ true → (processor_at plan i ≡ processor_at plan j) × (start_at plan i < start_at plan j)
  unfolding is_earlier
  earlier_true e =
      let (same, before) = both (eqb (processor_at plan i) (processor_at plan j)) (ltb (start_at plan i) (start_at plan j)) e in
      (eqb-true _ _ same, ltb-true _ _ before)

  pub earlier_make : processor_at plan i ≡ processor_at plan j → start_at plan i < start_at plan j → is_earlier plan j i ≡ true
  unfolding is_earlier
  earlier_make same before = both_true _ _ (eq-eqb _ _ same) (lt-ltb _ _ before)

module _ (w : Work) (plan : List ℕ) (j : ℕ) where
  abbrev Before : ℕ → Type 0
  Before x = Picked (is_earlier plan j) (λ i. start_at plan j - start_at plan i) (job_count_of w) x

  before_picked : Picked (is_earlier plan j) (λ i. start_at plan j - start_at plan i) (job_count_of w) (job_before w plan j)
  unfolding job_before
  before_picked = pick_is _ _ (job_count_of w)

  -- what holds of 0, and of the end of every earlier job on the processor, holds of the end of the job before
  pub before_end : (ends : ℕ → ℕ) (P : ℕ → Type 0) → P 0
      → ((i : ℕ) → i < job_count_of w → processor_at plan i ≡ processor_at plan j → start_at plan i < start_at plan j → P (ends i))
      → P (end_before ends (job_before w plan j))
  before_end ends P none each = go (job_before w plan j) before_picked
    where
      go : (x : ℕ) → Before x → P (end_before ends x)
      go zero b = none
      go (suc i) b = let (same, before) = earlier_true plan j i b.passes in each i b.below same before

  -- two accounts of the ends that agree on the earlier jobs give the same end
  pub before_same : (e f : ℕ → ℕ) → ((i : ℕ) → i < job_count_of w → processor_at plan i ≡ processor_at plan j → start_at plan i < start_at plan j → e i ≡ f i)
      → end_before e (job_before w plan j) ≡ end_before f (job_before w plan j)
  before_same e f same = go (job_before w plan j) before_picked
    where
      go : (x : ℕ) → Before x → end_before e x ≡ end_before f x
      go zero b = refl
      go (suc i) b = let (one, before) = earlier_true plan j i b.passes in same i b.below one before

  -- none is before the first one
  pub before_none : ((i : ℕ) → i < job_count_of w → is_earlier plan j i ≡ false) → job_before w plan j ≡ 0
  before_none none = go (job_before w plan j) before_picked
    where
      go : (x : ℕ) → Before x → x ≡ 0
      go zero b = refl
      go (suc i) b = clash b.passes (none i b.below)

-- ---- in a feasible plan

module _ {w : Work} {m : ℕ} {plan : List ℕ} (O : Ordered w m plan) where
  -- what precedes a job is planned to start earlier
  pub starts_early : (i j : ℕ) → precedes w i j ≡ true → start_at plan i < start_at plan j
  starts_early i j e =
      let (hi, hj) = O.forward.within i j e in
      omega (arith, O.feasible.ordered i j hj e, O.worth i hi)

  -- on one processor, of two jobs the one planned to start no later is planned to end before the other starts
  pub ends_early : (i j : ℕ) → i < job_count_of w → j < job_count_of w → i ≢ j → processor_at plan i ≡ processor_at plan j → start_at plan i ≤ start_at plan j
      → end_at w plan i ≤ start_at plan j
  ends_early i j hi hj d same l = go (O.feasible.apart i j hi hj d same)
    where
      go : (end_at w plan i ≤ start_at plan j) ⊎ (end_at w plan j ≤ start_at plan i) → end_at w plan i ≤ start_at plan j
      go (inl a) = a
      go (inr a) = absurd (omega (arith, O.worth j hj))

  -- so they don't start together
  pub starts_apart : (i j : ℕ) → i < job_count_of w → j < job_count_of w → i ≢ j → processor_at plan i ≡ processor_at plan j → start_at plan i ≤ start_at plan j
      → start_at plan i < start_at plan j
  starts_apart i j hi hj d same l = omega (arith, ends_early i j hi hj d same l, O.worth i hi)

  -- the latest of the earlier jobs is the job before
  pub before_is : (i j : ℕ) → i < job_count_of w → is_earlier plan j i ≡ true
      → ((k : ℕ) → k < job_count_of w → is_earlier plan j k ≡ true → start_at plan k ≤ start_at plan i) → job_before w plan j ≡ suc i
  before_is i j h e latest = go (job_before w plan j) (before_picked w plan j)
    where
      go : (x : ℕ) → Picked (is_earlier plan j) (λ i. start_at plan j - start_at plan i) (job_count_of w) x → x ≡ suc i
      go zero none = clash e (none i h)
      go (suc k) b =
          let (one, l) = earlier_true plan j i e in
          let (two, g) = earlier_true plan j k b.passes in
          elim (ℕ_discrete k i) [
            | yes z ↦ omega arith
            | no d ↦
                let apart = starts_apart k i b.below h d (two ∙ sym one) (latest k b.below b.passes) in
                absurd (omega (arith, b.least i h e))
          ]

  -- ---- a start

  ready_same : (e f : ℕ → ℕ) (j : ℕ) → ((i : ℕ) → i < job_count_of w → start_at plan i < start_at plan j → e i ≡ f i) → ready_at w e j ≡ ready_at w f j
  unfolding ready_at
  ready_same e f j same = greatest_same (job_count_of w) (λ i. cond (precedes w i j) (e i) 0) (λ i. cond (precedes w i j) (f i) 0)
      (λ i h. split (precedes w i j) (λ t. rw t (same i h (starts_early i j t))) (λ t. rw t refl))

  -- it depends on the ends of jobs that are planned to start earlier
  pub start_same : (e f : ℕ → ℕ) (j : ℕ) → ((i : ℕ) → i < job_count_of w → start_at plan i < start_at plan j → e i ≡ f i) → start_is w plan e j ≡ start_is w plan f j
  unfolding start_is start_after
  start_same e f j same = rw (ready_same e f j same, before_same w plan j e f (λ i h one. same i h))

  -- and is not after the planned start, if those jobs end by their planned ends
  pub starts_by : (ends : ℕ → ℕ) (j : ℕ) → j < job_count_of w → ((i : ℕ) → i < job_count_of w → start_at plan i < start_at plan j → ends i ≤ end_at w plan i)
      → start_is w plan ends j ≤ start_at plan j
  unfolding start_is
  starts_by ends j h by = start_least w ends (end_before ends (job_before w plan j)) j (start_at plan j)
      (O.feasible.released j h)
      (λ i e. omega (arith, by i (O.forward.within i j e).0 (starts_early i j e), O.feasible.ordered i j h e))
      (before_end w plan j ends (λ x. x ≤ start_at plan j) (omega arith)
      (λ i hi same l. omega (arith, by i hi l, ends_early i j hi h (λ z. omega (arith, ap (λ (x : ℕ). start_at plan x) z)) same (omega arith))))
