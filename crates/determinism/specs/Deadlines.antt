-- A plan that keeps its deadlines keeps them when jobs take less than their budgets; and its timed run is one only.
use Rattle.std.specs.Prelude.{ℕ, zero, suc, ◌+◌, ◌≤◌, ◌<◌, ◌≡◌}
use Rattle.std.proofs.Common.{arith}

-- the timed run of n jobs, where `after i j` says that j waits for the end of i: each starts at the least time that its release and those ends allow
pub record Timed (n : ℕ) (after : ℕ → ℕ → Type 0) (release took begins ends : ℕ → ℕ) : Type 0 where
  pub released : (j : ℕ) → j < n → release j ≤ begins j
  pub waits : (i j : ℕ) → j < n → after i j → ends i ≤ begins j
  pub least : (j b : ℕ) → j < n → release j ≤ b → ((i : ℕ) → after i j → ends i ≤ b) → begins j ≤ b
  pub ends_is : (j : ℕ) → j < n → ends j ≡ begins j + took j

-- a plan that keeps to the same order, with budgets for durations
pub record Planned (n : ℕ) (after : ℕ → ℕ → Type 0) (release budget start : ℕ → ℕ) : Type 0 where
  pub inside : (i j : ℕ) → j < n → after i j → i < n
  pub worth : (j : ℕ) → j < n → 0 < budget j
  pub released : (j : ℕ) → j < n → release j ≤ start j
  pub waits : (i j : ℕ) → j < n → after i j → start i + budget i ≤ start j

module _ (n : ℕ) (after : ℕ → ℕ → Type 0) (release budget start : ℕ → ℕ) (P : Planned n after release budget start) where
  -- induction along the plan
  along : (Q : ℕ → Type 0) → ((j : ℕ) → j < n → ((i : ℕ) → after i j → Q i) → Q j) → (m j : ℕ) → j < n → start j < m → Q j
  along Q f zero j h s = absurd (omega arith)
  along Q f (suc m) j h s = f j h (λ i a.
      let k : i < n = P.inside i j h a in
      along Q f m i k (omega (arith, P.waits i j h a, P.worth i k)))

  by_plan : (Q : ℕ → Type 0) → ((j : ℕ) → j < n → ((i : ℕ) → after i j → Q i) → Q j) → (j : ℕ) → j < n → Q j
  by_plan Q f j h = along Q f (suc (start j)) j h (omega arith)

  module _ (took : ℕ → ℕ) (short : (j : ℕ) → j < n → took j ≤ budget j) where
    -- every job ends within its planned time
    pub in_time : (begins ends : ℕ → ℕ) → Timed n after release took begins ends → (j : ℕ) → j < n → ends j ≤ start j + budget j
    in_time begins ends t = by_plan (λ j. ends j ≤ start j + budget j) (λ j h ih.
        let b : begins j ≤ start j = t.least j (start j) h (P.released j h) (λ i a. omega (arith, ih i a, P.waits i j h a)) in
        omega (arith, t.ends_is j h, short j h))

    -- the equations of the timed run have one solution
    pub one_timed : (b e b' e' : ℕ → ℕ) → Timed n after release took b e → Timed n after release took b' e'
        → (j : ℕ) → j < n → (b j ≡ b' j) × (e j ≡ e' j)
    one_timed b e b' e' t t' = by_plan (λ j. (b j ≡ b' j) × (e j ≡ e' j)) (λ j h ih.
        let p : b j ≤ b' j = t.least j (b' j) h (t'.released j h) (λ i a. omega (arith, (ih i a).1, t'.waits i j h a)) in
        let q : b' j ≤ b j = t'.least j (b j) h (t.released j h) (λ i a. omega (arith, (ih i a).1, t.waits i j h a)) in
        (omega arith, omega (arith, t.ends_is j h, t'.ends_is j h)))
