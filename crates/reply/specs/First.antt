-- `first` gives the first number that passes.
use Rattle.std.specs.Prelude.{ℕ, zero, suc, ◌+◌, ◌≤◌, ◌<◌, ◌≡◌, Bool, true, false}
use Rattle.std.proofs.Common.{sym, subst, arith}
use Rattle.std.proofs.Math.Decide.{dec_lt, ℕ_discrete}
use Rattle.reply.specs.Tools.{first_from, first}
use Rattle.reply.specs.Tests.{split, clash}

-- k is the first from `at` on, before `end`, that passes; or it is `end`, and none does
pub record First (q : ℕ → Bool) (at end k : ℕ) : Type 0 where
  pub from : at ≤ k
  pub to : k ≤ end
  pub before : (i : ℕ) → at ≤ i → i < k → q i ≡ false
  pub passes : k < end → q k ≡ true

pub first_from_is : (tries at : ℕ) (q : ℕ → Bool) → First q at (at + tries) (first_from tries at q)
unfolding first_from
first_from_is zero at q = record { from = omega arith; to = omega arith; before = λ i h l. absurd (omega arith); passes = λ h. absurd (omega arith) }
first_from_is (suc tries) at q =
    let F : First q (suc at) (suc at + tries) (first_from tries (suc at) q) = first_from_is tries (suc at) q in
    split (q at)
    (λ t. rw t (record { from = omega arith; to = omega arith; before = λ i h l. absurd (omega arith); passes = λ h. t }))
    (λ t. rw t (record {
      from = omega (arith, F.from);
      to = omega (arith, F.to);
      before = λ i h l. elim (ℕ_discrete i at) [ yes z ↦ subst (λ x. q x ≡ false) (sym z) t | no d ↦ F.before i (omega arith) l ];
      passes = λ h. F.passes (omega arith);
    }))

pub first_is : (n : ℕ) (q : ℕ → Bool) → First q 0 (0 + n) (first n q)
first_is n q = first_from_is n 0 q

pub first_found : (n : ℕ) (q : ℕ → Bool) (i : ℕ) → i < n → q i ≡ true → (first n q < n) × (q (first n q) ≡ true)
first_found n q i h e =
    let F : First q 0 (0 + n) (first n q) = first_is n q in
    elim (dec_lt (first n q) n) [
      | yes l ↦ (l, F.passes (omega arith))
      | no l ↦ clash e (F.before i (omega arith) (omega arith))
    ]

pub first_past : (n : ℕ) (q : ℕ → Bool) → ((i : ℕ) → i < n → q i ≡ false) → first n q ≡ n
first_past n q f =
    let F : First q 0 (0 + n) (first n q) = first_is n q in
    elim (dec_lt (first n q) n) [
      | yes l ↦ clash (F.passes (omega arith)) (f (first n q) l)
      | no l ↦ omega (arith, F.to)
    ]

-- there is only one first
pub first_only : (q : ℕ → Bool) (at end j k : ℕ) → First q at end j → First q at end k → j ≡ k
first_only q at end j k a b = elim (dec_lt j k) [
  | yes h ↦ clash (a.passes (omega (arith, b.to))) (b.before j a.from h)
  | no h ↦ elim (dec_lt k j) [
    | yes l ↦ clash (b.passes (omega (arith, a.to))) (a.before k b.from l)
    | no l ↦ omega arith
  ]
]
