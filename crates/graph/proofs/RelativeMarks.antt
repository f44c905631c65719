-- Relatives: the test of two processes, and numbers below i that pass a test.
use Prim.Native.Nat.{ℕ, ◌+◌}
use mathlib.Core.Path.{◌≡◌, refl, sym, ap, ◌∙◌}
use mathlib.Core.Logic.{◌≢◌}
use mathlib.Core.Bool.{Bool, true, false, ◌&&◌, ◌||◌}
use native.Mathlib.Decide.{ℕ_discrete}
use native.Mathlib.Omega.{arith}
use lib.Dec.{ltb, eqb}
use borrow.Author.Tests.{lt-ltb, le-ltb, ltb-true, eq-eqb, ne_eqb}
use Rattle.reply.specs.Tests.{split, same_test}
use Rattle.marks.specs.Row.{marked}
use Rattle.marks.specs.declared.Row.{Row}
use Rattle.graph.specs.PrecedenceTold.{is_relative}

-- ---- two processes

module _ (there own : Row) (p q : ℕ) where
  pub relative_itself : q ≡ p → true ≡ is_relative there own p q
  unfolding is_relative
  relative_itself e = sym (rw (eq-eqb q p e))

  module _ (d : q ≢ p) (has : Bool) (e : has ≡ marked there p) where
    pub relative_there : has ≡ true → true ≡ is_relative there own p q
    unfolding is_relative
    relative_there t = sym (rw (ne_eqb q p d, sym e ∙ t))

    pub relative_back : has ≡ false → marked own q ≡ is_relative there own p q
    unfolding is_relative
    relative_back t = sym (rw (ne_eqb q p d, sym e ∙ t))

-- ---- numbers below i that pass a test, and below i + 1

module _ (test : ℕ → Bool) (i k : ℕ) where
  other : k ≢ i → ltb k i ≡ ltb k (i + 1)
  other d = same_test (ltb k i) (ltb k (i + 1)) (λ t. lt-ltb k (i + 1) (omega (arith, ltb-true k i t))) (λ t. lt-ltb k i (omega (arith, ltb-true k (i + 1) t)))

  -- i itself passes, or not
  pub one_more : test i ≡ true → ((ltb k i && test k) || eqb k i) ≡ (ltb k (i + 1) && test k)
  one_more t = elim (ℕ_discrete k i) [
    | yes e ↦ rw (e, le-ltb i i (omega arith), lt-ltb i (i + 1) (omega arith), eq-eqb i i refl, t)
    | no d ↦ rw (ne_eqb k i d, other d) (or_false (ltb k (i + 1) && test k))
  ]
    where
      or_false : (b : Bool) → (b || false) ≡ b
      or_false true = refl
      or_false false = refl

  pub no_more : test i ≡ false → (ltb k i && test k) ≡ (ltb k (i + 1) && test k)
  no_more t = elim (ℕ_discrete k i) [
    | yes e ↦ rw (e, le-ltb i i (omega arith), lt-ltb i (i + 1) (omega arith), t)
    | no d ↦ rw (other d)
  ]

-- with i where it passes
pub below_more : (test : ℕ → Bool) (i k : ℕ) → ((ltb k i && test k) || (eqb k i && test i)) ≡ (ltb k (i + 1) && test k)
below_more test i k = split (test i)
    (λ t. ap (λ (b : Bool). (ltb k i && test k) || (eqb k i && b)) t ∙ ap (λ (b : Bool). (ltb k i && test k) || b) (and_true (eqb k i)) ∙ one_more test i k t)
    (λ t. ap (λ (b : Bool). (ltb k i && test k) || (eqb k i && b)) t ∙ none (ltb k i && test k) (eqb k i) ∙ no_more test i k t)
  where
    and_true : (b : Bool) → (b && true) ≡ b
    and_true true = refl
    and_true false = refl

    none : (a b : Bool) → (a || (b && false)) ≡ a
    none true b = refl
    none false true = refl
    none false false = refl
