-- A run of turns of which those that work are counted and the others change nothing: one that can work does; and a measure bounds how many do.
use Rattle.std.specs.Prelude.{ℕ, zero, suc, ◌+◌, ◌*◌, ◌≤◌, ◌<◌, ◌≡◌, refl, ◌≢◌, Bool, true, false, cond}
use Rattle.std.proofs.Common.{sym, ap, subst, ◌∙◌, inl, inr, suc-mul, arith}
use mathlib.Core.List.Memᴰ
use mathlib.Core.List.{List, [], ◌∷◌, Memᴰ}
use Rattle.std.proofs.Math.Decide.{dec_lt}
use Rattle.reply.specs.Tools.{sum}
use Rattle.reply.specs.Tests.{split, clash}
use Rattle.reply.specs.Counts.{sum_same}

module _ {A : Type 0} (turn : ℕ → A → A) (works : ℕ → A → Bool) (idle : (p : ℕ) (a : A) → works p a ≡ false → turn p a ≡ a) where
  abbrev pub run : List ℕ → A → A
  run [] a = a
  run (p ∷ ps) a = run ps (turn p a)

  -- how many turns work
  abbrev pub worked : List ℕ → A → ℕ
  worked [] a = 0
  worked (p ∷ ps) a = cond (works p a) 1 0 + worked ps (turn p a)

  -- turns of which none works
  pub unchanged : (ps : List ℕ) (a : A) → worked ps a ≡ 0 → run ps a ≡ a
  unchanged [] a e = refl
  unchanged (p ∷ ps) a e = split (works p a)
      (λ w. absurd (omega (arith, rw w at e)))
      (λ w. unchanged ps (turn p a) (omega (arith, rw w at e)) ∙ idle p a w)

  -- turns that name one that can work
  pub works_once : (ps : List ℕ) (a : A) (q : ℕ) → Memᴰ q ps → works q a ≡ true → 0 < worked ps a
  works_once [] a q m w = absurd (Memᴰ.not-nil m)
  works_once (p ∷ ps) a q m w = split (works p a)
      (λ v. rw v (omega arith))
      (λ v. rw v (elim (Memᴰ.cases_cons m) [
        | inl e ↦ clash (rw e at w) v
        | inr m' ↦ omega (arith, works_once ps (turn p a) q m' (ap (works q) (idle p a v) ∙ w))
      ]))

  -- a measure that a working turn lowers bounds their number
  pub bounded : (Q : A → Type 0) (size : A → ℕ) → ((p : ℕ) (a : A) → Q a → Q (turn p a))
      → ((p : ℕ) (a : A) → Q a → works p a ≡ true → size (turn p a) < size a)
      → (ps : List ℕ) (a : A) → Q a → worked ps a + size (run ps a) ≤ size a
  bounded Q size keep less [] a h = omega arith
  bounded Q size keep less (p ∷ ps) a h =
      let ih : worked ps (turn p a) + size (run ps (turn p a)) ≤ size (turn p a) = bounded Q size keep less ps (turn p a) (keep p a h) in
      split (works p a)
      (λ w. rw w (omega (arith, ih, less p a h w)))
      (λ w. rw w (omega (arith, ih, ap size (idle p a w))))

-- a sum of which one summand gets less
pub sum_less : (n : ℕ) (f g : ℕ → ℕ) (k : ℕ) → k < n → ((i : ℕ) → i ≢ k → g i ≡ f i) → g k < f k → sum n g < sum n f
unfolding sum
sum_less zero f g k h e less = absurd (omega arith)
sum_less (suc n) f g k h e less = elim (dec_lt k n) [
  | yes l ↦ omega (arith, sum_less n f g k l e less, e n (omega arith))
  | no l ↦
      let z : n ≡ k = omega arith in
      omega (arith, sum_same n g f (λ i a. e i (omega arith)), subst (λ x. g x < f x) (sym z) less)
]

-- a sum of summands that are at most c
pub sum_most : (n : ℕ) (f : ℕ → ℕ) (c : ℕ) → ((i : ℕ) → i < n → f i ≤ c) → sum n f ≤ n * c
unfolding sum
sum_most zero f c h = omega arith
sum_most (suc n) f c h = rw (suc-mul n c) (omega (arith, sum_most n f c (λ i a. h i (omega arith)), h n (omega arith)))
