-- Tests: by cases, and what a test of two tests says.
use Rattle.std.specs.Prelude.{◌≡◌, refl, ◌⊎◌, Bool, true, false, not, ◌&&◌, ◌||◌}
use Rattle.std.proofs.Common.{sym, ◌∙◌, inl, inr, true≢false}

pub split : {P : Type 0} (b : Bool) → (b ≡ true → P) → (b ≡ false → P) → P
split true t f = t refl
split false t f = f refl

pub clash : {P : Type 0} {b : Bool} → b ≡ true → b ≡ false → P
clash t f = absurd (true≢false (sym t ∙ f))

pub both : (s t : Bool) → (s && t) ≡ true → (s ≡ true) × (t ≡ true)
both true t e = (refl, e)
both false t e = clash e refl

pub either : (s t : Bool) → (s || t) ≡ true → (s ≡ true) ⊎ (t ≡ true)
either true t e = inl refl
either false t e = inr e

pub both_true : (s t : Bool) → s ≡ true → t ≡ true → (s && t) ≡ true
both_true s t e f = rw (e, f)

pub either_true : (s t : Bool) → (s ≡ true) ⊎ (t ≡ true) → (s || t) ≡ true
either_true s t (inl e) = rw e
either_true true t (inr e) = refl
either_true false t (inr e) = e

-- two tests that pass in the same cases
pub same_test : (s t : Bool) → (s ≡ true → t ≡ true) → (t ≡ true → s ≡ true) → s ≡ t
same_test true t f g = sym (f refl)
same_test false true f g = g refl
same_test false false f g = refl

-- "if s then t"
pub implies : (s t : Bool) → (not s || t) ≡ true → s ≡ true → t ≡ true
implies true t e f = e
implies false t e f = clash f refl

pub implies_true : (s t : Bool) → (s ≡ true → t ≡ true) → (not s || t) ≡ true
implies_true true t f = f refl
implies_true false t f = refl
