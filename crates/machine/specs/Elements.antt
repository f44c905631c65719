-- An element of a list, if it is there, after one is set: no law of it needs a bound.
use Rattle.std.specs.Prelude.{◌≡◌, ℕ, zero, suc, ◌≢◌, List, [], ◌∷◌, slice_index_or, slice_set, refl}
use Rattle.std.proofs.Common.{sym, ap, subst, ◌∙◌}
use Rattle.std.proofs.Math.Option.{Option, none, some}
use Rattle.std.proofs.Math.Decide.{ℕ_discrete}
use Rattle.std.proofs.Math.ListN.{get_elem?}

module _ {A : Type 0} where
  abbrev or_else : A → Option A → A
  or_else d none = d
  or_else d (some x) = x

  get_or_nth : (l : List A) (i : ℕ) (d : A) → slice_index_or l i d ≡ or_else d (get_elem? l i)
  get_or_nth [] i d = refl
  get_or_nth (x ∷ l) zero d = refl
  get_or_nth (x ∷ l) (suc i) d = get_or_nth l i d

  -- lists that agree at i have the same element there
  pub get_or_agree : (l m : List A) (i : ℕ) (d : A) → get_elem? l i ≡ get_elem? m i → slice_index_or l i d ≡ slice_index_or m i d
  get_or_agree l m i d e = get_or_nth l i d ∙ ap (or_else d) e ∙ sym (get_or_nth m i d)

  -- the others stay
  pub nth_set_other : (l : List A) (k i : ℕ) (v : A) → i ≢ k → get_elem? (slice_set l k v) i ≡ get_elem? l i
  nth_set_other [] k i v d = refl
  nth_set_other (x ∷ l) zero zero v d = absurd (d refl)
  nth_set_other (x ∷ l) zero (suc i) v d = refl
  nth_set_other (x ∷ l) (suc k) zero v d = refl
  nth_set_other (x ∷ l) (suc k) (suc i) v d = nth_set_other l k i v (λ e. d (ap suc e))

  abbrev over : A → Option A → Option A
  over v none = none
  over v (some x) = some v

  nth_set_same : (l : List A) (k : ℕ) (v : A) → get_elem? (slice_set l k v) k ≡ over v (get_elem? l k)
  nth_set_same [] k v = refl
  nth_set_same (x ∷ l) zero v = refl
  nth_set_same (x ∷ l) (suc k) v = nth_set_same l k v

  -- lists that agree at i agree there after the same is set in both
  pub nth_set_both : (l m : List A) (k i : ℕ) (v w : A) → get_elem? l i ≡ get_elem? m i → v ≡ w → get_elem? (slice_set l k v) i ≡ get_elem? (slice_set m k w) i
  nth_set_both l m k i v w e f = elim (ℕ_discrete i k) [
    | yes d ↦ rw d (nth_set_same l k v ∙ rw (f, subst (λ x. get_elem? l x ≡ get_elem? m x) d e) refl ∙ sym (nth_set_same m k w))
    | no d ↦ nth_set_other l k i v d ∙ e ∙ sym (nth_set_other m k i w d)
  ]
