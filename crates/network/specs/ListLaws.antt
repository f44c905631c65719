-- Laws of tables, of tests of every element, and of lists that are filled up.
use Prim.Native.Nat.{ℕ, zero, suc, ◌+◌, ◌-◌, ◌≤◌, ◌<◌, min}
use Rattle.std.specs.Prelude.{◌≡◌, Bool, take, set, replicate}
use Rattle.std.proofs.Math.Path.{refl, ap}
use Rattle.std.proofs.Common.{sym, ◌∙◌, take_all}
use Rattle.std.proofs.Math.Bool.{true}
use mathlib.Core.List.{List, [], ◌∷◌, ◌++◌, append_assoc, append-nil}
use Rattle.std.proofs.Math.Decide.{dec_lt}
use native.Mathlib.Omega.{arith}
use Rattle.std.proofs.Math.ListN.{length, get_or, length-append, length-replicate, get_or-replicate, get_or-append, get_or-eq_default}
use Rattle.std.proofs.Math.Seq.{get_or-append-add, set-append_seam, take-append_seam}
use Rattle.reply.specs.Tests.{both}
use Rattle.network.specs.Lists.{table, every, each_of, fill_to}

module _ {A : Type 0} where
  -- ---- tables

  pub length_table : (n : ℕ) (f : ℕ → A) → length (table n f) ≡ n
  unfolding table
  length_table zero f = refl
  length_table (suc n) f = length-append (table n f) (f n ∷ []) ∙ omega (arith, length_table n f)

  pub get_or_table : (n : ℕ) (f : ℕ → A) (i : ℕ) (d : A) → i < n → get_or (table n f) i d ≡ f i
  unfolding table
  get_or_table zero f i d h = absurd (omega arith)
  get_or_table (suc n) f i d h = elim (dec_lt i n) [
    | yes l ↦ get_or-append (table n f) (f n ∷ []) d i (omega (arith, length_table n f)) ∙ get_or_table n f i d l
    | no l ↦
        let e : length (table n f) + 0 ≡ i = omega (arith, length_table n f) in
        let z : n ≡ i = omega arith in
        ap (λ (k : ℕ). get_or (table (suc n) f) k d) (sym e) ∙ get_or-append-add (table n f) (f n ∷ []) 0 d ∙ ap f z
  ]

  pub get_or_table_past : (n : ℕ) (f : ℕ → A) (i : ℕ) (d : A) → n ≤ i → get_or (table n f) i d ≡ d
  get_or_table_past n f i d h = get_or-eq_default (table n f) d {n = i} (omega (arith, length_table n f))

  -- ---- as many as there are

  -- a count above the length takes all
  pub take_lesser : (l : List A) (count n most : ℕ) → length l ≡ most → n ≡ min count most → take n l ≡ take count l
  take_lesser l count n most size e = elim (dec_lt count most) [
    | yes h ↦ let z : n ≡ count = omega arith in rw z
    | no h ↦ take_all n l (omega arith) ∙ sym (take_all count l (omega arith))
  ]

  -- ---- every element

  pub every_true : (q : A → Bool) (l : List A) (d : A) → every q l ≡ true → (i : ℕ) → i < length l → q (get_or l i d) ≡ true
  unfolding every
  every_true q [] d e i h = absurd (omega arith)
  every_true q (x ∷ l) d e zero h = (both (q x) (every q l) e).0
  every_true q (x ∷ l) d e (suc i) h = every_true q l d (both (q x) (every q l) e).1 i (omega arith)

  pub every_make : (q : A → Bool) (l : List A) (d : A) → ((i : ℕ) → i < length l → q (get_or l i d) ≡ true) → every q l ≡ true
  unfolding every
  every_make q [] d f = refl
  every_make q (x ∷ l) d f =
      let a : q x ≡ true = f 0 (omega arith) in
      rw (a, every_make q l d (λ i h. f (suc i) (omega arith)))

  -- ---- one after another

  pub each_append : (f : A → List ℕ) (xs ys : List A) → each_of f (xs ++ ys) ≡ each_of f xs ++ each_of f ys
  unfolding each_of
  each_append f [] ys = refl
  each_append f (x ∷ xs) ys = rw (each_append f xs ys, append_assoc)

  pub each_one : (f : A → List ℕ) (x : A) → each_of f (x ∷ []) ≡ f x
  unfolding each_of
  each_one f x = append-nil (f x)

  pub each_more : (f : A → List ℕ) (xs : List A) (x : A) → each_of f (xs ++ (x ∷ [])) ≡ each_of f xs ++ f x
  each_more f xs x = each_append f xs (x ∷ []) ∙ ap (λ (l : List ℕ). each_of f xs ++ l) (each_one f x)

  -- ---- filled up

  pub fill_none : (n : ℕ) (d : A) → fill_to n d [] ≡ replicate n d
  unfolding fill_to
  fill_none n d = let z : n - 0 ≡ n = omega arith in rw z

  pub length_fill : (n : ℕ) (d : A) (l : List A) → length l ≤ n → length (fill_to n d l) ≡ n
  unfolding fill_to
  length_fill n d l h = length-append l (replicate (n - length l) d) ∙ omega (arith, length-replicate (n - length l) d)

  pub take_fill : (n : ℕ) (d : A) (l : List A) → take (length l) (fill_to n d l) ≡ l
  unfolding fill_to
  take_fill n d l = take-append_seam l (replicate (n - length l) d)

  pub fill_kept : (n : ℕ) (d : A) (l : List A) (i : ℕ) → i < length l → get_or (fill_to n d l) i d ≡ get_or l i d
  unfolding fill_to
  fill_kept n d l i h = get_or-append l (replicate (n - length l) d) d i h

  pub fill_past : (n : ℕ) (d : A) (l : List A) (i : ℕ) → length l ≤ i → get_or (fill_to n d l) i d ≡ d
  unfolding fill_to
  fill_past n d l i h =
      let z : length l + (i - length l) ≡ i = omega arith in
      ap (λ (k : ℕ). get_or (fill_to n d l) k d) (sym z) ∙ get_or-append-add l (replicate (n - length l) d) (i - length l) d
      ∙ elim (dec_lt (i - length l) (n - length l)) [
        | yes m ↦ get_or-replicate (n - length l) (i - length l) d d m
        | no m ↦ get_or-eq_default (replicate (n - length l) d) d {n = i - length l} (omega (arith, length-replicate (n - length l) d))
      ]

  -- an element is the one of the list, or the filling
  pub fill_at : (n : ℕ) (d : A) (l : List A) (i : ℕ) → get_or (fill_to n d l) i d ≡ get_or l i d
  fill_at n d l i = elim (dec_lt i (length l)) [
    | yes h ↦ fill_kept n d l i h
    | no h ↦ fill_past n d l i (omega arith) ∙ sym (get_or-eq_default l d {n = i} (omega arith))
  ]

  -- a store just after what the list holds
  pub fill_store : (n : ℕ) (d : A) (l : List A) (x : A) → length l < n → set (fill_to n d l) (length l) x ≡ fill_to n d (l ++ (x ∷ []))
  unfolding fill_to
  fill_store n d l x h =
      let z : n - length l ≡ suc (n - (length l + 1)) = omega arith in
      let y : length (l ++ (x ∷ [])) ≡ length l + 1 = length-append l (x ∷ []) in
      rw (z, y, append_assoc) (set-append_seam l d (replicate (n - (length l + 1)) d) x)

  -- ---- the same element so many times

  pub get_or_replicated : (n k : ℕ) (a : A) → get_or (replicate n a) k a ≡ a
  get_or_replicated n k a = ap (λ (l : List A). get_or l k a) (sym (fill_none n a)) ∙ fill_at n a [] k

  pub take_replicate : (k n : ℕ) (a : A) → k ≤ n → take k (replicate n a) ≡ replicate k a
  take_replicate zero n a h = refl
  take_replicate (suc k) zero a h = absurd (omega arith)
  take_replicate (suc k) (suc n) a h = ap (λ (t : List A). a ∷ t) (take_replicate k n a (omega arith))
