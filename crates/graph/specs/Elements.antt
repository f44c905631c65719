-- Elements of lists: what holds of each element, what holds of any two in their order, and how many pass a test.
use Rattle.std.specs.Prelude.{ℕ, zero, suc, ◌+◌, ◌<◌, ◌≡◌, Bool, length, get_or}
use Rattle.std.proofs.Math.Path.{refl, ap}
use Rattle.std.proofs.Common.{◌∙◌}
use Rattle.std.proofs.Math.Bool.{false, cond}
use mathlib.Core.List.{List, [], ◌∷◌, ◌++◌, map}
use native.Mathlib.Omega.{arith}
use Rattle.reply.specs.Tools.{count}

module _ {A : Type 0} where
  -- each element of a list
  pub record Each (Q : A → Type 0) (d : A) (l : List A) : Type 0 where
    pub at : (i : ℕ) → i < length l → Q (get_or l i d)

  -- any two elements of a list, the earlier first
  pub record Two (R : A → A → Type 0) (d : A) (l : List A) : Type 0 where
    pub at : (i k : ℕ) → i < k → k < length l → R (get_or l i d) (get_or l k d)

  pub each_none : (Q : A → Type 0) (d : A) → Each Q d []
  each_none Q d = record { at = λ i h. absurd (omega arith) }

  pub each_cons : (Q : A → Type 0) (d x : A) (l : List A) → Q x → Each Q d l → Each Q d (x ∷ l)
  each_cons Q d x l q e = record { at = go }
    where
      go : (i : ℕ) → i < length (x ∷ l) → Q (get_or (x ∷ l) i d)
      go zero h = q
      go (suc i) h = e.at i (omega arith)

  -- what holds of each element of x ∷ l holds of each of l
  pub each_rest : (Q : A → Type 0) (d x : A) (l : List A) → Each Q d (x ∷ l) → Each Q d l
  each_rest Q d x l e = record { at = λ i h. e.at (suc i) (omega arith) }

  pub each_append : (Q : A → Type 0) (d : A) (a b : List A) → Each Q d a → Each Q d b → Each Q d (a ++ b)
  each_append Q d [] b f g = g
  each_append Q d (x ∷ a) b f g = each_cons Q d x (a ++ b) (f.at 0 (omega arith)) (each_append Q d a b (each_rest Q d x a f) g)

  pub two_none : (R : A → A → Type 0) (d : A) → Two R d []
  two_none R d = record { at = λ i k h l. absurd (omega arith) }

  pub two_cons : (R : A → A → Type 0) (d x : A) (l : List A) → Each (R x) d l → Two R d l → Two R d (x ∷ l)
  two_cons R d x l e t = record { at = go }
    where
      go : (i k : ℕ) → i < k → k < length (x ∷ l) → R (get_or (x ∷ l) i d) (get_or (x ∷ l) k d)
      go i zero h m = absurd (omega arith)
      go zero (suc k) h m = e.at k (omega arith)
      go (suc i) (suc k) h m = t.at i k (omega arith) (omega arith)

  two_first : (R : A → A → Type 0) (d x : A) (l : List A) → Two R d (x ∷ l) → Each (R x) d l
  two_first R d x l t = record { at = λ i h. t.at 0 (suc i) (omega arith) (omega arith) }

  two_rest : (R : A → A → Type 0) (d x : A) (l : List A) → Two R d (x ∷ l) → Two R d l
  two_rest R d x l t = record { at = λ i k h m. t.at (suc i) (suc k) (omega arith) (omega arith) }

  pub two_append : (R : A → A → Type 0) (d : A) (a b : List A) → Two R d a → Two R d b → Each (λ x. Each (R x) d b) d a → Two R d (a ++ b)
  two_append R d [] b s t c = t
  two_append R d (x ∷ a) b s t c =
      two_cons R d x (a ++ b)
      (each_append (R x) d a b (two_first R d x a s) (c.at 0 (omega arith)))
      (two_append R d a b (two_rest R d x a s) t (each_rest (λ x. Each (R x) d b) d x a c))

module _ {A B : Type 0} (f : A → B) where
  pub each_map : (Q : B → Type 0) (d : A) (e : B) (l : List A) → Each (λ x. Q (f x)) d l → Each Q e (map f l)
  each_map Q d e [] g = each_none Q e
  each_map Q d e (x ∷ l) g = each_cons Q e (f x) (map f l) (g.at 0 (omega arith)) (each_map Q d e l (each_rest (λ x. Q (f x)) d x l g))

  pub two_map : (R : B → B → Type 0) (d : A) (e : B) (l : List A) → Two (λ x y. R (f x) (f y)) d l → Two R e (map f l)
  two_map R d e [] t = two_none R e
  two_map R d e (x ∷ l) t =
      two_cons R e (f x) (map f l)
      (each_map (R (f x)) d e l (two_first (λ x y. R (f x) (f y)) d x l t))
      (two_map R d e l (two_rest (λ x y. R (f x) (f y)) d x l t))

-- ---- how many of a list pass

count_front : (n : ℕ) (q : ℕ → Bool) → count (suc n) q ≡ cond (q 0) 1 0 + count n (λ i. q (suc i))
unfolding count
count_front zero q = omega arith
count_front (suc n) q = omega (arith, count_front n q)

unfoldable pub tally : {A : Type 0} → (A → Bool) → List A → ℕ
tally q [] = 0
tally q (x ∷ l) = cond (q x) 1 0 + tally q l

module _ {A : Type 0} where
  pub tally_nil : (q : A → Bool) → tally q [] ≡ 0
  unfolding tally
  tally_nil q = refl

  pub tally_cons : (q : A → Bool) (x : A) (l : List A) → tally q (x ∷ l) ≡ cond (q x) 1 0 + tally q l
  unfolding tally
  tally_cons q x l = refl

  pub tally_append : (q : A → Bool) (a b : List A) → tally q (a ++ b) ≡ tally q a + tally q b
  unfolding tally
  tally_append q [] b = omega arith
  tally_append q (x ∷ a) b = omega (arith, tally_append q a b)

  pub tally_count : (q : A → Bool) (l : List A) (d : A) → count (length l) (λ i. q (get_or l i d)) ≡ tally q l
  unfolding tally count
  tally_count q [] d = refl
  tally_count q (x ∷ l) d = count_front (length l) (λ i. q (get_or (x ∷ l) i d)) ∙ ap (λ (n : ℕ). cond (q x) 1 0 + n) (tally_count q l d)

  pub tally_none : (q : A → Bool) (l : List A) (d : A) → Each (λ x. q x ≡ false) d l → tally q l ≡ 0
  unfolding tally
  tally_none q [] d e = refl
  tally_none q (x ∷ l) d e =
      let t : q x ≡ false = e.at 0 (omega arith) in
      rw t (omega (arith, tally_none q l d (each_rest (λ x. q x ≡ false) d x l e)))

  pub tally_same : (q r : A → Bool) (l : List A) → ((x : A) → q x ≡ r x) → tally q l ≡ tally r l
  unfolding tally
  tally_same q r [] f = refl
  tally_same q r (x ∷ l) f = rw (f x, tally_same q r l f)

pub tally_map : {A B : Type 0} (f : A → B) (q : B → Bool) (l : List A) → tally q (map f l) ≡ tally (λ x. q (f x)) l
unfolding tally
tally_map f q [] = refl
tally_map f q (x ∷ l) = ap (λ (n : ℕ). cond (q (f x)) 1 0 + n) (tally_map f q l)
