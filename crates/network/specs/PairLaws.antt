-- Laws of pairs: which processes are apart, and a pair among one pair more.
use Rattle.std.specs.Prelude.{ℕ, suc, ◌≤◌, ◌<◌, ◌≡◌, refl, ◌≢◌, Bool, true, false, not, ◌&&◌, ◌||◌, List, [], ◌∷◌, ◌++◌, length, eqb}
use Rattle.std.proofs.Common.{ap, ap₂, ◌∙◌, arith, length-append}
use Rattle.std.proofs.Math.ListN.{get_or-append}
use Rattle.std.proofs.Math.Seq.{get_or-append_seam}
use Rattle.std.proofs.Math.Dec.{ltb}
use borrow.Author.Tests.{lt-ltb, le-ltb, ltb-true, eqb-false, not-true}
use Rattle.reply.specs.Tests.{both}
use Rattle.reply.specs.AllAny.{any_zero, any_suc, any_same}
use Rattle.network.specs.Pairs.{no_pair, same_pair, is_pair, apart, good_pair}
use Rattle.network.specs.declared.Pair.{Pair}

module _ (n a b : ℕ) where
  pub apart_both : a < n → b < n → apart n a b ≡ not (eqb a b)
  unfolding apart
  apart_both g h = rw (lt-ltb a n g, lt-ltb b n h)

  pub apart_first : n ≤ a → apart n a b ≡ false
  unfolding apart
  apart_first h = rw (le-ltb a n h)

  pub apart_second : a < n → n ≤ b → apart n a b ≡ false
  unfolding apart
  apart_second g h = rw (lt-ltb a n g, le-ltb b n h)

  pub apart_true : apart n a b ≡ true → (a < n) × (b < n) × (a ≢ b)
  unfolding apart
  apart_true e =
      let (t, u) = both (ltb a n && ltb b n) (not (eqb a b)) e in
      let (t₁, t₂) = both (ltb a n) (ltb b n) t in
      (ltb-true a n t₁, ltb-true b n t₂, eqb-false a b (not-true (eqb a b) u))

pub pair_none : (a b : ℕ) → is_pair [] a b ≡ false
unfolding is_pair
pair_none a b = any_zero _

-- one pair more
pub pair_more : (pairs : List Pair) (p : Pair) (a b : ℕ) → is_pair (pairs ++ (p ∷ [])) a b ≡ (is_pair pairs a b || same_pair p a b)
unfolding is_pair
pair_more pairs p a b =
    let size : length (pairs ++ (p ∷ [])) ≡ suc (length pairs) = length-append pairs (p ∷ []) ∙ omega arith in
    rw size (any_suc (length pairs) _ ∙ ap₂ (λ s t. s || t)
    (any_same (length pairs) _ _ (λ i h. ap (λ (q : Pair). same_pair q a b) (get_or-append pairs (p ∷ []) no_pair i h)))
    (ap (λ (q : Pair). same_pair q a b) (get_or-append_seam pairs p [] no_pair)))

-- a first pair is good where its processes are apart; a later one, if it is not repeated
pub good_first : (n a b : ℕ) → good_pair n [] a b ≡ apart n a b
unfolding good_pair
good_first n a b = rw (pair_none a b) (and_true (apart n a b))
  where
    and_true : (t : Bool) → (t && true) ≡ t
    and_true true = refl
    and_true false = refl

pub good_later : (n : ℕ) (before : List Pair) (a b : ℕ) → apart n a b ≡ true → good_pair n before a b ≡ not (is_pair before a b)
unfolding good_pair
good_later n before a b e = rw e
