-- The loops of `words`: eight numbers are stored one after another.
use Rattle.std.proofs.Common.{◌≡◌, ℕ, ◌+◌, ◌<◌, ◌≤◌, List, [], ◌∷◌, set, refl, ap, ◌∙◌, subst, zero-add, arith}
use lib.Seq.{sets}
use Rattle.network.specs.Lists.{table}
use Rattle.machine.specs.WordLaws.{stored_more}

-- the first k of the numbers that f tells stand from a place on
pub record Put (before : List ℕ) (at : ℕ) (f : ℕ → ℕ) (k : ℕ) (after : List ℕ) : Type 0 where
  pub most : k ≤ 8
  pub stands : after ≡ sets before at (table k f)

module _ {before : List ℕ} {at : ℕ} {f : ℕ → ℕ} where
  pub start : Put before at f 0 before
  unfolding table
  start = record { most = omega arith; stands = refl }

  module _ {k : ℕ} {after : List ℕ} (so_far : Put before at f k after) where
    pub more : k < 8 → Put before at f (k + 1) (set after (at + k) (f k))
    more h = record {
      most = omega arith;
      stands = ap (λ (l : List ℕ). set l (at + k) (f k)) so_far.stands ∙ stored_more before at f k;
    }

    pub all : 8 ≤ k → after ≡ sets before at (table 8 f)
    all h =
        let eight : k ≡ 8 = omega (arith, so_far.most) in
        so_far.stands ∙ ap (λ (n : ℕ). sets before at (table n f)) eight

-- from place 0 on, in eight places
module _ {before : List ℕ} {f : ℕ → ℕ} {k : ℕ} {after : List ℕ} (so_far : Put before 0 f k after) where
  pub more_from_0 : k < 8 → Put before 0 f (k + 1) (set after k (f k))
  more_from_0 h = subst (λ (n : ℕ). Put before 0 f (k + 1) (set after n (f k))) (zero-add k) (more so_far h)

pub whole : {f : ℕ → ℕ} {k : ℕ} {after : List ℕ} → Put (0 ∷ 0 ∷ 0 ∷ 0 ∷ 0 ∷ 0 ∷ 0 ∷ 0 ∷ []) 0 f k after → 8 ≤ k → after ≡ table 8 f
unfolding table
whole so_far h = all so_far h
