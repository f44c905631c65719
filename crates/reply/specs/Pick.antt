-- `pick` gives the number of least key that passes, and of those that tie the lowest.
use Prim.Native.Nat.{ℕ, zero, suc, ◌≤◌, ◌<◌}
use Rattle.std.specs.Prelude.{◌≡◌, Bool, true, false, ltb}
use Rattle.std.proofs.Math.Path.{refl, ap}
use Rattle.std.proofs.Common.{subst, ◌∙◌, arith, ltb-true, ltb-false}
use Rattle.reply.specs.Tools.{pick, better}
use Rattle.reply.specs.Tests.{split, clash}
use Rattle.reply.specs.AllAny.{below_suc}

-- of the numbers below n that pass, m has the least key, and a lower one has a greater
pub record Lowest (q : ℕ → Bool) (key : ℕ → ℕ) (n m : ℕ) : Type 0 where
  pub below : m < n
  pub passes : q m ≡ true
  pub least : (i : ℕ) → i < n → q i ≡ true → key m ≤ key i
  pub lowest : (i : ℕ) → i < m → q i ≡ true → key m < key i

abbrev pub Picked : (ℕ → Bool) → (ℕ → ℕ) → ℕ → ℕ → Type 0
Picked q key n zero = (i : ℕ) → i < n → q i ≡ false
Picked q key n (suc m) = Lowest q key n m

module _ (q : ℕ → Bool) (key : ℕ → ℕ) where
  better_is : (n r : ℕ) → Picked q key n r → Picked q key (suc n) (better q key n r)
  better_is n zero f = split (q n)
      (λ t. rw t (record {
        below = omega arith;
        passes = t;
        least = below_suc n (λ i. q i ≡ true → key n ≤ key i) (λ u. omega arith) (λ i h u. clash u (f i h));
        lowest = λ i h u. clash u (f i h);
      }))
      (λ t. rw t (below_suc n (λ i. q i ≡ false) t f))
  better_is n (suc m) k = split (q n)
      (λ t. split (ltb (key n) (key m))
      (λ u. rw (t, u) (record {
        below = omega arith;
        passes = t;
        least = below_suc n (λ i. q i ≡ true → key n ≤ key i) (λ v. omega arith) (λ i h v. omega (arith, ltb-true (key n) (key m) u, k.least i h v));
        lowest = λ i h v. omega (arith, ltb-true (key n) (key m) u, k.least i h v);
      }))
      (λ u. rw (t, u) (kept (λ v. ltb-false (key n) (key m) u))))
      (λ t. rw t (kept (λ v. clash v t)))
    where
      kept : (q n ≡ true → key m ≤ key n) → Lowest q key (suc n) m
      kept f = record {
        below = omega (arith, k.below);
        passes = k.passes;
        least = below_suc n (λ i. q i ≡ true → key m ≤ key i) f k.least;
        lowest = k.lowest;
      }

  pub pick_is : (n : ℕ) → Picked q key n (pick q key n)
  unfolding pick
  pick_is zero = λ i h. absurd (omega arith)
  pick_is (suc n) = better_is n (pick q key n) (pick_is n)

  pub pick_most : (n : ℕ) → pick q key n ≤ n
  pick_most n = go (pick q key n) (pick_is n)
    where
      go : (x : ℕ) → Picked q key n x → x ≤ n
      go zero h = omega arith
      go (suc m) h = omega (arith, h.below)

  pub pick_zero : pick q key 0 ≡ 0
  unfolding pick
  pick_zero = refl

  pub pick_suc : (n : ℕ) → pick q key (suc n) ≡ better q key n (pick q key n)
  unfolding pick
  pick_suc n = refl

  pub picked : (n m : ℕ) → pick q key n ≡ suc m → Lowest q key n m
  picked n m e = subst (Picked q key n) e (pick_is n)

  pub none_picked : (n : ℕ) → pick q key n ≡ 0 → (i : ℕ) → i < n → q i ≡ false
  none_picked n e = subst (Picked q key n) e (pick_is n)

  -- if one passes, one is picked
  pub some_picked : (n i : ℕ) → i < n → q i ≡ true → (m : ℕ) × (pick q key n ≡ suc m)
  some_picked n i h t = go (pick q key n) refl
    where
      go : (r : ℕ) → pick q key n ≡ r → (m : ℕ) × (pick q key n ≡ suc m)
      go zero e = clash t (none_picked n e i h)
      go (suc m) e = (m, e)

-- what is picked depends on the test and the keys below n alone
module _ (q r : ℕ → Bool) (key other : ℕ → ℕ) where
  better_same : (n x : ℕ) → Picked q key n x → q n ≡ r n → ((i : ℕ) → i < suc n → key i ≡ other i) → better q key n x ≡ better r other n x
  better_same n zero k e f = rw e refl
  better_same n (suc m) k e f = rw (e, f n (omega arith), f m (omega (arith, k.below))) refl

  pub pick_same : (n : ℕ) → ((i : ℕ) → i < n → q i ≡ r i) → ((i : ℕ) → i < n → key i ≡ other i) → pick q key n ≡ pick r other n
  unfolding pick
  pick_same zero e f = refl
  pick_same (suc n) e f =
      better_same n (pick q key n) (pick_is q key n) (e n (omega arith)) f
      ∙ ap (better r other n) (pick_same n (λ i h. e i (omega arith)) (λ i h. f i (omega arith)))

pub pick_tests : (q r : ℕ → Bool) (key : ℕ → ℕ) (n : ℕ) → ((i : ℕ) → i < n → q i ≡ r i) → pick q key n ≡ pick r key n
pick_tests q r key n e = pick_same q r key key n e (λ i h. refl)
