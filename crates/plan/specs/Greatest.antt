-- The greatest of what stands at the numbers below n, 0 where nothing does; and that it is.
use Rattle.std.specs.Prelude.{ℕ, zero, suc, max, ◌≤◌, ◌<◌, ◌≡◌, refl}
use Rattle.std.proofs.Common.{arith}
use Rattle.reply.specs.AllAny.{below_suc}

unfoldable pub greatest : ℕ → (ℕ → ℕ) → ℕ
greatest zero f = 0
greatest (suc n) f = max (greatest n f) (f n)

pub greatest_zero : (f : ℕ → ℕ) → greatest 0 f ≡ 0
unfolding greatest
greatest_zero f = refl

pub greatest_suc : (n : ℕ) (f : ℕ → ℕ) → greatest (suc n) f ≡ max (greatest n f) (f n)
unfolding greatest
greatest_suc n f = refl

-- none is above it
pub greatest_each : (n : ℕ) (f : ℕ → ℕ) (i : ℕ) → i < n → f i ≤ greatest n f
unfolding greatest
greatest_each zero f i h = absurd (omega arith)
greatest_each (suc n) f i h = below_suc n (λ k. f k ≤ max (greatest n f) (f n)) (omega arith) (λ k l. omega (arith, greatest_each n f k l)) i h

-- and it is not above what none is above
pub greatest_least : (n : ℕ) (f : ℕ → ℕ) (top : ℕ) → ((i : ℕ) → i < n → f i ≤ top) → greatest n f ≤ top
unfolding greatest
greatest_least zero f top h = omega arith
greatest_least (suc n) f top h = omega (arith, greatest_least n f top (λ i l. h i (omega arith)), h n (omega arith))

-- it depends on what stands there alone
pub greatest_same : (n : ℕ) (f g : ℕ → ℕ) → ((i : ℕ) → i < n → f i ≡ g i) → greatest n f ≡ greatest n g
unfolding greatest
greatest_same zero f g e = refl
greatest_same (suc n) f g e = rw (greatest_same n f g (λ i h. e i (omega arith)), e n (omega arith))
