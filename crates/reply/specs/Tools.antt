-- Small words that the definitions are written in. Each speaks of what stands at the numbers below n: whether all pass a test, or any; how many;
-- the sum; the first that passes; the one of least key that passes.
use Rattle.std.specs.Prelude.{ℕ, zero, suc, ◌+◌, Bool, true, false, cond, ◌&&◌, ◌||◌, ltb}

unfoldable pub all : ℕ → (ℕ → Bool) → Bool
all zero q = true
all (suc n) q = all n q && q n

unfoldable pub any : ℕ → (ℕ → Bool) → Bool
any zero q = false
any (suc n) q = any n q || q n

unfoldable pub count : ℕ → (ℕ → Bool) → ℕ
count zero q = 0
count (suc n) q = count n q + cond (q n) 1 0

unfoldable pub sum : ℕ → (ℕ → ℕ) → ℕ
sum zero f = 0
sum (suc n) f = sum n f + f n

-- of the `tries` numbers from `at` on, the first that passes; at + tries if none does
unfoldable pub first_from : ℕ → ℕ → (ℕ → Bool) → ℕ
first_from zero at q = at
first_from (suc tries) at q = let later = first_from tries (suc at) q in cond (q at) at later

-- n if none passes
abbrev pub first : ℕ → (ℕ → Bool) → ℕ
first n q = first_from n 0 q

-- 0 if none passes, and else one more than the number of least key that does, the lowest of those that tie
abbrev pub better : (ℕ → Bool) → (ℕ → ℕ) → ℕ → ℕ → ℕ
better q key k zero = cond (q k) (suc k) zero
better q key k (suc m) = cond (q k && ltb (key k) (key m)) (suc k) (suc m)

unfoldable pub pick : (ℕ → Bool) → (ℕ → ℕ) → ℕ → ℕ
pick q key zero = zero
pick q key (suc n) = better q key n (pick q key n)
