-- A row of 128 marks in two words; and each operation by the marks of the row that it gives.
use Rattle.std.specs.Prelude.{ℕ, zero, suc, ◌+◌, ◌-◌, ◌*◌, ◌/◌, ◌%◌, ◌^◌, Bool, false, cond, not, ◌&&◌, ◌||◌, ltb, eqb}
use Rattle.reply.specs.Tools.{all, count}
use Rattle.marks.specs.declared.Row.{Row}

-- digit k of a word
abbrev pub bit : ℕ → ℕ → Bool
bit w k = eqb (w / 2 ^ k % 2) 1

-- what a row means: mark k is digit k of the low word, and from 64 on digit k - 64 of the high word
unfoldable pub marked : Row → ℕ → Bool
marked r k = cond (ltb k 64) (bit r.low k) (cond (ltb k 128) (bit r.high (k - 64)) false)

-- the word of n digits, digit k being 1 where k passes
unfoldable pub word_of : ℕ → (ℕ → Bool) → ℕ
word_of zero q = 0
word_of (suc n) q = cond (q 0) 1 0 + 2 * word_of n (λ k. q (suc k))

-- the row whose marks are the numbers below 128 that pass
unfoldable pub row_of : (ℕ → Bool) → Row
row_of q = record { low = word_of 64 q; high = word_of 64 (λ k. q (k + 64)) }

abbrev pub no_marks : Row
no_marks = record { low = 0; high = 0 }

unfoldable pub with_of : Row → ℕ → Row
with_of r k = row_of (λ i. marked r i || eqb i k)

unfoldable pub or_of : Row → Row → Row
or_of a b = row_of (λ i. marked a i || marked b i)

unfoldable pub without_of : Row → Row → Row
without_of a b = row_of (λ i. marked a i && not (marked b i))

unfoldable pub inside_of : Row → Row → Bool
inside_of a b = all 128 (λ i. not (marked a i) || marked b i)

unfoldable pub count_of : Row → ℕ
count_of r = count 128 (marked r)
