-- The marks of a row one after another: the lowest of a word, a row without one mark, and that it then has fewer.
use Prim.Native.Nat.{ℕ, zero, suc, ◌+◌, ◌-◌, ◌^◌, ◌≤◌, ◌<◌}
use mathlib.Core.Path.{◌≡◌, refl, ap, subst, ◌∙◌}
use mathlib.Core.Bool.{Bool, true, false, cond, not, ◌&&◌}
use native.Mathlib.Decide.{ℕ_discrete}
use native.Mathlib.Omega.{arith}
use Rattle.std.specs.Prelude.{None, Some}
use lib.Count.{count_trailing_zeros}
use lib.Dec.{eqb}
use Rattle.reply.specs.Tools.{count}
use Rattle.reply.specs.Counts.{count_zero, count_suc}
use Rattle.marks.specs.Row.{bit, marked, no_marks, with_of, without_of, count_of}
use Rattle.marks.specs.Words.{bit_none}
use Rattle.marks.specs.Laws.{marked_low, marked_high, marked_past, marked_none, marked_with, marked_without, by_place, count_is}
use Rattle.marks.specs.declared.Row.{Row}
use Rattle.graph.specs.ReductionTold.{FindsMark, except_of}
use Rattle.graph.proofs.Digits.{low_digit}

-- ---- the lowest mark

module _ (row : Row) where
  pub finds_low : 0 < row.low → row.low < 2 ^ 64 → FindsMark row (Some (count_trailing_zeros 64 row.low))
  finds_low some fits = let (few, there) = low_digit row.low some fits in (omega arith, marked_low row (count_trailing_zeros 64 row.low) few ∙ there)

  pub finds_high : 0 < row.high → row.high < 2 ^ 64 → FindsMark row (Some (64 + count_trailing_zeros 64 row.high))
  finds_high some fits = let (few, there) = low_digit row.high some fits in
      (omega arith, marked_high row (64 + count_trailing_zeros 64 row.high) (omega arith) (omega arith) ∙ ap (bit row.high) (omega arith) ∙ there)

  pub finds_none : row.low ≤ 0 → row.high ≤ 0 → FindsMark row None
  finds_none l h =
      let high : row.high ≡ 0 = omega arith in
      let low : row.low ≡ 0 = omega arith in
      λ k. by_place k
      (λ b. marked_low row k b ∙ ap (λ (w : ℕ). bit w k) low ∙ bit_none k)
      (λ b c. marked_high row k b c ∙ ap (λ (w : ℕ). bit w (k - 64)) high ∙ bit_none (k - 64))
      (marked_past row k)

-- ---- without one

pub marked_except : (row : Row) (i : ℕ) → i < 128 → (k : ℕ) → marked (except_of row i) k ≡ (marked row k && not (eqb k i))
unfolding except_of
marked_except row i h k =
    let one : marked (with_of no_marks i) k ≡ eqb k i = marked_with no_marks i h k ∙ rw (marked_none k) in
    marked_without row (with_of no_marks i) k ∙ ap (λ (b : Bool). marked row k && not b) one

pub except_is : (row none one r : Row) (i : ℕ) → none ≡ no_marks → one ≡ with_of none i → r ≡ without_of row one → r ≡ except_of row i
unfolding except_of
except_is row none one r i n o e = e ∙ ap (without_of row) (o ∙ ap (λ (x : Row). with_of x i) n)

-- ---- fewer

cond_le : (a b : Bool) → (a ≡ true → b ≡ true) → cond a 1 0 ≤ cond b 1 0
cond_le true b f = rw (f refl) (omega arith)
cond_le false b f = omega arith

count_le : (n : ℕ) (r q : ℕ → Bool) → ((k : ℕ) → r k ≡ true → q k ≡ true) → count n r ≤ count n q
count_le zero r q f = omega (arith, count_zero r, count_zero q)
count_le (suc n) r q f = omega (arith, count_suc n r, count_suc n q, count_le n r q f, cond_le (r n) (q n) (f n))

pub count_less : (n : ℕ) (r q : ℕ → Bool) (i : ℕ) → i < n → r i ≡ false → q i ≡ true → ((k : ℕ) → r k ≡ true → q k ≡ true) → count n r < count n q
count_less zero r q i h a b f = absurd (omega arith)
count_less (suc n) r q i h a b f = elim (ℕ_discrete i n) [
  | yes e ↦
      let a' : r n ≡ false = subst (λ x. r x ≡ false) e a in
      let b' : q n ≡ true = subst (λ x. q x ≡ true) e b in
      omega (arith, rw a' at (count_suc n r), rw b' at (count_suc n q), count_le n r q f)
  | no d ↦ omega (arith, count_suc n r, count_suc n q, count_less n r q i (omega arith) a b f, cond_le (r n) (q n) (f n))
]

-- a row with no mark that another has not, and without one that it has
pub fewer_marks : (less row : Row) (i : ℕ) → i < 128 → marked less i ≡ false → marked row i ≡ true → ((k : ℕ) → marked less k ≡ true → marked row k ≡ true)
    → count_of less < count_of row
fewer_marks less row i h a b f = omega (arith, count_is less, count_is row, count_less 128 (marked less) (marked row) i h a b f)
