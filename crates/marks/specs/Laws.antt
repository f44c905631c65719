-- What each operation does to the marks; rows with the same marks are equal.
use Rattle.std.specs.Prelude.{◌≡◌, ◌≢◌, Bool, not, ◌&&◌, ◌||◌, ℕ, ◌+◌, ◌-◌, ◌^◌, ◌≤◌, ◌<◌, eqb}
use Rattle.std.proofs.Math.Path.{refl, sym}
use Rattle.std.proofs.Common.{ap, ap₂, ◌∙◌, arith}
use Rattle.std.proofs.Math.Bool.{true, false}
use Rattle.std.proofs.Math.Decide.{dec_lt}
use borrow.Author.Tests.{lt-ltb, le-ltb, eq-eqb, ne_eqb}
use Rattle.reply.specs.Tools.{count}
use Rattle.reply.specs.Tests.{clash, implies, implies_true}
use Rattle.reply.specs.AllAny.{all_true, all_make}
use Rattle.reply.specs.Counts.{count_most}
use Rattle.marks.specs.Row.{bit, marked, row_of, no_marks, with_of, or_of, without_of, inside_of, count_of}
use Rattle.marks.specs.Words.{word_same, word_small, bit_word, bit_none}
use Rattle.marks.specs.declared.Row.{Row}

-- ---- where a mark stands

module _ (r : Row) where
  pub marked_low : (k : ℕ) → k < 64 → marked r k ≡ bit r.low k
  unfolding marked
  marked_low k h = rw (lt-ltb k 64 h)

  pub marked_high : (k : ℕ) → 64 ≤ k → k < 128 → marked r k ≡ bit r.high (k - 64)
  unfolding marked
  marked_high k l h = rw (le-ltb k 64 l, lt-ltb k 128 h)

  pub marked_past : (k : ℕ) → 128 ≤ k → marked r k ≡ false
  unfolding marked
  marked_past k l = rw (le-ltb k 64 (omega arith), le-ltb k 128 l)

  -- digit i of the high word
  pub marked_from : (i : ℕ) → i < 64 → marked r (i + 64) ≡ bit r.high i
  marked_from i h = marked_high (i + 64) (omega arith) (omega arith) ∙ ap (bit r.high) (omega arith)

-- a number is below 64, from there below 128, or beyond
pub by_place : {P : Type 0} (k : ℕ) → (k < 64 → P) → (64 ≤ k → k < 128 → P) → (128 ≤ k → P) → P
by_place k low high past = elim (dec_lt k 64) [
  | yes h ↦ low h
  | no h ↦ elim (dec_lt k 128) [ yes l ↦ high (omega arith) l | no l ↦ past (omega arith) ]
]

pub marked_none : (i : ℕ) → marked no_marks i ≡ false
marked_none i = by_place i (λ h. marked_low no_marks i h ∙ bit_none i) (λ l h. marked_high no_marks i l h ∙ bit_none (i - 64)) (marked_past no_marks i)

-- ---- rows with the same marks

-- a row of the code: its words have 64 digits
pub record Fit (r : Row) : Type 0 where
  pub low_fits : r.low < 2 ^ 64
  pub high_fits : r.high < 2 ^ 64

pub fit_none : Fit no_marks
fit_none = record { low_fits = omega arith; high_fits = omega arith }

pub row_same : (a b : Row) → Fit a → Fit b → ((i : ℕ) → i < 128 → marked a i ≡ marked b i) → a ≡ b
row_same a b f g e =
    let low : a.low ≡ b.low = word_same 64 a.low b.low f.low_fits g.low_fits
    (λ i h. sym (marked_low a i h) ∙ e i (omega arith) ∙ marked_low b i h) in
    let high : a.high ≡ b.high = word_same 64 a.high b.high f.high_fits g.high_fits
    (λ i h. sym (marked_from a i h) ∙ e (i + 64) (omega arith) ∙ marked_from b i h) in
    ap₂ (λ (l h : ℕ). record { low = l; high = h }) low high

-- ---- the row of a test

pub fit_row : (q : ℕ → Bool) → Fit (row_of q)
unfolding row_of
fit_row q = record { low_fits = word_small 64 q; high_fits = word_small 64 (λ k. q (k + 64)) }

pub marked_row : (q : ℕ → Bool) (i : ℕ) → i < 128 → marked (row_of q) i ≡ q i
unfolding row_of
marked_row q i h = by_place i
    (λ l. marked_low (row_of q) i l ∙ bit_word 64 q i l)
    (λ l m. marked_high (row_of q) i l m ∙ bit_word 64 (λ k. q (k + 64)) (i - 64) (omega arith) ∙ ap q (omega arith))
    (λ l. absurd (omega arith))

-- a row whose marks are the numbers that pass is the row of that test
pub row_is : (r : Row) (q : ℕ → Bool) → Fit r → ((i : ℕ) → i < 128 → marked r i ≡ q i) → r ≡ row_of q
row_is r q f e = row_same r (row_of q) f (fit_row q) (λ i h. e i h ∙ sym (marked_row q i h))

pub rows_same : (q r : ℕ → Bool) → ((i : ℕ) → i < 128 → q i ≡ r i) → row_of q ≡ row_of r
rows_same q r e = row_is (row_of q) r (fit_row q) (λ i h. marked_row q i h ∙ e i h)

-- a test that fails from 128 on
row_marks : (q : ℕ → Bool) → ((i : ℕ) → 128 ≤ i → q i ≡ false) → (i : ℕ) → marked (row_of q) i ≡ q i
row_marks q past i = elim (dec_lt i 128) [
  | yes h ↦ marked_row q i h
  | no h ↦ marked_past (row_of q) i (omega arith) ∙ sym (past i (omega arith))
]

-- ---- one mark more

module _ (r : Row) (k : ℕ) where
  pub fit_with : Fit (with_of r k)
  unfolding with_of
  fit_with = fit_row _

  pub marked_with : k < 128 → (i : ℕ) → marked (with_of r k) i ≡ (marked r i || eqb i k)
  unfolding with_of
  marked_with h = row_marks _ (λ i l. rw (marked_past r i l, ne_eqb i k (λ e. omega arith)))

  pub with_same : k < 128 → marked (with_of r k) k ≡ true
  with_same h = marked_with h k ∙ rw (eq-eqb k k refl) (or_true (marked r k))
    where
      or_true : (b : Bool) → (b || true) ≡ true
      or_true true = refl
      or_true false = refl

  pub with_other : (i : ℕ) → i ≢ k → marked (with_of r k) i ≡ marked r i
  unfolding with_of
  with_other i d = elim (dec_lt i 128) [
    | yes h ↦ marked_row _ i h ∙ rw (ne_eqb i k d) (or_false (marked r i))
    | no h ↦ marked_past (with_of r k) i (omega arith) ∙ sym (marked_past r i (omega arith))
  ]
    where
      or_false : (b : Bool) → (b || false) ≡ b
      or_false true = refl
      or_false false = refl

  -- 128 and beyond
  pub with_past : Fit r → 128 ≤ k → with_of r k ≡ r
  with_past f h = row_same (with_of r k) r fit_with f (λ i l. with_other i (λ e. omega arith))

-- ---- two rows

module _ (a b : Row) where
  pub fit_or : Fit (or_of a b)
  unfolding or_of
  fit_or = fit_row _

  pub marked_or : (i : ℕ) → marked (or_of a b) i ≡ (marked a i || marked b i)
  unfolding or_of
  marked_or = row_marks _ (λ i l. rw (marked_past a i l, marked_past b i l))

  pub fit_without : Fit (without_of a b)
  unfolding without_of
  fit_without = fit_row _

  pub marked_without : (i : ℕ) → marked (without_of a b) i ≡ (marked a i && not (marked b i))
  unfolding without_of
  marked_without = row_marks _ (λ i l. rw (marked_past a i l))

  -- every mark of a is one of b
  abbrev pub Inside : Type 0
  Inside = (i : ℕ) → marked a i ≡ true → marked b i ≡ true

  pub inside_marks : inside_of a b ≡ true → Inside
  unfolding inside_of
  inside_marks e i m = elim (dec_lt i 128) [
    | yes h ↦ implies (marked a i) (marked b i) (all_true 128 _ e i h) m
    | no h ↦ clash m (marked_past a i (omega arith))
  ]

  pub marks_inside : Inside → inside_of a b ≡ true
  unfolding inside_of
  marks_inside f = all_make 128 _ (λ i h. implies_true (marked a i) (marked b i) (f i))

-- ---- the count

pub count_is : (r : Row) → count_of r ≡ count 128 (marked r)
unfolding count_of
count_is r = refl

pub counted_most : (r : Row) → count_of r ≤ 128
counted_most r = rw (count_is r) (count_most 128 (marked r))
