-- The code's two words against the marks of the row that an operation gives.
use mathlib.Core.Path.{◌≡◌, refl, sym, ap, ap₂, ◌∙◌}
use mathlib.Core.Logic.{◌≢◌}
use mathlib.Core.Bool.{Bool, true, false, ◌&&◌, ◌||◌}
use Prim.Native.Nat.{ℕ, ◌+◌, ◌-◌, ◌*◌, ◌%◌, ◌^◌, ◌≤◌, ◌<◌}
use native.Mathlib.Nat.{mod-eq_of_lt, one-mul}
use native.Mathlib.Omega.{arith}
use lib.Bits.{bit_and, bit_or, bit_xor, and_lt, or_lt, xor_lt}
use lib.Count.{ones}
use lib.Pow.{pow-lt, shl_exact}
use lib.Dec.{eqb}
use mir.Val.{Fits}
use mir.Syntax.{w64}
use borrow.Author.Tests.{eq-eqb, ne_eqb, eqb-true}
use Rattle.reply.specs.Tests.{clash, both, same_test}
use Rattle.reply.specs.Counts.{count_same, count_add}
use Rattle.marks.specs.Row.{bit, marked, with_of, or_of, without_of, inside_of, count_of}
use Rattle.marks.specs.Words.{bit_or_lem, bit_and_lem, bit_less, bit_power, word_same, word_count}
use Rattle.marks.specs.Laws.{marked_low, marked_high, marked_past, marked_from, by_place, Fit, row_is, with_past, Inside, inside_marks, marks_inside, count_is}
use Rattle.marks.specs.declared.Row.{Row}

-- what the checker knows of a row
pub fit_of : {r : Row} → Fits w64 r.low × (Fits w64 r.high × Unit {0}) → Fit r
fit_of k = record { low_fits = k.0.fits; high_fits = k.1.0.fits }

abbrev row : ℕ → ℕ → Row
row l h = record { low = l; high = h }

-- a row whose words have, digit by digit, what the test says
of_words : (r : Row) (q : ℕ → Bool) → Fit r
    → ((i : ℕ) → i < 64 → bit r.low i ≡ q i) → ((i : ℕ) → i < 64 → bit r.high i ≡ q (i + 64)) → (i : ℕ) → i < 128 → marked r i ≡ q i
of_words r q f low high i h = by_place i
    (λ l. marked_low r i l ∙ low i l)
    (λ l m. marked_high r i l m ∙ high (i - 64) (omega arith) ∙ ap q (omega arith))
    (λ l. absurd (omega arith))

-- ---- one mark more

or_false : (b : Bool) → b ≡ (b || false)
or_false true = refl
or_false false = refl

module _ (r : Row) (f : Fit r) (k : ℕ) where
  one_at : (j : ℕ) → j < 64 → 1 * 2 ^ j % 2 ^ 64 ≡ 2 ^ j
  one_at j h = shl_exact 1 j 64 (omega arith) (omega arith) ∙ one-mul (2 ^ j)

  -- a word that stays, since k is no digit of it
  stays : (w i j : ℕ) → j ≢ k → bit w i ≡ marked r j → bit w i ≡ (marked r j || eqb j k)
  stays w i j d e = e ∙ rw (ne_eqb j k d) (or_false (marked r j))

  pub with_low : k < 64 → row (bit_or r.low (1 * 2 ^ k % 2 ^ 64)) r.high ≡ with_of r k
  unfolding with_of
  with_low h = rw (one_at k h) (row_is (row (bit_or r.low (2 ^ k)) r.high) _ fits (of_words _ _ fits
      (λ i l. bit_or_lem r.low (2 ^ k) i ∙ rw (bit_power k i, marked_low r i l))
      (λ i l. stays r.high i (i + 64) (λ e. omega arith) (sym (marked_from r i l)))))
    where
      fits : Fit (row (bit_or r.low (2 ^ k)) r.high)
      fits = record { low_fits = or_lt 64 _ _ f.low_fits (pow-lt h); high_fits = f.high_fits }

  pub with_high : 64 ≤ k → k < 128 → row r.low (bit_or r.high (1 * 2 ^ (k - 64) % 2 ^ 64)) ≡ with_of r k
  unfolding with_of
  with_high l h = rw (one_at (k - 64) (omega arith)) (row_is (row r.low (bit_or r.high (2 ^ (k - 64)))) _ fits (of_words _ _ fits
      (λ i m. stays r.low i i (λ e. omega arith) (sym (marked_low r i m)))
      (λ i m. bit_or_lem r.high (2 ^ (k - 64)) i ∙ rw (bit_power (k - 64) i, marked_from r i m) (ap (λ b. bit r.high i || b) (place i)))))
    where
      fits : Fit (row r.low (bit_or r.high (2 ^ (k - 64))))
      fits = record { low_fits = f.low_fits; high_fits = or_lt 64 _ _ f.high_fits (pow-lt {i = k - 64} {j = 64} (omega arith)) }

      place : (i : ℕ) → eqb i (k - 64) ≡ eqb (i + 64) k
      place i = same_test _ _ (λ t. eq-eqb (i + 64) k (omega (arith, eqb-true i (k - 64) t))) (λ t. eq-eqb i (k - 64) (omega (arith, eqb-true (i + 64) k t)))

pub with_beyond : (r : Row) (k : ℕ) → Fits w64 r.low → Fits w64 r.high → 128 ≤ k → r ≡ with_of r k
with_beyond r k l h past = sym (with_past r k (record { low_fits = l.fits; high_fits = h.fits }) past)

-- ---- two rows

module _ (a b : Row) (f : Fit a) (g : Fit b) where
  pub or_words : row (bit_or a.low b.low) (bit_or a.high b.high) ≡ or_of a b
  unfolding or_of
  or_words = row_is _ _ fits (of_words _ _ fits
      (λ i h. bit_or_lem a.low b.low i ∙ rw (marked_low a i h, marked_low b i h))
      (λ i h. bit_or_lem a.high b.high i ∙ rw (marked_from a i h, marked_from b i h)))
    where
      fits : Fit (row (bit_or a.low b.low) (bit_or a.high b.high))
      fits = record { low_fits = or_lt 64 _ _ f.low_fits g.low_fits; high_fits = or_lt 64 _ _ f.high_fits g.high_fits }

  pub without_words : row (bit_xor a.low (bit_and a.low b.low)) (bit_xor a.high (bit_and a.high b.high)) ≡ without_of a b
  unfolding without_of
  without_words = row_is _ _ fits (of_words _ _ fits
      (λ i h. bit_less a.low b.low i ∙ rw (marked_low a i h, marked_low b i h))
      (λ i h. bit_less a.high b.high i ∙ rw (marked_from a i h, marked_from b i h)))
    where
      fits : Fit (row (bit_xor a.low (bit_and a.low b.low)) (bit_xor a.high (bit_and a.high b.high)))
      fits = record {
        low_fits = xor_lt 64 _ _ f.low_fits (and_lt 64 _ _ f.low_fits g.low_fits);
        high_fits = xor_lt 64 _ _ f.high_fits (and_lt 64 _ _ f.high_fits g.high_fits);
      }

  -- ---- inside

  -- x has no digit that y lacks
  shared : (x y i : ℕ) → bit_and x y ≡ x → bit x i ≡ true → bit y i ≡ true
  shared x y i e m = (both (bit x i) (bit y i) (sym (bit_and_lem x y i) ∙ ap (λ (w : ℕ). bit w i) e ∙ m)).1

  share : (x y : ℕ) → x < 2 ^ 64 → y < 2 ^ 64 → ((i : ℕ) → i < 64 → bit x i ≡ true → bit y i ≡ true) → bit_and x y ≡ x
  share x y h l e = word_same 64 (bit_and x y) x (and_lt 64 x y h l) h (λ i m. bit_and_lem x y i ∙ all (bit x i) (bit y i) (e i m))
    where
      all : (s t : Bool) → (s ≡ true → t ≡ true) → (s && t) ≡ s
      all true t u = u refl
      all false t u = refl

  inside_low : Inside a b → bit_and a.low b.low ≡ a.low
  inside_low e = share a.low b.low f.low_fits g.low_fits (λ i h m. sym (marked_low b i h) ∙ e i (marked_low a i h ∙ m))

  inside_high : Inside a b → bit_and a.high b.high ≡ a.high
  inside_high e = share a.high b.high f.high_fits g.high_fits (λ i h m. sym (marked_from b i h) ∙ e (i + 64) (marked_from a i h ∙ m))

  words_inside : bit_and a.low b.low ≡ a.low → bit_and a.high b.high ≡ a.high → Inside a b
  words_inside low high i m = by_place i
      (λ h. marked_low b i h ∙ shared a.low b.low i low (sym (marked_low a i h) ∙ m))
      (λ l h. marked_high b i l h ∙ shared a.high b.high (i - 64) high (sym (marked_high a i l h) ∙ m))
      (λ l. clash m (marked_past a i l))

  pub inside_both : bit_and a.low b.low ≡ a.low → eqb (bit_and a.high b.high) a.high ≡ inside_of a b
  inside_both low = same_test _ _
      (λ t. marks_inside a b (words_inside low (eqb-true _ _ t)))
      (λ t. eq-eqb _ _ (inside_high (inside_marks a b t)))

  pub inside_not : bit_and a.low b.low ≢ a.low → false ≡ inside_of a b
  inside_not d = same_test false (inside_of a b) (λ t. clash t refl) (λ t. absurd (d (inside_low (inside_marks a b t))))

-- ---- the count

pub count_words : (r : Row) → Fit r → ones r.low + ones r.high ≡ count_of r
count_words r f =
    ap₂ (λ (x y : ℕ). x + y)
    (ap ones (sym (mod-eq_of_lt f.low_fits)) ∙ word_count 64 r.low ∙ count_same 64 (bit r.low) (marked r) (λ i h. sym (marked_low r i h)))
    (ap ones (sym (mod-eq_of_lt f.high_fits)) ∙ word_count 64 r.high ∙ count_same 64 (bit r.high) (λ i. marked r (i + 64)) (λ i h. sym (marked_from r i h)))
    ∙ sym (count_add 64 64 (marked r)) ∙ sym (count_is r)
