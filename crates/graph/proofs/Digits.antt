-- Words whose digits are processes: one digit more or less, the next one from a place on, and whether two words share one.
use Prim.Native.Nat.{ℕ, zero, suc, ◌+◌, ◌-◌, ◌*◌, ◌/◌, ◌%◌, ◌^◌, ◌≤◌, ◌<◌}
use mathlib.Core.Path.{◌≡◌, refl, sym, ap, ◌∙◌}
use mathlib.Core.Bool.{Bool, true, false, not, ◌&&◌, ◌||◌}
use native.Mathlib.Decide.{dec_lt}
use native.Mathlib.Nat.{one-mul}
use native.Mathlib.Omega.{arith}
use Rattle.std.specs.Prelude.{None, Some}
use lib.Bits.{bit_and, bit_or, bit_xor, and_comm, and_le_l, and_le_r, xor_add_and}
use Rattle.std.proofs.lemmas.Nat.{and-not, pow_below}
use lib.Count.{count_trailing_zeros, under}
use lib.Pow.{shl_exact, shr-shr}
use lib.Dec.{eqb}
use borrow.Author.Tests.{eq-eqb, ne_eqb}
use Rattle.reply.specs.Tools.{any}
use Rattle.reply.specs.Tests.{split, clash, both, both_true}
use Rattle.reply.specs.AllAny.{any_true, any_false}
use Rattle.marks.specs.Row.{bit}
use Rattle.marks.specs.Words.{bit_or_lem, bit_and_lem, bit_less, bit_power, bit_none, bit_zero, bit_suc, word_same}
use Rattle.graph.specs.SequenceTold.{AddsDigit, TakesDigit, NextDigit}

-- ---- one digit

module _ (word q : ℕ) where
  one_at : q < 64 → 1 * 2 ^ q % 2 ^ 64 ≡ 2 ^ q
  one_at h = shl_exact 1 q 64 (omega arith) (omega arith) ∙ one-mul (2 ^ q)

  pub digit_added : (add : Bool) → add ≡ true → q < 64 → AddsDigit word q add (bit_or word (1 * 2 ^ q % 2 ^ 64))
  digit_added add t h = record {
    digits = λ k. rw (one_at h, t) (bit_or_lem word (2 ^ q) k ∙ ap (λ (b : Bool). bit word k || b) (bit_power q k ∙ and_true (eqb k q)));
  }
    where
      and_true : (b : Bool) → b ≡ (b && true)
      and_true true = refl
      and_true false = refl

  -- without a power's digits a word has what it is without those that they share
  less_is : (m : ℕ) → word < 2 ^ 64 → m < 2 ^ 64 → bit_and word (2 ^ 64 - 1 - m) ≡ bit_xor word (bit_and word m)
  less_is m f g =
      let same : bit_and word (bit_and word m) ≡ bit_and word m =
      word_same 64 (bit_and word (bit_and word m)) (bit_and word m) (omega (arith, and_le_l word (bit_and word m))) (omega (arith, and_le_l word m))
      (λ i h. bit_and_lem word (bit_and word m) i ∙ ap (λ (b : Bool). bit word i && b) (bit_and_lem word m i) ∙ twice (bit word i) (bit m i) ∙ sym (bit_and_lem word m i)) in
      omega (arith, same, and-not 64 m word g f, and_comm (2 ^ 64 - 1 - m) word, and_comm m word, xor_add_and word (bit_and word m))
    where
      twice : (x y : Bool) → (x && (x && y)) ≡ (x && y)
      twice true y = refl
      twice false y = refl

  pub digit_taken : q < 64 → word < 2 ^ 64 → TakesDigit word q (bit_and word (2 ^ 64 - 1 - 1 * 2 ^ q % 2 ^ 64))
  digit_taken h f = record {
    digits = λ k. rw (one_at h, less_is (2 ^ q) f (pow_below q 64 h)) (bit_less word (2 ^ q) k ∙ ap (λ (b : Bool). bit word k && not b) (bit_power q k));
  }

-- ---- the next

pub zeros_below : (k n i : ℕ) → i < count_trailing_zeros k n → bit n i ≡ false
unfolding count_trailing_zeros
zeros_below zero n i h = absurd (omega arith)
zeros_below (suc k) n i h = go (zeros_below k (n / 2)) (n % 2) refl i h
  where
    go : ((i : ℕ) → i < count_trailing_zeros k (n / 2) → bit (n / 2) i ≡ false) → (r : ℕ) → n % 2 ≡ r
        → (i : ℕ) → i < under r (count_trailing_zeros k (n / 2)) → bit n i ≡ false
    go half zero e zero h = bit_zero n ∙ rw e
    go half zero e (suc i) h = bit_suc n i ∙ half i (omega arith)
    go half (suc r) e i h = absurd (omega arith)

pub digit_there : (k n : ℕ) → count_trailing_zeros k n < k → bit n (count_trailing_zeros k n) ≡ true
unfolding count_trailing_zeros
digit_there zero n h = absurd (omega arith)
digit_there (suc k) n h = go (digit_there k (n / 2)) (n % 2) refl h
  where
    go : (count_trailing_zeros k (n / 2) < k → bit (n / 2) (count_trailing_zeros k (n / 2)) ≡ true) → (r : ℕ) → n % 2 ≡ r
        → under r (count_trailing_zeros k (n / 2)) < suc k → bit n (under r (count_trailing_zeros k (n / 2))) ≡ true
    go half zero e h = bit_suc n (count_trailing_zeros k (n / 2)) ∙ half (omega arith)
    go half (suc zero) e h = bit_zero n ∙ rw e
    go half (suc (suc r)) e h = absurd (omega arith)

-- the digit that a count of zeros ends at
pub low_digit : (a : ℕ) → 0 < a → a < 2 ^ 64 → (count_trailing_zeros 64 a < 64) × (bit a (count_trailing_zeros 64 a) ≡ true)
low_digit a some fits = elim (dec_lt (count_trailing_zeros 64 a) 64) [
  | yes h ↦ (h, digit_there 64 a h)
  | no h ↦ let none : a ≡ 0 = word_same 64 a 0 fits (omega arith) (λ i l. zeros_below 64 a i (omega arith) ∙ sym (bit_none i)) in absurd (omega arith)
]

module _ (word at : ℕ) where
  moved : (i : ℕ) → bit word (at + i) ≡ bit (word / 2 ^ at) i
  moved i = sym (ap (λ (x : ℕ). eqb (x % 2) 1) (shr-shr word at i))

  pub next_none : word / 2 ^ at ≡ 0 → NextDigit word at None
  next_none z = λ k h. ap (bit word) (omega arith) ∙ moved (k - at) ∙ ap (λ (w : ℕ). bit w (k - at)) z ∙ bit_none (k - at)

  pub next_found : (word / 2 ^ at ≡ 0 → ⊥) → word / 2 ^ at < 2 ^ 64 → NextDigit word at (Some (at + count_trailing_zeros 64 (word / 2 ^ at)))
  next_found some fits = record {
    from = omega arith;
    none = λ k h l. ap (bit word) (omega arith) ∙ moved (k - at) ∙ zeros_below 64 (word / 2 ^ at) (k - at) (omega arith);
    has = moved (count_trailing_zeros 64 (word / 2 ^ at)) ∙ (low_digit (word / 2 ^ at) (omega arith) fits).1;
  }

-- ---- two words

-- of the digits of b, which stand below n, a has none
pub shares_none : (n a b : ℕ) → b < 2 ^ 64 → ((q : ℕ) → n ≤ q → bit b q ≡ false) → eqb (bit_and a b) 0 ≡ not (any n (λ q. bit b q && bit a q))
shares_none n a b fits past = split (any n (λ q. bit b q && bit a q))
    (λ t.
    let (q, h, u) = any_true n (λ q. bit b q && bit a q) t in
    let (u₁, u₂) = both (bit b q) (bit a q) u in
    rw t (ne_eqb (bit_and a b) 0 (λ z. clash (bit_and_lem a b q ∙ both_true (bit a q) (bit b q) u₂ u₁) (ap (λ (w : ℕ). bit w q) z ∙ bit_none q))))
    (λ t. rw t (eq-eqb (bit_and a b) 0 (word_same 64 (bit_and a b) 0 (omega (arith, and_le_r a b)) (omega arith)
    (λ i h. bit_and_lem a b i ∙ elim (dec_lt i n) [
      | yes l ↦ turned (bit a i) (bit b i) (any_false n (λ q. bit b q && bit a q) t i l)
      | no l ↦ turned (bit a i) (bit b i) (rw (past i (omega arith)))
    ] ∙ sym (bit_none i)))))
  where
    turned : (x y : Bool) → (y && x) ≡ false → (x && y) ≡ false
    turned true y e = sym (swap y) ∙ e
      where
        swap : (y : Bool) → (y && true) ≡ y
        swap true = refl
        swap false = refl
    turned false y e = refl
