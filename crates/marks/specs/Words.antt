-- Words and their digits.
use Rattle.std.specs.Prelude.{◌≡◌, refl, Bool, false, cond, not, ◌&&◌, ◌||◌, ℕ, zero, suc, ◌+◌, ◌*◌, ◌/◌, ◌%◌, ◌^◌, ◌<◌, eqb}
use Rattle.std.proofs.Common.{sym, ap, ap₂, ◌∙◌, mod-lt, div-one, add_comm, one-add, arith, pow_pos, pow-add, shr-shr, eq-eqb, ne_eqb}
use Rattle.std.proofs.Math.Nat.{zero-div, mod-one}
use Rattle.std.proofs.Math.Decide.{ℕ_discrete}
use Rattle.std.specs.Int.Bits.{bit_and, bit_or, bit_xor}
use Rattle.std.proofs.lemmas.Nat.{and_shr, or_shr, xor_shr, and_mod, or_mod, xor_mod, ones_cat, mod-pow-add}
use Rattle.std.specs.Int.Count.{ones, ones_in}
use Rattle.reply.specs.Tools.{count}
use Rattle.reply.specs.Tests.{split}
use Rattle.reply.specs.Counts.{count_zero, count_suc}
use Rattle.marks.specs.Row.{bit, word_of}

-- ---- operations, digit by digit

-- what holds of 0 and 1 holds of any two digits
two_digits : (P : ℕ → ℕ → Type 0) → P 0 0 → P 0 1 → P 1 0 → P 1 1 → (x y : ℕ) → x < 2 → y < 2 → P x y
two_digits P a b c d zero zero h l = a
two_digits P a b c d zero (suc zero) h l = b
two_digits P a b c d (suc zero) zero h l = c
two_digits P a b c d (suc zero) (suc zero) h l = d
two_digits P a b c d zero (suc (suc y)) h l = absurd (omega arith)
two_digits P a b c d (suc zero) (suc (suc y)) h l = absurd (omega arith)
two_digits P a b c d (suc (suc x)) y h l = absurd (omega arith)

module _ (a b k : ℕ) where
  pub bit_or_lem : bit (bit_or a b) k ≡ (bit a k || bit b k)
  bit_or_lem = rw (or_shr a b k, or_mod (a / 2 ^ k) (b / 2 ^ k) 1)
      (two_digits (λ x y. eqb (bit_or x y) 1 ≡ (eqb x 1 || eqb y 1)) refl refl refl refl (a / 2 ^ k % 2) (b / 2 ^ k % 2) (omega arith) (omega arith))

  pub bit_and_lem : bit (bit_and a b) k ≡ (bit a k && bit b k)
  bit_and_lem = rw (and_shr a b k, and_mod (a / 2 ^ k) (b / 2 ^ k) 1)
      (two_digits (λ x y. eqb (bit_and x y) 1 ≡ (eqb x 1 && eqb y 1)) refl refl refl refl (a / 2 ^ k % 2) (b / 2 ^ k % 2) (omega arith) (omega arith))

  pub bit_less : bit (bit_xor a (bit_and a b)) k ≡ (bit a k && not (bit b k))
  bit_less = rw (xor_shr a (bit_and a b) k, xor_mod (a / 2 ^ k) (bit_and a b / 2 ^ k) 1, and_shr a b k, and_mod (a / 2 ^ k) (b / 2 ^ k) 1)
      (two_digits (λ x y. eqb (bit_xor x (bit_and x y)) 1 ≡ (eqb x 1 && not (eqb y 1))) refl refl refl refl (a / 2 ^ k % 2) (b / 2 ^ k % 2) (omega arith) (omega arith))

-- ---- a word is its digits

pub bit_zero : (w : ℕ) → bit w 0 ≡ eqb (w % 2) 1
bit_zero w = ap (λ (x : ℕ). eqb (x % 2) 1) (div-one w)

pub bit_suc : (w i : ℕ) → bit w (suc i) ≡ bit (w / 2) i
bit_suc w i = sym (rw (shr-shr w 1 i, one-add i))

double : (k : ℕ) → 2 ^ suc k ≡ 2 * 2 ^ k
double k = ap (λ (x : ℕ). 2 ^ x) (sym (one-add k)) ∙ pow-add 2 1 k

pub word_same : (k a b : ℕ) → a < 2 ^ k → b < 2 ^ k → ((i : ℕ) → i < k → bit a i ≡ bit b i) → a ≡ b
word_same zero a b h l e = omega arith
word_same (suc k) a b h l e =
    let halves : a / 2 ≡ b / 2 =
    word_same k (a / 2) (b / 2) (omega (arith, double k)) (omega (arith, double k)) (λ i s. sym (bit_suc a i) ∙ e (suc i) (omega arith) ∙ bit_suc b i) in
    let lowest : a % 2 ≡ b % 2 =
    two_digits (λ x y. eqb x 1 ≡ eqb y 1 → x ≡ y) (λ t. refl) (λ t. let z : ◌≡◌ {A = ℕ} 0 1 = cc in z) (λ t. let z : ◌≡◌ {A = ℕ} 1 0 = cc in z) (λ t. refl)
    (a % 2) (b % 2) (omega arith) (omega arith) (sym (bit_zero a) ∙ e 0 (omega arith) ∙ bit_zero b) in
    omega arith

pub bit_none : (k : ℕ) → bit 0 k ≡ false
bit_none k = rw (zero-div (2 ^ k))

-- 2 ^ k has digit k alone
pub bit_power : (k i : ℕ) → bit (2 ^ k) i ≡ eqb i k
bit_power zero zero = refl
bit_power zero (suc i) = bit_suc 1 i ∙ bit_none i ∙ sym (ne_eqb (suc i) 0 (λ e. omega arith))
bit_power (suc k) zero =
    let even : 2 ^ suc k % 2 ≡ 0 = omega (arith, double k) in
    bit_zero (2 ^ suc k) ∙ ap (λ (x : ℕ). eqb x 1) even ∙ sym (ne_eqb 0 (suc k) (λ e. omega arith))
bit_power (suc k) (suc i) =
    let half : 2 ^ suc k / 2 ≡ 2 ^ k = omega (arith, double k) in
    bit_suc (2 ^ suc k) i ∙ ap (λ (x : ℕ). bit x i) half ∙ bit_power k i ∙ same_eqb i k (suc i) (suc k) (λ e. omega arith) (λ e. omega arith)
  where
    same_eqb : (a b c d : ℕ) → (a ≡ b → c ≡ d) → (c ≡ d → a ≡ b) → eqb a b ≡ eqb c d
    same_eqb a b c d f g = elim (ℕ_discrete a b) [
      | yes e ↦ eq-eqb a b e ∙ sym (eq-eqb c d (f e))
      | no n ↦ ne_eqb a b n ∙ sym (ne_eqb c d (λ e. n (g e)))
    ]

-- ---- the word of a test

pub word_small : (n : ℕ) (q : ℕ → Bool) → word_of n q < 2 ^ n
unfolding word_of
word_small zero q = omega arith
word_small (suc n) q = split (q 0)
    (λ t. rw t (omega (arith, double n, word_small n (λ k. q (suc k)))))
    (λ t. rw t (omega (arith, double n, word_small n (λ k. q (suc k)))))

pub bit_word : (n : ℕ) (q : ℕ → Bool) (i : ℕ) → i < n → bit (word_of n q) i ≡ q i
unfolding word_of
bit_word zero q i h = absurd (omega arith)
bit_word (suc n) q zero h =
    let rest = word_of n (λ k. q (suc k)) in
    bit_zero (word_of (suc n) q)
    ∙ split (q 0)
    (λ t. let odd : (1 + 2 * rest) % 2 ≡ 1 = omega arith in rw (t, odd))
    (λ t. let even : (0 + 2 * rest) % 2 ≡ 0 = omega arith in rw (t, even))
bit_word (suc n) q (suc i) h =
    let rest = word_of n (λ k. q (suc k)) in
    let half : (cond (q 0) 1 0 + 2 * rest) / 2 ≡ rest = split (q 0) (λ t. rw t (omega arith)) (λ t. rw t (omega arith)) in
    bit_suc (word_of (suc n) q) i ∙ ap (λ (x : ℕ). bit x i) half ∙ bit_word n (λ k. q (suc k)) i (omega arith)

-- ---- how many digits are 1

digit_ones : (x : ℕ) → x < 2 → ones x ≡ cond (eqb x 1) 1 0
unfolding ones ones_in
digit_ones zero h = refl
digit_ones (suc zero) h = refl
digit_ones (suc (suc x)) h = absurd (omega arith)

pub word_count : (k w : ℕ) → ones (w % 2 ^ k) ≡ count k (bit w)
unfolding ones ones_in
word_count zero w = ap ones (mod-one w) ∙ sym (count_zero (bit w))
word_count (suc k) w =
    ap (λ (x : ℕ). ones (w % 2 ^ x)) (sym (one-add k)) ∙ ap ones (mod-pow-add w 1 k) ∙ ones_cat k (w / 2 ^ k % 2) (w % 2 ^ k) (mod-lt w (pow_pos k))
    ∙ ap₂ (λ (x y : ℕ). x + y) (digit_ones (w / 2 ^ k % 2) (omega arith)) (word_count k w)
    ∙ add_comm (cond (bit w k) 1 0) (count k (bit w)) ∙ sym (count_suc k (bit w))
