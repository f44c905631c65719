-- A number in plain decimal: digit by digit, how many digits there are, that they give the number back, and that none of them leads it as a zero.
use Rattle.std.specs.Prelude.{ℕ, zero, suc, ◌+◌, ◌-◌, ◌*◌, ◌/◌, ◌%◌, ◌^◌, ◌≤◌, ◌<◌, ◌≡◌, refl, cond, List, [], ◌∷◌, ◌++◌, length, get_or, ltb}
use Rattle.std.proofs.Common.{sym, ap, ◌∙◌, mod-eq_of_lt, arith, length-append, lt-ltb, le-ltb}
use Rattle.std.proofs.Math.Decide.{dec_lt}
use Rattle.std.proofs.Math.Nat.{pow-succ'}
use Rattle.std.proofs.Math.ListN.{get_or-append}
use Rattle.listing.specs.Listing.{digit, digits, decimal}

-- ---- digit by digit

digits_last : (more n : ℕ) → n < 10 → digits more n ≡ digit n ∷ []
unfolding digits
digits_last zero n h = rw (mod-eq_of_lt h)
digits_last (suc more) n h = rw (lt-ltb n 10 h, mod-eq_of_lt h)

digits_more : (more n : ℕ) → 10 ≤ n → digits (suc more) n ≡ digits more (n / 10) ++ (digit (n % 10) ∷ [])
unfolding digits
digits_more more n h = rw (le-ltb n 10 h)

tenth : (k n : ℕ) → n < 10 ^ suc k → n / 10 < 10 ^ k
tenth k n h = let g : n < 10 * 10 ^ k = rw (pow-succ' 10 k) at h in omega arith

-- places that are not needed change nothing
digits_enough : (a b n : ℕ) → n < 10 ^ suc a → n < 10 ^ suc b → digits a n ≡ digits b n
digits_enough zero b n h l = digits_last 0 n (omega arith) ∙ sym (digits_last b n (omega arith))
digits_enough (suc a) zero n h l = digits_last (suc a) n (omega arith) ∙ sym (digits_last 0 n (omega arith))
digits_enough (suc a) (suc b) n h l =
    let same = digits_enough a b (n / 10) (tenth (suc a) n h) (tenth (suc b) n l) in
    elim (dec_lt n 10) [
      | yes small ↦ digits_last (suc a) n small ∙ sym (digits_last (suc b) n small)
      | no large ↦ digits_more a n (omega arith) ∙ ap (λ (high : List ℕ). high ++ (digit (n % 10) ∷ [])) same ∙ sym (digits_more b n (omega arith))
    ]

pub decimal_last : (n : ℕ) → n < 10 → decimal n ≡ digit n ∷ []
unfolding decimal
decimal_last n h = digits_last 19 n h

pub decimal_more : (n : ℕ) → 10 ≤ n → n < 10 ^ 20 → decimal n ≡ decimal (n / 10) ++ (digit (n % 10) ∷ [])
unfolding decimal
decimal_more n h fits =
    digits_more 18 n h
    ∙ ap (λ (high : List ℕ). high ++ (digit (n % 10) ∷ [])) (digits_enough 18 19 (n / 10) (tenth 19 n fits) (omega (arith, tenth 19 n fits)))

-- ---- how many

digits_some : (more n : ℕ) → 1 ≤ length (digits more n)
unfolding digits
digits_some zero n = omega arith
digits_some (suc more) n = rw (length-append (cond (ltb n 10) [] (digits more (n / 10))) (digit (n % 10) ∷ [])) (omega arith)

-- a number below a power of ten has no more digits than that
digits_most : (more k n : ℕ) → n < 10 ^ suc k → length (digits more n) ≤ suc k
unfolding digits
digits_most more zero n h = rw (digits_last more n (omega arith)) (omega arith)
digits_most zero (suc k) n h = omega arith
digits_most (suc more) (suc k) n h =
    let high = digits_most more k (n / 10) (tenth (suc k) n h) in
    elim (dec_lt n 10) [
      | yes small ↦ rw (digits_last (suc more) n small) (omega arith)
      | no large ↦ rw (digits_more more n (omega arith), length-append (digits more (n / 10)) (digit (n % 10) ∷ [])) (omega arith)
    ]

digits_longest : (more n : ℕ) → length (digits more n) ≤ suc more
unfolding digits
digits_longest zero n = omega arith
digits_longest (suc more) n = elim (dec_lt n 10) [
  | yes small ↦ rw (digits_last (suc more) n small) (omega arith)
  | no large ↦ rw (digits_more more n (omega arith), length-append (digits more (n / 10)) (digit (n % 10) ∷ [])) (omega (arith, digits_longest more (n / 10)))
]

pub decimal_some : (n : ℕ) → 1 ≤ length (decimal n)
unfolding decimal
decimal_some n = digits_some 19 n

pub decimal_most : (k n : ℕ) → n < 10 ^ suc k → length (decimal n) ≤ suc k
unfolding decimal
decimal_most k n h = digits_most 19 k n h

pub decimal_longest : (n : ℕ) → length (decimal n) ≤ 20
unfolding decimal
decimal_longest n = digits_longest 19 n

-- ---- they give the number back

-- the number that a text of digits says, after digits that say `high`
unfoldable pub value_from : ℕ → List ℕ → ℕ
value_from high [] = high
value_from high (d ∷ ds) = value_from (10 * high + (d - 48)) ds

value_append : (high : ℕ) (xs ys : List ℕ) → value_from high (xs ++ ys) ≡ value_from (value_from high xs) ys
unfolding value_from
value_append high [] ys = refl
value_append high (x ∷ xs) ys = value_append (10 * high + (x - 48)) xs ys

value_digit : (high n : ℕ) → value_from high (digit n ∷ []) ≡ 10 * high + n
unfolding value_from
value_digit high n = omega arith

digits_value : (more n : ℕ) → n < 10 ^ suc more → value_from 0 (digits more n) ≡ n
digits_value zero n h = rw (digits_last 0 n (omega arith), value_digit 0 n) (omega arith)
digits_value (suc more) n h =
    let high = digits_value more (n / 10) (tenth (suc more) n h) in
    elim (dec_lt n 10) [
      | yes small ↦ rw (digits_last (suc more) n small, value_digit 0 n) (omega arith)
      | no large ↦ rw (digits_more more n (omega arith), value_append 0 (digits more (n / 10)) (digit (n % 10) ∷ []), high, value_digit (n / 10) (n % 10)) (omega arith)
    ]

pub decimal_value : (n : ℕ) → n < 10 ^ 20 → value_from 0 (decimal n) ≡ n
unfolding decimal
decimal_value n h = digits_value 19 n h

-- so two numbers have two texts
pub decimal_same : (m n : ℕ) → m < 10 ^ 20 → n < 10 ^ 20 → decimal m ≡ decimal n → m ≡ n
decimal_same m n h l e = sym (decimal_value m h) ∙ ap (value_from 0) e ∙ decimal_value n l

-- ---- and are plain

digits_first : (more n : ℕ) → 1 ≤ n → n < 10 ^ suc more → digit 1 ≤ get_or (digits more n) 0 0
digits_first zero n some h = rw (digits_last 0 n (omega arith)) (omega arith)
digits_first (suc more) n some h = elim (dec_lt n 10) [
  | yes small ↦ rw (digits_last (suc more) n small) (omega arith)
  | no large ↦ rw (digits_more more n (omega arith), get_or-append (digits more (n / 10)) (digit (n % 10) ∷ []) 0 0 (digits_some more (n / 10)))
      (digits_first more (n / 10) (omega arith) (tenth (suc more) n h))
]

-- only 0 itself begins with a zero
pub decimal_plain : (n : ℕ) → 1 ≤ n → n < 10 ^ 20 → digit 1 ≤ get_or (decimal n) 0 0
unfolding decimal
decimal_plain n some h = digits_first 19 n some h
