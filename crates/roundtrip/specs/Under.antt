-- Lists of numbers that are all below a bound; the bytes of numbers of 32 bits are bytes, and they tell the numbers.
use Rattle.std.specs.Prelude.{ℕ, zero, suc, ◌+◌, ◌*◌, ◌/◌, ◌<◌, ◌^◌, ◌≡◌, refl, length, get_or, drop}
use Rattle.std.proofs.Common.{sym, ap, ◌∙◌, arith, length-append}
use mathlib.Core.List.{List, [], ◌∷◌, ◌++◌}
use Rattle.std.proofs.Math.Nat.{pow-succ'}
use Rattle.std.proofs.Math.Decide.{dec_lt}
use Rattle.std.proofs.Math.Seq.{drop-append_seam}
use Rattle.number.specs.Parts.{part}
use Rattle.number.specs.PartLaws.{same_part}
use Rattle.number.specs.Number.{number_from}
use Rattle.number.specs.Encode.{groups, encode}
use Rattle.number.specs.Groups.{groups_last, groups_more, groups_fifth, encode_some}
use Rattle.number.specs.Encoded.{number_back}
use Rattle.number.specs.Stands.{Bytes}
use Rattle.network.specs.Lists.{each_of}
use Rattle.roundtrip.specs.Kinds.{numbers_bytes}

-- ---- all below a bound

pub record Under (q : ℕ) (l : List ℕ) : Type 0 where
  pub at : (i : ℕ) → get_or l i 0 < q

module _ {q : ℕ} (some : 0 < q) where
  pub under_none : Under q []
  under_none = record { at = λ i. some }

  pub under_cons : {x : ℕ} {l : List ℕ} → x < q → Under q l → Under q (x ∷ l)
  under_cons {x} {l} h u = record { at = go }
    where
      go : (i : ℕ) → get_or (x ∷ l) i 0 < q
      go zero = h
      go (suc i) = u.at i

  pub under_append : (a b : List ℕ) → Under q a → Under q b → Under q (a ++ b)
  under_append [] b u w = w
  under_append (x ∷ a) b u w = under_cons (u.at 0) (under_append a b (record { at = λ j. u.at (suc j) }) w)

  pub under_each : {A : Type 0} (d : A) (f : A → List ℕ) (l : List A) → ((k : ℕ) → k < length l → Under q (f (get_or l k d))) → Under q (each_of f l)
  unfolding each_of
  under_each d f [] h = under_none
  under_each d f (x ∷ l) h = under_append (f x) (each_of f l) (h 0 (omega arith)) (under_each d f l (λ k m. h (suc k) (omega arith)))

-- ---- bytes

byte : 0 < 256
byte = omega arith

groups_bytes : (more n : ℕ) → n < 16 * 128 ^ more → Under 256 (groups more n)
groups_bytes zero n h = rw (groups_fifth n) (under_cons byte (omega arith) (under_none byte))
groups_bytes (suc more) n h = elim (dec_lt n 128) [
  | yes l ↦ rw (groups_last (suc more) n l) (under_cons byte (omega arith) (under_none byte))
  | no l ↦
      let small : n / 128 < 16 * 128 ^ more = omega (arith, pow-succ' 128 more) in
      rw (groups_more more n (omega arith)) (under_cons byte (omega arith) (groups_bytes more (n / 128) small))
]

pub numbers_bytes_lem : (l : List ℕ) → Under (2 ^ 32) l → Bytes (numbers_bytes l)
unfolding encode
numbers_bytes_lem l u = (under_each byte 0 encode l (λ k h. groups_bytes 4 (get_or l k 0) (u.at k))).at

-- ---- numbers of 32 bits are told by their bytes

front_same : (x y : ℕ) (a b : List ℕ) → x < 2 ^ 32 → y < 2 ^ 32 → encode x ++ a ≡ encode y ++ b → (x ≡ y) × (a ≡ b)
front_same x y a b hx hy e =
    let t : part x (0 + length (encode x)) ≡ part y (0 + length (encode y)) = sym (number_back x a 0 hx) ∙ ap (λ (l : List ℕ). number_from l 0) e ∙ number_back y b 0 hy in
    let same : x ≡ y = same_part (record { it = x; next = 0 + length (encode x) }) (record { it = y; next = 0 + length (encode y) }) (λ n next. x ≡ n) t refl in
    let f : encode x ++ a ≡ encode x ++ b = e ∙ ap (λ (n : ℕ). encode n ++ b) (sym same) in
    (same, sym (drop-append_seam (encode x) a) ∙ ap (drop (length (encode x))) f ∙ drop-append_seam (encode x) b)

pub numbers_same : (a b : List ℕ) → Under (2 ^ 32) a → Under (2 ^ 32) b → numbers_bytes a ≡ numbers_bytes b → a ≡ b
unfolding each_of
numbers_same [] [] u w e = refl
numbers_same [] (y ∷ b) u w e = absurd (omega (arith, encode_some y, length-append (encode y) (numbers_bytes b), ap length e))
numbers_same (x ∷ a) [] u w e = absurd (omega (arith, encode_some x, length-append (encode x) (numbers_bytes a), ap length e))
numbers_same (x ∷ a) (y ∷ b) u w e =
    let (same, rest) = front_same x y (numbers_bytes a) (numbers_bytes b) (u.at 0) (w.at 0) e in
    rw (same, numbers_same a b (record { at = λ i. u.at (suc i) }) (record { at = λ i. w.at (suc i) }) rest)
