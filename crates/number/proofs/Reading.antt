-- Reading a number group by group: what the byte at a position says, and what the loop knows after some groups.
use mathlib.Core.Path.{◌≡◌, refl, ◌∙◌}
use mathlib.Core.Bool.{Bool, true, false}
use mathlib.Core.List.{List}
use Prim.Native.Nat.{ℕ, zero, suc, ◌+◌, ◌-◌, ◌*◌, ◌^◌, ◌%◌, ◌≤◌, ◌<◌}
use native.Mathlib.Decide.{dec_lt}
use native.Mathlib.Nat.{mul-le-mul_left, one-le-pow, pow-succ'}
use native.Mathlib.Numerals.{add-one}
use native.Mathlib.Omega.{arith}
use lib.ListN.{length, get_or, drop, drop_of_length-le}
use lib.Seq.{drop-cons}
use borrow.Author.Tests.{lt-ltb, le-ltb}
use Rattle.std.specs.Prelude.{Ok, Err, cond, eqb, ltb}
use Rattle.reply.specs.Result.{Result, done, refused}
use Rattle.reply.specs.ResultLaws.{refused_not}
use Rattle.reply.specs.Tests.{split}
use Rattle.reply.specs.declared.Reply.{Reply}
use Rattle.reply.specs.declared.Reply.TheVariants.{FileEnds, MalformedNumber}
use Rattle.reply.specs.declared.Refusal.{Refusal}
use Rattle.number.specs.Parts.{Part, part, reading}
use Rattle.number.specs.PartLaws.{same_part}
use Rattle.number.specs.Number.{plus, group, fifth, rest_from, number_from, number_at}
use Rattle.number.specs.Told.{further_at, part_told, part_ok, part_err}

-- ---- the first group

pub number_first : (s : List ℕ) (at : ℕ)
    → number_at s at ≡ cond (ltb at (length s)) (group (get_or s at 0) at (rest_from at 3 (drop (at + 1) s) (at + 1))) (refused FileEnds at)
unfolding number_at number_from
number_first s at = elim (dec_lt at (length s)) [
  | yes h ↦ rw (lt-ltb at (length s) h, drop-cons s at 0 h, add-one at)
  | no n ↦ let h : length s ≤ at = omega arith in rw (le-ltb at (length s) h, drop_of_length-le s h)
]

-- ---- a group after the first

unless : {A : Type 0} (t : Bool) (b next : ℕ) (reply : Reply) (place : ℕ) (k : ℕ → ℕ → Result A)
    → cond t (refused reply place) (k b next) ≡ reading (cond t (refused reply place) (part b next)) k
unless true b next reply place k = refl
unless false b next reply place k = refl

module _ (start : ℕ) (s : List ℕ) (at : ℕ) where
  pub rest_group : (more : ℕ) → rest_from start (suc more) (drop at s) at ≡ reading (further_at s start at) λ b next. group b at (rest_from start more (drop next s) next)
  unfolding rest_from
  rest_group more = elim (dec_lt at (length s)) [
    | yes h ↦ rw (drop-cons s at 0 h, lt-ltb at (length s) h, add-one at) (unless (eqb (get_or s at 0) 0) (get_or s at 0) (suc at) MalformedNumber start _)
    | no n ↦ let h : length s ≤ at = omega arith in rw (drop_of_length-le s h, le-ltb at (length s) h)
  ]

  pub rest_fifth : rest_from start 0 (drop at s) at ≡ reading (further_at s start at) λ b next. fifth start b at
  unfolding rest_from
  rest_fifth = elim (dec_lt at (length s)) [
    | yes h ↦ rw (drop-cons s at 0 h, lt-ltb at (length s) h, add-one at) (unless (eqb (get_or s at 0) 0) (get_or s at 0) (suc at) MalformedNumber start _)
    | no n ↦ let h : length s ≤ at = omega arith in rw (drop_of_length-le s h, le-ltb at (length s) h)
  ]

  pub after_group : {b next : ℕ} → further_at s start at ≡ part b next → next ≡ at + 1
  after_group {b} {next} e =
      split (ltb at (length s))
      (λ t. split (eqb (get_or s at 0) 0)
      (λ z. refused_not (rw (t, z) at e))
      (λ z. same_part (record { it = get_or s at 0; next = at + 1 }) (record { it = b; next = next }) (λ it n. n ≡ at + 1) (rw (t, z) at e) refl))
      (λ t. refused_not (rw t at e))

-- ---- the loop over the second to fourth group

-- of the number `whole`, the groups before `at` are worth `value`, and the next one counts `scale` times; `more` groups may stand before the fifth
pub record Reading (start : ℕ) (s : List ℕ) (whole : Result (Part ℕ)) (value scale at more : ℕ) : Type 0 where
  pub scaled : scale * 128 ^ more ≡ 2 ^ 28
  pub below : value < scale
  pub rest : whole ≡ plus value scale (rest_from start more (drop at s) at)

plus_plus : (low weight b : ℕ) (r : Result (Part ℕ)) → plus low weight (plus b 128 r) ≡ plus (low + weight * b) (weight * 128) r
plus_plus low weight b (done p) =
    let e : low + weight * (b + 128 * p.it) ≡ low + weight * b + weight * 128 * p.it = omega arith in
    rw e
plus_plus low weight b (refused reply place) = refl

-- a group b below n, after groups worth less than the scale
placed : (value scale b n : ℕ) → value < scale → b < n → value + scale * b < scale * n
placed value scale b n v h =
    let m : scale * suc b ≤ scale * n = mul-le-mul_left scale h in
    omega arith

scale_turn : (scale more : ℕ) → scale * 128 ^ suc more ≡ 2 ^ 28 → scale * 128 * 128 ^ more ≡ 2 ^ 28
scale_turn scale more e = omega (arith, rw (pow-succ' 128 more) at e)

scale_most : (scale more : ℕ) → scale * 128 ^ more ≡ 2 ^ 28 → scale ≤ 2 ^ 28
scale_most scale more e =
    let h : scale * 1 ≤ scale * 128 ^ more = mul-le-mul_left scale (one-le-pow more 128 (omega arith)) in
    omega arith

module _ {start : ℕ} {s : List ℕ} {whole : Result (Part ℕ)} {value scale at : ℕ} where
  pub cut : {e : Refusal} (more : ℕ) → Reading start s whole value scale at more → 0 < more → Err e ≡ part_told (further_at s start at) → Err e ≡ part_told whole
  cut zero w m e = absurd (omega arith)
  cut (suc more) w m e = rw (w.rest, rest_group start s at more, part_err (further_at s start at) e)

  module _ {b next : ℕ} (got : Ok (b, next) ≡ part_told (further_at s start at)) where
    pub last_group : (more : ℕ) → Reading start s whole value scale at more → 0 < more → b < 128 → Ok (value + scale * (b % 128), next) ≡ part_told whole
    last_group zero w m l = absurd (omega arith)
    last_group (suc more) w m l =
        let whole-byte : b % 128 ≡ b = omega arith in
        rw (whole-byte, w.rest, rest_group start s at more, part_ok (further_at s start at) got, lt-ltb b 128 l, after_group start s at (part_ok (further_at s start at) got))

    pub turn : (more : ℕ) → Reading start s whole value scale at more → 0 < more → 128 ≤ b
        → Reading start s whole (value + scale * (b % 128)) (scale * 128) next (more - 1)
    turn zero w m l = absurd (omega arith)
    turn (suc more) w m l =
        let p : suc more - 1 ≡ more = omega arith in
        rw p (record {
          scaled = scale_turn scale more w.scaled;
          below = placed value scale (b % 128) 128 w.below (omega arith);
          rest = w.rest ∙ rw (rest_group start s at more, part_ok (further_at s start at) got, le-ltb b 128 l) (plus_plus value scale (b % 128) (rest_from start more (drop next s) next));
        })

  -- no sum wraps
  pub middle_fits : (b more : ℕ) → Reading start s whole value scale at more → 0 < more → b < 128 → value + scale * b < 2 ^ 28 × scale * 128 ≤ 2 ^ 28
  middle_fits b zero w m l = absurd (omega arith)
  middle_fits b (suc more) w m l =
      let most : scale * 128 ≤ 2 ^ 28 = scale_most (scale * 128) more (scale_turn scale more w.scaled) in
      omega (arith, placed value scale b 128 w.below l)
