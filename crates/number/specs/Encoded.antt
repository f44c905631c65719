-- What was encoded reads back, with anything after it.
use Rattle.std.specs.Prelude.{◌≡◌, length}
use Rattle.std.proofs.Math.Path.{ap}
use Rattle.std.proofs.Common.{◌∙◌}
use mathlib.Core.List.{List, ◌++◌}
use Prim.Native.Nat.{ℕ, zero, suc, ◌+◌, ◌*◌, ◌/◌, ◌%◌, ◌^◌, ◌≤◌, ◌<◌}
use Rattle.std.proofs.Math.Nat.{pow-succ'}
use Rattle.std.proofs.Math.Decide.{dec_lt}
use native.Mathlib.Omega.{arith}
use borrow.Author.Tests.{lt-ltb, le-ltb, le-leb, ne_eqb}
use Rattle.number.specs.Parts.{part}
use Rattle.number.specs.Number.{group, rest_from, number_from}
use Rattle.number.specs.Encode.{groups, encode}
use Rattle.number.specs.Groups.{groups_last, groups_more, groups_fifth}

module _ (start : ℕ) (tail : List ℕ) where
  -- a group with the high bit set, and the rest that reads back
  group_back : (more n at : ℕ) → 128 ≤ n
      → rest_from start more (groups more (n / 128) ++ tail) (at + 1) ≡ part (n / 128) (at + 1 + length (groups more (n / 128)))
      → group (128 + n % 128) at (rest_from start more (groups more (n / 128) ++ tail) (at + 1)) ≡ part n (at + length (groups (suc more) n))
  group_back more n at h e =
      let value : (128 + n % 128) % 128 + 128 * (n / 128) ≡ n = omega arith in
      let next : at + 1 + length (groups more (n / 128)) ≡ at + suc (length (groups more (n / 128))) = omega arith in
      rw (le-ltb (128 + n % 128) 128 (omega arith), e, groups_more more n h, value, next)

  rest_back : (more n at : ℕ) → 0 < n → n < 16 * 128 ^ more → rest_from start more (groups more n ++ tail) at ≡ part n (at + length (groups more n))
  unfolding rest_from
  rest_back zero n at p h = rw (groups_fifth n, ne_eqb n 0 (omega arith), le-leb n 15 (omega arith))
  rest_back (suc more) n at p h = elim (dec_lt n 128) [
    | yes l ↦ rw (groups_last (suc more) n l, ne_eqb n 0 (omega arith), lt-ltb n 128 l)
    | no l ↦
        let small : n / 128 < 16 * 128 ^ more = omega (arith, pow-succ' 128 more) in
        let large : 128 ≤ n = omega arith in
        ap (λ (g : List ℕ). rest_from start (suc more) (g ++ tail) at) (groups_more more n large)
        ∙ rw (ne_eqb (128 + n % 128) 0 (omega arith)) (group_back more n at large (rest_back more (n / 128) (at + 1) (omega arith) small))
  ]

pub number_back : (n : ℕ) (tail : List ℕ) (at : ℕ) → n < 2 ^ 32 → number_from (encode n ++ tail) at ≡ part n (at + length (encode n))
unfolding number_from encode
number_back n tail at h = elim (dec_lt n 128) [
  | yes l ↦ rw (groups_last 4 n l, lt-ltb n 128 l)
  | no l ↦
      let large : 128 ≤ n = omega arith in
      ap (λ (g : List ℕ). number_from (g ++ tail) at) (groups_more 3 n large)
      ∙ group_back at tail 3 n at large (rest_back at tail 3 (n / 128) (at + 1) (omega arith) (omega arith))
]
