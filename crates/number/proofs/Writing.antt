-- Writing a number: the loop over its groups, what it has written and what is left to write.
use mathlib.Core.Path.{◌≡◌, refl}
use mathlib.Core.List.{List}
use Prim.Native.Nat.{ℕ, zero, suc, ◌+◌, ◌-◌, ◌*◌, ◌/◌, ◌%◌, ◌^◌, ◌≤◌, ◌<◌}
use native.Mathlib.Decide.{dec_lt}
use native.Mathlib.Nat.{pow-succ'}
use native.Mathlib.Numerals.{add-one}
use native.Mathlib.Omega.{arith}
use lib.ListN.{length, set, length-set}
use lib.Seq.{sets}
use borrow.Author.Tests.{le-leb, lt-leb, leb-true}
use Rattle.std.specs.Prelude.{Ok, Bool, true, false, leb}
use Rattle.reply.specs.Result.{require}
use Rattle.reply.specs.Call.{room_of}
use Rattle.reply.specs.Told.{judged}
use Rattle.reply.specs.declared.Reply.{Reply}
use Rattle.reply.specs.declared.Reply.TheVariants.{ShortBuffer}
use Rattle.number.specs.Encode.{groups, encode}
use Rattle.number.specs.Groups.{groups_last, groups_more, groups_size}

-- of n, to be written from `from` on in out₀, the groups of `rest` are left, to be written from `at` on in out, with `more` after the next one at most
pub record Writing (out₀ : List ℕ) (from n : ℕ) (out : List ℕ) (rest at more : ℕ) : Type 0 where
  pub small : rest < 16 * 128 ^ more
  pub kept : length out ≡ length out₀
  pub ends : at + length (groups more rest) ≡ from + length (encode n)
  pub writes : sets out at (groups more rest) ≡ sets out₀ from (encode n)

pub begin : (out : List ℕ) (from n : ℕ) → n < 2 ^ 32 → Writing out from n out n from 4
unfolding encode
begin out from n h = record { small = h; kept = refl; ends = refl; writes = refl }

module _ {out₀ : List ℕ} {from n : ℕ} {out : List ℕ} {rest at : ℕ} where
  pub room : {more : ℕ} → Writing out₀ from n out rest at more → at < from + length (encode n)
  room {more} w = omega (arith, (groups_size more rest).0)

  pub turn : (more : ℕ) → Writing out₀ from n out rest at more → 128 ≤ rest
      → (m : ℕ) × Writing out₀ from n (set out at (128 + rest % 128)) (rest / 128) (at + 1) m
  turn zero w h = absurd (omega arith)
  turn (suc more) w h = (
    more,
    record {
      small = omega (arith, pow-succ' 128 more);
      kept = rw length-set w.kept;
      ends = omega (arith, rw (groups_more more rest h) at w.ends);
      writes = rw (add-one at) (rw (groups_more more rest h) at w.writes);
    },
  )

  pub done : {more : ℕ} → Writing out₀ from n out rest at more → rest < 128
      → (at + 1 ≡ from + length (encode n)) × (set out at rest ≡ sets out₀ from (encode n))
  done {more} w h = (omega (arith, rw (groups_last more rest h) at w.ends), rw (groups_last more rest h) at w.writes)

-- ---- room for the groups

pub fits_room : (at size room : ℕ) → 0 < size → leb (at + size) room ≡ leb size (room - at)
fits_room at size room h = elim (dec_lt room (at + size)) [
  | yes l ↦ rw (lt-leb (at + size) room l, lt-leb size (room - at) (omega arith))
  | no n ↦ rw (le-leb (at + size) room (omega arith), le-leb size (room - at) (omega arith))
]

required : {u : Unit {0}} (test : Bool) (reply : Reply) (place : ℕ) → Ok u ≡ judged (require test reply place) → test ≡ true
required true reply place e = refl
required false reply place e = cc

-- where there is room, the groups fit
pub has_room : {u : Unit {0}} (at size room : ℕ) {width left : ℕ} → 0 < size → width ≡ size → left ≡ room - at → Ok u ≡ judged (room_of width left) → at + size ≤ room
has_room at size room {width} {left} h w l e = omega (arith, leb-true width left (required (leb width left) ShortBuffer 0 e))
