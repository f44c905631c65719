-- The channel that a number names, looked up in the array of channels.
use Rattle.std.specs.Prelude.{ℕ, ◌≤◌, ◌<◌, ◌≡◌, Bool, true, false, cond, Some, None, List, ltb, length, get_or, take}
use Rattle.std.proofs.Common.{sym, arith, ltb-true, length-take-le, get_or-take}
use Rattle.network.specs.Net.{no_channel}
use Rattle.network.specs.ProgramsTold.{named}
use Rattle.network.specs.declared.Channel.{Channel}

-- the channel at a number, where it is below the count
pub named_at : (channels : List Channel) (count number place : ℕ) (known : Bool) (channel : Channel) → count ≤ length channels
    → known ≡ ltb number count → place ≡ cond known number 0 → channel ≡ get_or channels place no_channel → named (take count channels) number ≡ cond known (Some channel) None
named_at channels count number place known channel l ek ep ec = go known ek ep
  where
    size : length (take count channels) ≡ count
    size = length-take-le count channels l

    go : (known : Bool) → known ≡ ltb number count → place ≡ cond known number 0 → named (take count channels) number ≡ cond known (Some channel) None
    go true ek ep =
        let h : number < count = ltb-true number count (sym ek) in
        rw (size, ← ek, ec, ep, get_or-take count channels number no_channel h)
    go false ek ep = rw (size, ← ek)

pub place_fits : (room count number place : ℕ) (known : Bool) → 0 < room → count ≤ room → known ≡ ltb number count → place ≡ cond known number 0 → place < room
place_fits room count number place true z l ek ep = let h : number < count = ltb-true number count (sym ek) in omega arith
place_fits room count number place false z l ek ep = omega arith
