-- What the struct of a channel says: the values that it holds, from its head on, round its eight places.
use Rattle.std.specs.Prelude.{◌≡◌, ℕ, ◌+◌, ◌%◌, ◌<◌, ◌≤◌, Option, unwrap_or, is_some, List, length, slice_index}
use Rattle.std.specs.Int.{from_bool}
use Rattle.network.specs.Lists.{table}
use Rattle.machine.specs.State.{Contents, oldest, flag, after_read, after_write}
use Rattle.machine.specs.declared.Channel.{Channel}

-- a channel that a run may have: the counts are within its eight places
pub record Sound (c : Channel) : Type 0 where
  pub places : length c.values ≡ 8
  pub head : c.head < 8
  pub most : c.length ≤ 8

unfoldable pub held_by : Channel → List ℕ
held_by c = table c.length (λ k. slice_index c.values ((c.head + k) % 8))

abbrev pub contents_by : Channel → Contents
contents_by c = record { held = held_by c; loss = c.loss }

-- the channel after a read of it, and the value that the read gives, if there is one
pub record TakenFrom (c : Channel) (kind : ℕ) (after : Channel) (given : Option ℕ) : Type 0 where
  pub sound : Sound after
  pub contents : contents_by after ≡ after_read kind (contents_by c)
  pub value : unwrap_or given 0 ≡ oldest (held_by c)
  pub flag : from_bool (is_some given) ≡ flag (held_by c)

-- what a write into a channel gives
pub record PutInto (c : Channel) (kind capacity value : ℕ) (r : Channel) : Type 0 where
  pub sound : Sound r
  pub contents : contents_by r ≡ after_write kind capacity value (contents_by c)
