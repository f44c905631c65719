-- What every struct is that code can hold: its arrays are as long as they are declared, and its numbers have 32 bits.
use Rattle.std.specs.Prelude.{ℕ, ◌<◌, ◌^◌, ◌≡◌, length, get_or}
use Rattle.network.specs.Frame.{no_process}
use Rattle.network.specs.Pairs.{no_pair}
use Rattle.network.specs.Net.{no_channel, process_fields, pair_fields, channel_fields}
use Rattle.network.specs.declared.Network.{Network}
use Rattle.roundtrip.specs.Under.{Under}

-- the lengths of its arrays
pub record Arrays (s : Network) : Type 0 where
  pub processes : length s.processes ≡ 12
  pub pairs : length s.pairs ≡ 66
  pub channels : length s.channels ≡ 16
  pub action_counts : length s.action_counts ≡ 12
  pub actions : length s.actions ≡ 1152

-- the numbers of it
pub record Words (s : Network) : Type 0 where
  pub process_count : s.process_count < 2 ^ 32
  pub processes : (i : ℕ) → i < length s.processes → Under (2 ^ 32) (process_fields (get_or s.processes i no_process))
  pub pair_count : s.pair_count < 2 ^ 32
  pub pairs : (i : ℕ) → i < length s.pairs → Under (2 ^ 32) (pair_fields (get_or s.pairs i no_pair))
  pub channel_count : s.channel_count < 2 ^ 32
  pub channels : (i : ℕ) → i < length s.channels → Under (2 ^ 32) (channel_fields (get_or s.channels i no_channel))
  pub action_counts : Under (2 ^ 32) s.action_counts
  pub actions : Under (2 ^ 32) s.actions
