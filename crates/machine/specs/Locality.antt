-- Two processes that share a channel.
use Rattle.std.specs.Prelude.{ℕ, ◌<◌, ◌≡◌, ◌⊎◌, length}
use Rattle.network.specs.Net.{Net}
use Rattle.machine.specs.Actions.{channel_of}

-- p and q are the two ends of a channel, either way round
abbrev pub Ends : Net → ℕ → ℕ → Type 0
Ends net p q =
    (c : ℕ) × (c < length net.channels)
    × ((((channel_of net c).writer ≡ p) × ((channel_of net c).reader ≡ q)) ⊎ (((channel_of net c).reader ≡ p) × ((channel_of net c).writer ≡ q)))
