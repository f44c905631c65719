-- What the code of an action needs, and what it does: its operands, the tables that it is lent, the variables and words afterwards.
use Rattle.std.specs.Prelude.{◌≡◌, ℕ, ◌+◌, ◌*◌, ◌^◌, ◌<◌, ◌≤◌, List, [], ◌∷◌, length, slice_index, slice_index_or}
use Rattle.network.specs.Net.{Net, no_channel}
use Rattle.network.specs.declared.Channel.{Channel}
use Rattle.machine.specs.State.{nothing}
use Rattle.machine.specs.Actions.{channel_of, effect, output_after, skipped}
use Rattle.machine.specs.Words.{contents_in, state_by, SoundWords}
use Rattle.machine.specs.declared.Sample.{Sample}
use Rattle.machine.specs.declared.Under.{Under}
use Rattle.machine.specs.declared.Action.{Action}
use Rattle.machine.specs.declared.Action.TheVariants.{Set, Add, Subtract, Read, Write, Input, Output, Skip, Unknown}

-- operands within their range: variables below 8, channels below 16, skips within a program
unfoldable pub Operands : Action → Type 0
Operands (Set a n) = a < 8
Operands (Add a b c) = (a < 8) × (b < 8) × (c < 8)
Operands (Subtract a b c) = (a < 8) × (b < 8) × (c < 8)
Operands (Read ch b c) = (ch < 16) × (b < 8) × (c < 8)
Operands (Write ch b) = (ch < 16) × (b < 8)
Operands (Input a b) = (a < 8) × (b < 8)
Operands (Output a) = a < 8
Operands (Skip a n) = (a < 8) × (n ≤ 24)
Operands Unknown = Unit {0}

-- of each channel its kind and its capacity, one after another
unfoldable pub kinds_in : List Channel → List ℕ
kinds_in [] = []
kinds_in (x ∷ l) = x.kind ∷ x.capacity ∷ kinds_in l

-- the kinds are those of a network: for each channel its kind and its capacity
pub record KindsOf (net : Net) (kinds : List ℕ) : Type 0 where
  pub kind : (c : ℕ) → slice_index kinds (2 * c) ≡ (channel_of net c).kind
  pub capacity : (c : ℕ) → slice_index kinds (2 * c + 1) ≡ (channel_of net c).capacity

-- the table of kinds that a struct's channels make
pub record KindsTold (channels : List Channel) (kinds : List ℕ) : Type 0 where
  pub size : length kinds ≡ 32
  pub kind : (c : ℕ) → c < 16 → slice_index kinds (2 * c) ≡ (slice_index_or channels c no_channel).kind
  pub capacity : (c : ℕ) → c < 16 → slice_index kinds (2 * c + 1) ≡ (slice_index_or channels c no_channel).capacity

-- no capacity is above eight
pub record Capacities (kinds : List ℕ) : Type 0 where
  pub most : (c : ℕ) → slice_index kinds (2 * c + 1) ≤ 8

-- each loss count has room for so many more
pub record Room (words : List ℕ) (more : ℕ) : Type 0 where
  pub room : (c : ℕ) → (slice_index_or (contents_in words) c nothing).loss + more < 2 ^ 32

-- what an action of process p needs
pub record Able (action : Action) (p : ℕ) (under : Under) (kinds words : List ℕ) : Type 0 where
  pub process : p < 12
  pub at : under.at < 24
  pub operands : Operands action
  pub capacities : Capacities kinds
  pub sound : SoundWords words
  pub room : Room words 1

-- variables and words after an action that takes no sample
pub record Effected (action : Action) (p : ℕ) (kinds variables words variables' words' : List ℕ) : Type 0 where
  pub sound : SoundWords words'
  pub state : (net : Net) (x : Sample) → KindsOf net kinds → state_by variables' words' ≡ effect net p x action (state_by variables words)

-- variables and words after an action, and what its job then keeps
pub record Acted (action : Action) (p : ℕ) (under : Under) (x : Sample) (kinds variables words variables' words' : List ℕ) (r : Under) : Type 0 where
  pub sound : SoundWords words'
  pub state : (net : Net) → KindsOf net kinds → state_by variables' words' ≡ effect net p x action (state_by variables words)
  pub at : r.at ≡ under.at + 1 + skipped p action (state_by variables words)
  pub output : r.output ≡ output_after p action (state_by variables words) under.output
