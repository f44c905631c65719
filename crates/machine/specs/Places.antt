-- What a state is made of: places, those that a process touches, and what it is for the actions of a process to be local to them.
use Rattle.std.specs.Prelude.{◌≡◌, ℕ, ◌/◌, ◌<◌, Bool, true, false, ◌&&◌, ◌||◌, length, ◌==◌, nat_lt}
use Rattle.std.proofs.Math.Option.{Option}
use Rattle.std.proofs.Math.ListN.{get_elem?}
use Rattle.network.specs.Net.{Net}
use Rattle.machine.specs.State.{Contents, State}
use Rattle.machine.specs.Actions.{channel_of}
use Rattle.machine.specs.WholeJob.{act_state, act_under}
use Rattle.machine.specs.declared.Sample.{Sample}
use Rattle.machine.specs.declared.Under.{Under}

-- one of the variables, or one of the channels
pub data Place : Type 0 where
  variable : ℕ → Place
  channel : ℕ → Place

-- what stands at a place, if there is such a place
abbrev pub At : Place → Type 0
At (variable i) = Option ℕ
At (channel c) = Option Contents

abbrev pub view : (r : Place) → State → At r
view (variable i) s = get_elem? s.variables i
view (channel c) s = get_elem? s.channels c

-- the variables of p, and the channels of which p is an end
unfoldable pub touches : Net → ℕ → Place → Bool
touches net p (variable i) = i / 8 == p
touches net p (channel c) = nat_lt c (length net.channels) && ((channel_of net c).writer == p || (channel_of net c).reader == p)

-- the same stands at each place that p touches
pub record Agree (net : Net) (p : ℕ) (s t : State) : Type 0 where
  pub same : (r : Place) → touches net p r ≡ true → view r s ≡ view r t

pub record Local (net : Net) (p : ℕ) : Type 0 where
  -- an action changes nothing but the variables of p and the channels of which p is an end
  pub frame : (x : Sample) (u : Under) (s : State) (r : Place) → touches net p r ≡ false → view r (act_state net p x u s) ≡ view r s
  -- what it does there depends on nothing else
  pub state : (x : Sample) (u : Under) (s t : State) → Agree net p s t → Agree net p (act_state net p x u s) (act_state net p x u t)
  -- nor does what its job then keeps
  pub under : (u : Under) (s t : State) → Agree net p s t → act_under net p u s ≡ act_under net p u t
  -- each action goes forward
  pub forward : (u : Under) (s : State) → u.at < (act_under net p u s).at
