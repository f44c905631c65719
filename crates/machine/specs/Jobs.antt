-- What the code of a whole job needs, and what it does.
use Rattle.std.specs.Prelude.{◌≡◌, ℕ, ◌+◌, ◌-◌, ◌<◌, ◌≤◌, ◌⊎◌, List, length, slice_index_or}
use Rattle.network.specs.Net.{Net, four_at}
use Rattle.machine.specs.Actions.{decode}
use Rattle.machine.specs.WholeJob.{program_of, started, whole_job}
use Rattle.machine.specs.Words.{state_by, SoundWords}
use Rattle.machine.specs.Acting.{Operands, KindsOf, Capacities, Room, Acted}
use Rattle.machine.specs.declared.Sample.{Sample}
use Rattle.machine.specs.declared.Under.{Under}
use Rattle.machine.specs.declared.Action.TheVariants.{Unknown}

-- the first `count` actions of process p, as numbers, are its program
pub record ProgramIs (net : Net) (program : List ℕ) (p count : ℕ) : Type 0 where
  pub size : length (program_of net p) ≡ count
  pub action : (k : ℕ) → k < count → decode (four_at program p k) ≡ slice_index_or (program_of net p) k Unknown

-- a process whose program can be run
pub record Runnable (program : List ℕ) (p count : ℕ) : Type 0 where
  pub process : p < 12
  pub most : count ≤ 24
  pub operands : (k : ℕ) → k < count → Operands (decode (four_at program p k))

-- what a job of process p needs: the tables of a network, of which its program can be run, and room for a loss with each action
pub record Runs (program : List ℕ) (p count : ℕ) (kinds words : List ℕ) : Type 0 where
  pub net : Net
  pub program_is : ProgramIs net program p count
  pub kinds_are : KindsOf net kinds
  pub runnable : Runnable program p count
  pub capacities : Capacities kinds
  pub sound : SoundWords words
  pub room : Room words count

-- variables and words after a job, and its output
pub record JobDone (program : List ℕ) (p count : ℕ) (x : Sample) (kinds variables words variables' words' : List ℕ) (r : Sample) : Type 0 where
  pub sound : SoundWords words'
  pub state : (net : Net) → ProgramIs net program p count → KindsOf net kinds → state_by variables' words' ≡ (whole_job net p x (state_by variables words)).state
  pub output : (net : Net) → ProgramIs net program p count → KindsOf net kinds → r ≡ (whole_job net p x (state_by variables words)).output

-- what a job needs to go on until some place: it has just started, or it does one action
pub record Goes (program : List ℕ) (p until : ℕ) (u : Under) (kinds words : List ℕ) : Type 0 where
  pub net : Net
  pub kinds_are : KindsOf net kinds
  pub runnable : Runnable program p until
  pub capacities : Capacities kinds
  pub sound : SoundWords words
  pub room : Room words (until - u.at)
  pub how : (u ≡ started) ⊎ (until ≡ u.at + 1)

-- and what it has done: a whole job, or that action
pub record Went (program : List ℕ) (p until : ℕ) (u : Under) (x : Sample) (kinds variables words variables' words' : List ℕ) (r : Under) : Type 0 where
  pub whole : u ≡ started → JobDone program p until x kinds variables words variables' words' r.output
  pub one : until ≡ u.at + 1 → Acted (decode (four_at program p u.at)) p u x kinds variables words variables' words' r
