-- A job: its actions one after another, from the first to the end of the program of its process.
use Rattle.std.specs.Prelude.{ℕ, zero, suc, ◌+◌, Bool, cond, List, [], map, length, nat_le, slice_index_or}
use Rattle.network.specs.Net.{Net}
use Rattle.machine.specs.State.{State}
use Rattle.machine.specs.Actions.{decode, effect, output_after, skipped}
use Rattle.machine.specs.declared.Sample.{Sample}
use Rattle.machine.specs.declared.Under.{Under}
use Rattle.machine.specs.declared.Action.{Action}
use Rattle.machine.specs.declared.Action.TheVariants.{Unknown}

abbrev pub program_of : Net → ℕ → List Action
program_of net p = map decode (slice_index_or net.programs p [])

abbrev pub blank : Sample
blank = record { present = 0; value = 0 }

-- what a job under way keeps for itself, at its start: the number of its next action, and what it has output
abbrev pub started : Under
started = record { at = 0; output = blank }

-- one action of a job under way: the state, and what the job keeps
abbrev pub next_action : Net → ℕ → Under → Action
next_action net p u = slice_index_or (program_of net p) u.at Unknown

abbrev pub act_state : Net → ℕ → Sample → Under → State → State
act_state net p x u s = effect net p x (next_action net p u) s

abbrev pub act_under : Net → ℕ → Under → State → Under
act_under net p u s = record {
  at = u.at + 1 + skipped p (next_action net p u) s;
  output = output_after p (next_action net p u) s u.output;
}

-- "the job finishes when it reaches the end"
abbrev pub at_end : Net → ℕ → Under → Bool
at_end net p u = nat_le (length (program_of net p)) u.at

-- what a job has done when it is finished
pub record Did : Type 0 where
  pub state : State
  pub output : Sample

-- a job that goes on from u to its end, in so many actions at most
unfoldable pub go_on : ℕ → Net → ℕ → Sample → Under → State → Did
go_on zero net p x u s = record { state = s; output = u.output }
go_on (suc most) net p x u s =
    let on = go_on most net p x (act_under net p u s) (act_state net p x u s) in
    cond (at_end net p u) (record { state = s; output = u.output }) on

-- a whole job: each action goes forward, so there are no more of them than the program is long
unfoldable pub whole_job : Net → ℕ → Sample → State → Did
whole_job net p x s = go_on (length (program_of net p)) net p x started s
