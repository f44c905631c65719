-- A job that goes on: by one action before its end, and not at all at its end.
use Rattle.std.specs.Prelude.{◌≡◌, ℕ, zero, suc, ◌<◌, ◌≤◌, length}
use Rattle.std.proofs.Math.Path.{refl}
use Rattle.std.proofs.Common.{le-leb}
use Rattle.std.proofs.lemmas.Bool.{lt-leb}
use Rattle.network.specs.Net.{Net}
use Rattle.machine.specs.State.{State}
use Rattle.machine.specs.WholeJob.{program_of, act_state, act_under, go_on}
use Rattle.machine.specs.declared.Sample.{Sample}
use Rattle.machine.specs.declared.Under.{Under}

module _ (net : Net) (p : ℕ) (x : Sample) (u : Under) (s : State) where
  pub go_on_step : (most : ℕ) → u.at < length (program_of net p) → go_on (suc most) net p x u s ≡ go_on most net p x (act_under net p u s) (act_state net p x u s)
  unfolding go_on
  go_on_step most h = rw (lt-leb (length (program_of net p)) u.at h)

  pub go_on_end : (most : ℕ) → length (program_of net p) ≤ u.at → go_on most net p x u s ≡ record { state = s; output = u.output }
  unfolding go_on
  go_on_end zero h = refl
  go_on_end (suc most) h = rw (le-leb (length (program_of net p)) u.at h)
