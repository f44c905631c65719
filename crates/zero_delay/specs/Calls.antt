-- What the steps of the call give and know: what a run returns, and a run that is not refused.
use Rattle.std.specs.Prelude.{ℕ, ◌*◌, ◌≤◌, List, map, length, replicate}
use Rattle.reply.specs.Result.{done, answer_of}
use Rattle.reply.specs.declared.Answer.{Answer}
use Rattle.graph.specs.FrameOf.{FrameOf}
use Rattle.graph.specs.declared.Framed.{Framed}
use Rattle.machine.specs.HeldOf.{held_of, no_held}
use Rattle.zero_delay.specs.ZeroDelay.{Sofar}
use Rattle.zero_delay.specs.declared.Ran.{Ran}

-- what a refused call returns
abbrev pub refused_with : Answer → Ran
refused_with answer = record { answer = answer; variables = replicate 96 0; channels = replicate 16 no_held }

-- what a run that is not refused returns
abbrev pub ran_after : Sofar → Ran
ran_after s = record { answer = answer_of (done s); variables = s.state.variables; channels = map held_of s.state.channels }

-- a run that is not refused: so many frames, and input and output are long enough for them
pub record Admitted (framed : Framed) (frames : ℕ) (input output : List ℕ) : Type 0 where
  pub frame : FrameOf framed
  pub few : frames ≤ 100
  pub input_there : 2 * (framed.job_count * frames) ≤ length input
  pub output_there : 2 * (framed.job_count * frames) ≤ length output
