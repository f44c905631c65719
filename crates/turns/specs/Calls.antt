-- What the steps of the call give and know: a refusal, a run, what is judged before anything runs, and a run that is not refused.
use Rattle.std.specs.Prelude.{ℕ, ◌*◌, ◌≤◌, ◌≡◌, List, length, replicate}
use Rattle.reply.specs.Result.{Result, done, and_then}
use Rattle.reply.specs.declared.Refusal.{Refusal}
use Rattle.graph.specs.Work.{Work, job_count_of}
use Rattle.graph.specs.FrameOf.{FrameOf, work_in}
use Rattle.graph.specs.declared.Framed.{Framed}
use Rattle.machine.specs.HeldOf.{no_held}
use Rattle.machine.specs.Samples.{ok_samples}
use Rattle.plan.specs.Plan.{checked_by}
use Rattle.promises.specs.Turns.{Run, Between, turns, at_start, ok_turns}
use Rattle.turns.specs.Turned.{turned_of}
use Rattle.turns.specs.declared.TurnRan.{TurnRan}

-- what a refused call returns
abbrev pub refused_with : Refusal → TurnRan
refused_with refusal = record { answer = record { reply = refusal.reply; place = refusal.place }; frames = 0; jobs = 0; working = 0; waiting = 0; variables = replicate 96 0; channels = replicate 16 no_held }

-- and one that is done
abbrev pub turn_ran : Between → TurnRan
turn_ran c = turned_of (done c)

-- plan, samples and turns, in this order
unfoldable pub judged_by : Work → ℕ → ℕ → List ℕ → List ℕ → List ℕ → Result (Unit {0})
judged_by w m frames plan input list =
    and_then (checked_by w m plan) λ ok₁.
    and_then (ok_samples (job_count_of w * frames) input) λ ok₂.
    ok_turns m list

-- the run of a frame's work
abbrev pub run_in : Framed → ℕ → List ℕ → List ℕ → Run
run_in framed frames plan input = record { work = work_in framed; asked = frames; plan = plan; input = input }

-- after all its turns
abbrev pub ran_in : Framed → ℕ → List ℕ → List ℕ → List ℕ → Between
ran_in framed frames plan input list = turns (run_in framed frames plan input) list (at_start (run_in framed frames plan input))

-- so many frames on at most four processors, and the lent words are long enough for them
pub record Roomy (framed : Framed) (m frames : ℕ) (plan input output : List ℕ) : Type 0 where
  pub frame : FrameOf framed
  pub processors : m ≤ 4
  pub few : frames ≤ 100
  pub plan_there : 2 * framed.job_count ≤ length plan
  pub input_there : 2 * (framed.job_count * frames) ≤ length input
  pub output_there : 2 * (framed.job_count * frames) ≤ length output

-- a run that is not refused: plan, samples and turns are good
pub record Admitted (framed : Framed) (frames : ℕ) (plan input list output : List ℕ) : Type 0 where
  pub m : ℕ
  pub roomy : Roomy framed m frames plan input output
  pub good : judged_by (work_in framed) m frames plan input list ≡ done tt
