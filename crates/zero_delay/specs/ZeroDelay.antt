-- The zero-delay run: the jobs one after another in sequence, frame after frame.
use Rattle.std.specs.Prelude.{ℕ, zero, suc, ◌*◌, ◌%◌, List, [], ◌++◌, map, replicate}
use Rattle.std.proofs.lemmas.List.Edits.{sets}
use Rattle.reply.specs.Result.{Result, done, and_then, answer_of, or_zero}
use Rattle.reply.specs.Call.{ok_frames, ok_room}
use Rattle.network.specs.Net.{Net}
use Rattle.graph.specs.Work.{Work, load_work, job_count_of, process_of}
use Rattle.machine.specs.State.{State, start_state}
use Rattle.machine.specs.WholeJob.{whole_job}
use Rattle.machine.specs.Samples.{sample_at, sample_words, ok_samples}
use Rattle.machine.specs.HeldOf.{held_of, no_held}
use Rattle.zero_delay.specs.declared.Ran.{Ran}

-- after some jobs: the state, and the output words of those jobs
pub record Sofar : Type 0 where
  pub state : State
  pub words : List ℕ

-- after the first k of some jobs, one after another from a state; job k is of process `processes k` and has sample k of the input
unfoldable pub jobs_done : Net → (ℕ → ℕ) → List ℕ → State → ℕ → Sofar
jobs_done net processes input s zero = record { state = s; words = [] }
jobs_done net processes input s (suc k) =
    let before = jobs_done net processes input s k in
    let did = whole_job net (processes k) (sample_at input k) before.state in
    record { state = did.state; words = before.words ++ sample_words did.output }

-- job k of the whole run is job k % J of its frame
abbrev pub process_in : Work → ℕ → ℕ
process_in w k = process_of w (k % job_count_of w)

-- after the first k jobs of the whole run
unfoldable pub ran_jobs : Work → List ℕ → ℕ → Sofar
ran_jobs w input k = jobs_done w.net (process_in w) input start_state k

-- the run of a network's work, after the file was read: 10, samples
unfoldable pub run_work : Work → ℕ → List ℕ → List ℕ → Result Sofar
run_work w frames input output =
    and_then (ok_room (2 * (job_count_of w * frames)) input) λ ok₁.
    and_then (ok_room (2 * (job_count_of w * frames)) output) λ ok₂.
    and_then (ok_samples (job_count_of w * frames) input) λ ok₃.
    done (ran_jobs w input (job_count_of w * frames))

-- the call: F, file, and then the run
unfoldable pub zero_delay : List ℕ → ℕ → List ℕ → List ℕ → Result Sofar
zero_delay file frames input output =
    and_then (ok_frames frames) λ ok.
    and_then (load_work file) λ w.
    run_work w frames input output

-- what it returns, and the output words afterwards
unfoldable pub ran_of : Result Sofar → Ran
ran_of r = record {
  answer = answer_of r;
  variables = or_zero (replicate 96 0) (λ (s : Sofar). s.state.variables) r;
  channels = or_zero (replicate 16 no_held) (λ (s : Sofar). map held_of s.state.channels) r;
}

unfoldable pub filled_by : Result Sofar → List ℕ → List ℕ
filled_by r output = or_zero output (λ (s : Sofar). sets output 0 s.words) r
