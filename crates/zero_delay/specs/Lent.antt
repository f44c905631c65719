-- What the code of the run is lent, and what it leaves: the tables of a network's work, and variables, words and output after jobs.
use Rattle.std.specs.Prelude.{ℕ, ◌*◌, ◌≤◌, ◌<◌, ◌≡◌, List, map, length, get_or}
use Rattle.std.proofs.lemmas.List.Edits.{sets}
use Rattle.graph.specs.Work.{Work, job_count_of, process_of}
use Rattle.graph.specs.declared.Job.{Job}
use Rattle.machine.specs.Ledger.{ShortPrograms}
use Rattle.machine.specs.Words.{state_by, SoundWords}
use Rattle.machine.specs.Acting.{KindsOf, Capacities, Room}
use Rattle.machine.specs.Jobs.{ProgramIs, Runnable}
use Rattle.zero_delay.specs.ZeroDelay.{process_in, jobs_done}

-- the process of each job
abbrev pub processes_in : List Job → List ℕ
processes_in jobs = map (λ (x : Job). x.process) jobs

-- the tables are those of a work: the actions as numbers, how many each process has, the kinds of the channels, and the process of each job
pub record TablesOf (w : Work) (program counts kinds processes : List ℕ) (jobs : ℕ) : Type 0 where
  pub count : job_count_of w ≡ jobs
  pub process : (j : ℕ) → j < jobs → get_or processes j 0 ≡ process_of w j
  pub program_is : (j : ℕ) → j < jobs → ProgramIs w.net program (process_of w j) (get_or counts (process_of w j) 0)
  pub kinds_are : KindsOf w.net kinds

-- what the jobs of a frame need
pub record Ready (program counts kinds processes : List ℕ) (jobs : ℕ) : Type 0 where
  pub work : Work
  pub tables : TablesOf work program counts kinds processes jobs
  pub runnable : (j : ℕ) → j < jobs → Runnable program (process_of work j) (get_or counts (process_of work j) 0)
  pub capacities : Capacities kinds
  pub short : ShortPrograms work.net
  pub few : jobs ≤ 128

-- what so many frames need: input, room for the output, and room for a loss with each action
pub record FramesReady (jobs frames : ℕ) (input output words : List ℕ) : Type 0 where
  pub few : frames ≤ 100
  pub input_there : 2 * (jobs * frames) ≤ length input
  pub output_there : 2 * (jobs * frames) ≤ length output
  pub sound : SoundWords words
  pub room : Room words (24 * (jobs * frames))

-- after one frame
pub record FrameDone (program counts kinds processes : List ℕ) (jobs : ℕ) (input output variables words output' variables' words' : List ℕ) : Type 0 where
  pub sound : SoundWords words'
  pub state : (w : Work) → TablesOf w program counts kinds processes jobs
      → state_by variables' words' ≡ (jobs_done w.net (process_of w) input (state_by variables words) jobs).state
  pub written : (w : Work) → TablesOf w program counts kinds processes jobs
      → output' ≡ sets output 0 (jobs_done w.net (process_of w) input (state_by variables words) jobs).words

-- after so many frames
pub record FramesDone (program counts kinds processes : List ℕ) (jobs frames : ℕ) (input output variables words output' variables' words' : List ℕ) : Type 0 where
  pub sound : SoundWords words'
  pub state : (w : Work) → TablesOf w program counts kinds processes jobs
      → state_by variables' words' ≡ (jobs_done w.net (process_in w) input (state_by variables words) (jobs * frames)).state
  pub written : (w : Work) → TablesOf w program counts kinds processes jobs
      → output' ≡ sets output 0 (jobs_done w.net (process_in w) input (state_by variables words) (jobs * frames)).words
