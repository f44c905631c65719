-- A frame's work: its length, its jobs in sequence, and which job precedes which.
use Rattle.std.specs.Prelude.{ℕ, Bool, ◌&&◌, ◌||◌, List, length, get_or, ltb, eqb}
use Rattle.reply.specs.Result.{Result, done, and_then}
use Rattle.network.specs.Chains.{Relation, holds, relation}
use Rattle.network.specs.Frame.{frame_length}
use Rattle.network.specs.Net.{Net}
use Rattle.network.specs.Read.{load}
use Rattle.graph.specs.Order.{comes_before, related}
use Rattle.graph.specs.Sequence.{no_job, sequence_to}
use Rattle.graph.specs.declared.Job.{Job}

pub record Work : Type 0 where
  pub net : Net
  pub frame : ℕ
  pub jobs : List Job
  pub before : Relation

abbrev pub job_of : List Job → ℕ → Job
job_of jobs j = get_or jobs j no_job

-- "job i precedes job j when i < j and they are of one process or of related processes"
unfoldable pub precedes_by : Relation → List Job → ℕ → ℕ → Bool
precedes_by ahead jobs i j =
    ltb i j && (eqb (job_of jobs i).process (job_of jobs j).process || related ahead (job_of jobs i).process (job_of jobs j).process)

unfoldable pub work_of : Net → Work
work_of net =
    let ahead = comes_before (length net.processes) net.pairs in
    let frame = frame_length net.processes in
    let jobs = sequence_to net.processes ahead frame in
    record { net = net; frame = frame; jobs = jobs; before = relation (length jobs) (precedes_by ahead jobs) }

-- J, and of job j: its process, its release, its absolute deadline, and what it costs in a plan
abbrev pub job_count_of : Work → ℕ
job_count_of w = length w.jobs

abbrev pub process_of : Work → ℕ → ℕ
process_of w j = (job_of w.jobs j).process

abbrev pub release : Work → ℕ → ℕ
release w j = (job_of w.jobs j).release

abbrev pub deadline : Work → ℕ → ℕ
deadline w j = (job_of w.jobs j).deadline

abbrev pub cost : Work → ℕ → ℕ
cost w j = (job_of w.jobs j).budget

abbrev pub precedes : Work → ℕ → ℕ → Bool
precedes w i j = holds w.before i j

-- the work of a file
unfoldable pub load_work : List ℕ → Result Work
load_work file = and_then (load file) λ net. done (work_of net)
