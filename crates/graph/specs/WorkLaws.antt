-- The work of a valid network: what a job of it is, in which order its jobs stand, and which precedes which, in plain words.
use Rattle.std.specs.Prelude.{ℕ, ◌<◌, ◌≡◌, ◌⊎◌, true}
use Rattle.std.proofs.Math.Path.{refl}
use Rattle.network.specs.Chains.{relation}
use Rattle.network.specs.Frame.{frame_length}
use Rattle.network.specs.Net.{Net}
use Rattle.network.specs.Valid.{Valid}
use Rattle.graph.specs.Work.{Work, work_of, job_of, precedes_by, job_count_of, process_of, precedes}
use Rattle.graph.specs.OrderLaws.{order_of, Related, order_ranked}
use Rattle.graph.specs.SequenceLaws.{JobBefore, InOrder, sequence_each, sequence_ordered}
use Rattle.graph.specs.FrameJobs.{jobs_of_frame}

-- ---- the parts of a network's work

module _ (net : Net) where
  pub work_net : (work_of net).net ≡ net
  unfolding work_of
  work_net = refl

  pub work_frame : (work_of net).frame ≡ frame_length net.processes
  unfolding work_of
  work_frame = refl

  pub work_jobs : (work_of net).jobs ≡ jobs_of_frame net
  unfolding work_of
  work_jobs = refl

  pub work_before : (work_of net).before ≡ relation (job_count_of (work_of net)) (precedes_by (order_of net) (work_of net).jobs)
  unfolding work_of
  work_before = refl

-- ---- what is meant

-- `precedes` stands among the jobs, and goes from lower to higher numbers alone
pub record Forward (w : Work) : Type 0 where
  pub within : (i j : ℕ) → precedes w i j ≡ true → (i < job_count_of w) × (j < job_count_of w)
  pub forward : (i j : ℕ) → precedes w i j ≡ true → i < j

-- job i precedes job j: it has the lower number, and they are of one process or of related processes
pub record Precedes (net : Net) (i j : ℕ) : Type 0 where
  pub lower : i < j
  pub below : j < job_count_of (work_of net)
  pub tied : (process_of (work_of net) i ≡ process_of (work_of net) j) ⊎ Related net (process_of (work_of net) i) (process_of (work_of net) j)

module _ (net : Net) (ok : Valid net) where
  abbrev w : Work
  w = work_of net

  -- ---- the jobs

  pub job_is : (j : ℕ) → j < job_count_of (work_of net) → JobBefore net.processes (work_of net).frame (job_of (work_of net).jobs j)
  unfolding work_of
  job_is j h = (sequence_each net.processes (order_of net) (order_ranked net ok) (frame_length net.processes)).at j h

  pub jobs_ordered : (i j : ℕ) → i < j → j < job_count_of (work_of net) → InOrder (order_of net) (job_of (work_of net).jobs i) (job_of (work_of net).jobs j)
  unfolding work_of
  jobs_ordered i j l h = (sequence_ordered net.processes (order_of net) (order_ranked net ok) (frame_length net.processes)).at i j l h
