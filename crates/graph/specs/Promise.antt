-- What is promised of every valid network: its frame is the least common multiple of the periods; every job of the frame stands in the sequence once,
-- by release and with what comes before another first; and which job precedes which.
use Rattle.std.specs.Prelude.{ℕ, ◌+◌, ◌%◌, ◌≤◌, ◌<◌, ◌≡◌, refl, true, cond, ◌&&◌, List, eqb, length, get_or}
use Rattle.std.proofs.Common.{sym, subst, arith, eqb-true}
use Rattle.std.proofs.Math.Decide.{dec_lt, ℕ_discrete}
use Rattle.reply.specs.Tools.{count}
use Rattle.reply.specs.Tests.{clash}
use Rattle.reply.specs.Result.{done}
use Rattle.reply.specs.ResultLaws.{done_same, accepted}
use Rattle.network.specs.Frame.{process_at, frame_length, jobs_of, job_count}
use Rattle.network.specs.Net.{Net}
use Rattle.network.specs.Read.{load}
use Rattle.network.specs.Valid.{Valid, GoodProcess}
use Rattle.network.specs.declared.Process.{Process}
use Rattle.roundtrip.specs.Promise.{read_valid}
use Rattle.graph.specs.Sequence.{released_at, released_now, is_free, take_jobs, pending_count, sequence_to}
use Rattle.graph.specs.Work.{Work, work_of, job_count_of, process_of, release, deadline, cost, precedes, load_work}
use Rattle.graph.specs.OrderLaws.{order_of, Before, Paired, Joins, order_ranked, order_complete, order_apart}
use Rattle.graph.specs.TakeLaws.{some_free, take_length}
use Rattle.graph.specs.Releases.{next_multiple}
use Rattle.graph.specs.FrameJobs.{Frame, frame_is, all_jobs, jobs_some, jobs_most, jobs_of_each, jobs_at, sequence_most, released_fits}
use Rattle.graph.specs.WorkLaws.{Forward, Precedes, job_is, jobs_ordered}

-- the process of job j
abbrev pub process_for : Net → ℕ → Process
process_for net j = process_at net.processes (process_of (work_of net) j)

-- ---- the statements

-- what job j is
pub record JobIs (net : Net) (j : ℕ) : Type 0 where
  -- its process is one of the network's
  pub process : process_of (work_of net) j < length net.processes
  -- it is released at a multiple of its period
  pub released : release (work_of net) j % (process_for net j).period ≡ 0
  -- and before the frame ends
  pub early : release (work_of net) j < (work_of net).frame
  -- its deadline is its release plus the deadline of its process
  pub due : deadline (work_of net) j ≡ release (work_of net) j + (process_for net j).deadline
  -- and not past the end of the frame
  pub in_frame : deadline (work_of net) j ≤ (work_of net).frame
  -- it costs the budget of its process
  pub costs : cost (work_of net) j ≡ (process_for net j).budget
  -- which is a tick or more
  pub worth : 1 ≤ cost (work_of net) j
  -- and fits between its release and its deadline
  pub fits : release (work_of net) j + cost (work_of net) j ≤ deadline (work_of net) j

-- the jobs of one frame, by number
pub record Jobs (net : Net) : Type 0 where
  -- the frame is the least common multiple of the periods, at most 2000
  pub frame : Frame net (work_of net).frame
  -- the sequence has as many jobs as the processes have in a frame
  pub all : job_count_of (work_of net) ≡ job_count net.processes
  -- there is a job
  pub some : 1 ≤ job_count_of (work_of net)
  -- there are at most 128 jobs
  pub most : job_count_of (work_of net) ≤ 128
  -- each process has its own number of jobs
  pub of_each : (p : ℕ) → p < length net.processes
      → count (job_count_of (work_of net)) (λ j. eqb (process_of (work_of net) j) p) ≡ jobs_of (work_of net).frame (process_at net.processes p)
  -- each process has as many jobs as its burst at each of its releases, and none at other times
  pub at_each : (p t : ℕ) → t < (work_of net).frame
      → count (job_count_of (work_of net)) (λ j. eqb (process_of (work_of net) j) p && eqb (release (work_of net) j) t)
      ≡ cond (released_at (process_at net.processes p) t) (process_at net.processes p).burst 0
  -- what each job is
  pub each : (j : ℕ) → j < job_count_of (work_of net) → JobIs net j
  -- the sequence goes by release
  pub sorted : (i j : ℕ) → i < j → j < job_count_of (work_of net) → release (work_of net) i ≤ release (work_of net) j
  -- a job released earlier has the lower number; so the jobs of one process are numbered in order of release
  pub by_release : (i j : ℕ) → i < job_count_of (work_of net) → j < job_count_of (work_of net) → release (work_of net) i < release (work_of net) j → i < j
  -- of jobs released together, the one whose process comes before the other's has the lower number
  pub together : (i j : ℕ) → i < job_count_of (work_of net) → j < job_count_of (work_of net) → release (work_of net) i ≡ release (work_of net) j
      → Before net (process_of (work_of net) i) (process_of (work_of net) j) → i < j

-- which job precedes which
pub record Precedence (net : Net) : Type 0 where
  -- `precedes` stands among the jobs, and goes from lower to higher numbers alone
  pub forward : Forward (work_of net)
  -- it holds only where the words say so
  pub sound : (i j : ℕ) → precedes (work_of net) i j ≡ true → Precedes net i j
  -- and wherever they say so
  pub complete : (i j : ℕ) → Precedes net i j → precedes (work_of net) i j ≡ true
  -- two jobs of one process are in order
  pub one_process : (i j : ℕ) → i < j → j < job_count_of (work_of net) → process_of (work_of net) i ≡ process_of (work_of net) j → precedes (work_of net) i j ≡ true
  -- two jobs whose processes have a pair of their own are in order
  pub one_pair : (i j : ℕ) → i < j → j < job_count_of (work_of net) → Paired net (process_of (work_of net) i) (process_of (work_of net) j) → precedes (work_of net) i j ≡ true
  -- two jobs whose processes are the ends of one channel are in order
  pub one_channel : (i j k : ℕ) → i < j → j < job_count_of (work_of net) → k < length net.channels
      → Joins net k (process_of (work_of net) i) (process_of (work_of net) j) → precedes (work_of net) i j ≡ true

-- ---- the proofs

module _ (net : Net) (ok : Valid net) where
  abbrev w : Work
  w = work_of net

  -- whatever jobs are pending, a process with a pending job is free
  pub never_stuck : (pending : List ℕ) (i : ℕ) → 0 < get_or pending i 0 → (p : ℕ) × (p < length pending) × (is_free (order_of net) pending p ≡ true)
  never_stuck pending i h = some_free (order_of net) (order_ranked net ok) pending i h

  -- so as many jobs are taken as are pending
  pub none_left_over : (pending : List ℕ) → length (take_jobs (pending_count pending) (order_of net) pending) ≡ pending_count pending
  none_left_over pending = take_length (order_of net) (order_ranked net ok) (pending_count pending) pending refl

  -- before any time of the frame there are no more than 128 jobs
  pub never_full : (t : ℕ) → t ≤ frame_length net.processes → length (sequence_to net.processes (order_of net) t) ≤ 128
  never_full t h = sequence_most net ok t h

  -- and the jobs that a time releases find room after those before it
  pub room_for_more : (t : ℕ) → t < frame_length net.processes
      → length (sequence_to net.processes (order_of net) t) + pending_count (released_now net.processes t) ≤ 128
  room_for_more t h = released_fits net ok t h

  the_frame : Frame net (work_of net).frame
  unfolding work_of
  the_frame = frame_is net ok

  the_job : (j : ℕ) → j < job_count_of (work_of net) → JobIs net j
  the_job j h =
      let b = job_is net ok j h in
      let g : GoodProcess (process_for net j) = ok.processes (process_of w j) b.process in
      let r : release w j % (process_for net j).period ≡ 0 = eqb-true _ _ b.at in
      record {
        process = b.process;
        released = r;
        early = b.early;
        due = b.deadline;
        in_frame = omega (
          arith,
          b.deadline,
          g.deadline.1,
          next_multiple (process_for net j).period g.period.0 (release w j) w.frame r (the_frame.divided (process_of w j) b.process) b.early,
        );
        costs = b.budget;
        worth = omega (arith, b.budget, g.budget.0);
        fits = omega (arith, b.budget, b.deadline, g.budget.1);
      }

  the_sorted : (i j : ℕ) → i < j → j < job_count_of (work_of net) → release (work_of net) i ≤ release (work_of net) j
  the_sorted i j l h = (jobs_ordered net ok i j l h).sorted

  the_by_release : (i j : ℕ) → i < job_count_of (work_of net) → j < job_count_of (work_of net) → release (work_of net) i < release (work_of net) j → i < j
  the_by_release i j hi hj r = elim (dec_lt i j) [
    | yes l ↦ l
    | no l ↦ elim (ℕ_discrete i j) [
      | yes z ↦ let r' : release w j < release w j = subst (λ k. release w k < release w j) z r in absurd (omega arith)
      | no d ↦ absurd (omega (arith, the_sorted j i (omega arith) hi))
    ]
  ]

  the_together : (i j : ℕ) → i < job_count_of (work_of net) → j < job_count_of (work_of net) → release (work_of net) i ≡ release (work_of net) j
      → Before net (process_of (work_of net) i) (process_of (work_of net) j) → i < j
  the_together i j hi hj e c = elim (dec_lt i j) [
    | yes l ↦ l
    | no l ↦ elim (ℕ_discrete i j) [
      | yes z ↦ clash (order_complete net ok _ _ (subst (λ k. Before net (process_of w i) (process_of w k)) (sym z) c)) (order_apart net ok (process_of w i))
      | no d ↦ clash (order_complete net ok _ _ c) ((jobs_ordered net ok j i (omega arith) hi).order (sym e))
    ]
  ]

  -- the jobs of a valid network are as stated
  pub jobs_are : Jobs net
  unfolding work_of
  jobs_are = record {
    frame = the_frame;
    all = all_jobs net ok;
    some = jobs_some net ok;
    most = jobs_most net ok;
    of_each = jobs_of_each net ok;
    at_each = jobs_at net ok;
    each = the_job;
    sorted = the_sorted;
    by_release = the_by_release;
    together = the_together;
  }

-- the work of an accepted file is that of a valid network
pub file_work : (file : List ℕ) (w : Work) → load_work file ≡ done w → (net : Net) × (load file ≡ done net) × Valid net × (w ≡ work_of net)
unfolding load_work
file_work file w e = accepted (load file) (λ net. done (work_of net)) w e (λ net l m. (net, l, read_valid file net l, sym (done_same m)))
