-- What is promised of every turn run whose call is done: whatever the plan and the turns, what has finished is what the zero-delay run gives;
-- the run goes forward; and a job stays on its processor and is not interrupted.
use Rattle.std.specs.Prelude.{ℕ, suc, ◌+◌, ◌*◌, ◌≤◌, ◌<◌, ◌≡◌, ◌≢◌, false, List, length, get_or}
use Rattle.reply.specs.Result.{done}
use Rattle.network.specs.Net.{Net}
use Rattle.network.specs.Read.{load}
use Rattle.graph.specs.Work.{work_of, job_count_of}
use Rattle.machine.specs.WholeJob.{blank}
use Rattle.machine.specs.Samples.{sample_at}
use Rattle.plan.specs.Plan.{processor_at}
use Rattle.zero_delay.specs.ZeroDelay.{Sofar, zero_delay}
use Rattle.promises.specs.Turns.{Between, Run, is_finished, stand_of, waits}
use Rattle.promises.specs.TurnLaws.{turns_to}
use Rattle.promises.specs.Accepted.{run_of}
use Rattle.promises.specs.Outputs.{HasFinished}
use Rattle.promises.specs.Actions.{OneAction}

-- ---- the statements

-- P6: what a run of so many frames of J jobs has done (c) is what the zero-delay run does (zero)
pub record AsZeroDelay (J frames : ℕ) (c : Between) (zero : Sofar) : Type 0 where
  -- a job that has finished: its output words are the zero-delay run's
  pub finished : (f j : ℕ) → HasFinished J c f j → sample_at c.words (f * J + j) ≡ sample_at zero.words (f * J + j)
  -- a job that has not: it has left nothing
  pub unfinished : (f j : ℕ) → j < J → ¬ (HasFinished J c f j) → sample_at c.words (f * J + j) ≡ blank
  -- no more frames have finished than were asked for
  pub within : c.frames ≤ frames
  -- when the last frame has: the same output words
  pub words : c.frames ≡ frames → c.words ≡ zero.words
  -- and the same variables, queues, boards and loss counts
  pub state : c.frames ≡ frames → c.state ≡ zero.state

-- P7: a run on m processors goes forward; `turns_to r list t` is what stands after the first t turns
pub record GoesForward (r : Run) (m : ℕ) (list : List ℕ) : Type 0 where
  -- each turn works or waits
  pub counted : (t : ℕ) → t ≤ length list → (turns_to r list t).working + (turns_to r list t).waiting ≡ t
  -- "in any stretch of turns that names each processor once or more, with a job left to do at its end, at least one turn works"
  pub stretch : (from to : ℕ) → from ≤ to → to ≤ length list
      → ((q : ℕ) → q < m → (k : ℕ) × (from ≤ k) × (k < to) × (get_or list k 0 ≡ q))
      → (turns_to r list to).frames < r.asked
      → (turns_to r list from).working < (turns_to r list to).working
  -- "a finished frame took at most 25·J working turns": a stretch that stays in one frame, and one turn more, which may finish it
  pub one_frame : (from to : ℕ) → from ≤ to → to < length list
      → (turns_to r list from).frames < r.asked
      → (turns_to r list to).frames ≡ (turns_to r list from).frames
      → (turns_to r list (suc to)).working ≤ (turns_to r list from).working + 25 * job_count_of r.work
  -- and all frames together
  pub all_frames : (t : ℕ) → (turns_to r list t).frames ≡ r.asked → (turns_to r list t).working ≤ r.asked * (25 * job_count_of r.work)
  -- a turn that does not work changes nothing but the count of waiting turns
  pub waiting : (t : ℕ) → t < length list → (turns_to r list (suc t)).working ≡ (turns_to r list t).working → turns_to r list (suc t) ≡ waits (turns_to r list t)

-- P8: job j is under way on processor p after the first t turns
pub record Uninterrupted (r : Run) (list : List ℕ) : Type 0 where
  -- it is there by the plan, so it is under way nowhere else
  pub planned : (t p j : ℕ) → (stand_of (turns_to r list t) p).job ≡ suc j → processor_at r.plan j ≡ p
  -- it has not finished
  pub unfinished : (t p j : ℕ) → (stand_of (turns_to r list t) p).job ≡ suc j → is_finished (turns_to r list t) j ≡ false
  -- the turn of another processor leaves it as it is
  pub others : (t p j : ℕ) → t < length list → (stand_of (turns_to r list t) p).job ≡ suc j → get_or list t 0 ≢ p
      → stand_of (turns_to r list (suc t)) p ≡ stand_of (turns_to r list t) p
  -- the turn of its own processor does one action of it
  pub own : (t p j : ℕ) → t < length list → (stand_of (turns_to r list t) p).job ≡ suc j → get_or list t 0 ≡ p
      → OneAction r p j (turns_to r list t) (turns_to r list (suc t))
  -- and whatever job finishes, of whatever frame, finishes by a turn of its planned processor
  pub finishes : (t f j : ℕ) → t < length list → ¬ (HasFinished (job_count_of r.work) (turns_to r list t) f j)
      → HasFinished (job_count_of r.work) (turns_to r list (suc t)) f j → processor_at r.plan j ≡ get_or list t 0

-- of a call that is done, and comes to c
pub record Promised (file : List ℕ) (m frames : ℕ) (plan input list output : List ℕ) (c : Between) : Type 0 where
  -- the network of the file
  pub net : Net
  pub read : load file ≡ done net
  -- the zero-delay run of the same file, frames and input is done too
  pub zero : Sofar
  pub ran : zero_delay file frames input output ≡ done zero
  -- both have two words for each job, and the output memory has room for them
  pub long : length c.words ≡ 2 * (job_count_of (work_of net) * frames)
  pub zero_long : length zero.words ≡ 2 * (job_count_of (work_of net) * frames)
  pub room : 2 * (job_count_of (work_of net) * frames) ≤ length output
  -- c is what stands after all turns
  pub last : turns_to (run_of net frames plan input) list (length list) ≡ c
  pub as_zero_delay : AsZeroDelay (job_count_of (work_of net)) frames c zero
  pub goes_forward : GoesForward (run_of net frames plan input) m list
  pub uninterrupted : Uninterrupted (run_of net frames plan input) list

-- two runs of one file do not disagree on a job that both have finished
pub record Agreeing (file : List ℕ) (c c' : Between) : Type 0 where
  pub net : Net
  pub read : load file ≡ done net
  pub same : (f j : ℕ) → HasFinished (job_count_of (work_of net)) c f j → HasFinished (job_count_of (work_of net)) c' f j
      → sample_at c.words (f * job_count_of (work_of net) + j) ≡ sample_at c'.words (f * job_count_of (work_of net) + j)
