-- What is promised of a call of the turn run, in terms of what it returns and of the output memory. It stands in the contract of `run`.
use Rattle.std.specs.Prelude.{ℕ, ◌+◌, ◌*◌, ◌≤◌, ◌<◌, ◌≡◌, ◌⊎◌, length, get_or}
use mathlib.Core.List.{List}
use Rattle.reply.specs.Result.{done}
use Rattle.reply.specs.declared.Reply.TheVariants.{Done}
use Rattle.network.specs.Net.{Net}
use Rattle.network.specs.Read.{load}
use Rattle.graph.specs.Work.{work_of, job_count_of}
use Rattle.machine.specs.WholeJob.{blank}
use Rattle.machine.specs.Samples.{sample_at}
use Rattle.zero_delay.specs.ZeroDelay.{zero_delay, ran_of, filled_by}
use Rattle.zero_delay.specs.declared.Ran.{Ran}
use Rattle.promises.specs.Turns.{Between}
use Rattle.promises.specs.Promise.{Promised}
use Rattle.turns.specs.Turned.{turned_of}
use Rattle.turns.specs.declared.TurnRan.{TurnRan}

-- ---- the statements

-- P6: what the run returned (r) and left in the output memory (after), beside what the zero-delay run of the same file, frames, input and memory
-- returns (z) and leaves (kept); J jobs in a frame
pub record AsZeroDelayRun (J frames : ℕ) (r : TurnRan) (after : List ℕ) (z : Ran) (kept : List ℕ) : Type 0 where
  -- every job of a frame that has finished: its output is the zero-delay run's
  pub finished : (f j : ℕ) → f < r.frames → j < J → sample_at after (f * J + j) ≡ sample_at kept (f * J + j)
  -- every other job too, or it has not finished and has left (0, 0)
  pub either : (f j : ℕ) → f < frames → j < J → (sample_at after (f * J + j) ≡ sample_at kept (f * J + j)) ⊎ (sample_at after (f * J + j) ≡ blank)
  -- when the last frame has finished: the output memory word for word
  pub memory : r.frames ≡ frames → after ≡ kept
  -- and all variables; what each queue and board holds, and each loss count
  pub variables : r.frames ≡ frames → r.variables ≡ z.variables
  pub channels : r.frames ≡ frames → r.channels ≡ z.channels

-- P7: the turns that it counted, on m processors
pub record Forward (J m frames : ℕ) (list : List ℕ) (r : TurnRan) : Type 0 where
  -- each turn worked or waited
  pub counted : r.working + r.waiting ≡ length list
  -- if the turns named each processor once or more, and a job is left to do, one of them worked
  pub worked : ((q : ℕ) → q < m → (k : ℕ) × (k < length list) × (get_or list k 0 ≡ q)) → r.frames < frames → 0 < r.working
  -- all frames took at most 25·J working turns each
  pub at_most : r.frames ≡ frames → r.working ≤ frames * (25 * J)

-- of a call that is done
pub record Kept (file : List ℕ) (m frames : ℕ) (plan input list before : List ℕ) (r : TurnRan) (after : List ℕ) : Type 0 where
  -- the network of the file
  pub net : Net
  pub read : load file ≡ done net
  -- the zero-delay run is done too
  pub in_order : (ran_of (zero_delay file frames input before)).answer.reply ≡ Done
  pub as_zero_delay : AsZeroDelayRun (job_count_of (work_of net)) frames r after
      (ran_of (zero_delay file frames input before)) (filled_by (zero_delay file frames input before) before)
  pub forward : Forward (job_count_of (work_of net)) m frames list r
  -- turn by turn (P6, P7 and P8): where the run stands, and what has been so after each turn
  pub stands : Between
  pub returned : r ≡ turned_of (done stands)
  pub turn_by_turn : Promised file m frames plan input list before stands

pub record KeepsPromise (file : List ℕ) (m frames : ℕ) (plan input list before : List ℕ) (r : TurnRan) (after : List ℕ) : Type 0 where
  pub kept : r.answer.reply ≡ Done → Kept file m frames plan input list before r after
