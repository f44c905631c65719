-- What is promised of the channels of every run: "For each queue, over the whole run: writes tried = values taken + values held + writes that met a full queue";
-- and what one frame leaves in them, the next one finds.
use Prim.Native.Nat.{ℕ, zero, suc, ◌+◌, ◌*◌, ◌≤◌, ◌<◌}
use Rattle.std.specs.Prelude.{◌≡◌, ◌≢◌, List, ◌++◌, drop}
use Rattle.std.proofs.Math.Path.{refl}
use Rattle.std.proofs.Common.{ap, ◌∙◌}
use native.Mathlib.Omega.{arith}
use Rattle.std.proofs.Math.ListN.{length}
use Rattle.std.proofs.lemmas.List.{get_or-replicate}
use Rattle.graph.specs.Work.{Work, job_count_of, process_of}
use Rattle.machine.specs.State.{Contents, State, nothing, start_state, contents_of}
use Rattle.machine.specs.Actions.{channel_of}
use Rattle.machine.specs.WholeJob.{program_of, started, go_on, whole_job}
use Rattle.machine.specs.Samples.{sample_at}
use Rattle.machine.specs.Ledger.{tried_by, taken_by, held_and_lost, ShortPrograms, board_go_on_loss, board_go_on_held, queue_go_on_held, go_on_size, job_law}
use Rattle.machine.specs.declared.Sample.{Sample}
use Rattle.machine.specs.declared.Under.{Under}
use Rattle.zero_delay.specs.ZeroDelay.{jobs_done, process_in, ran_jobs}
use Rattle.zero_delay.specs.RunLaws.{jobs_keep, jobs_loss, frame_more}

-- ---- the statements

-- writes tried on channel c and values taken from it, over the first k jobs of a run
unfoldable pub tried_in : ℕ → Work → List ℕ → ℕ → ℕ
tried_in c w input zero = 0
tried_in c w input (suc k) = tried_in c w input k + tried_by c w.net (process_in w k) (sample_at input k) (ran_jobs w input k).state

unfoldable pub taken_in : ℕ → Work → List ℕ → ℕ → ℕ
taken_in c w input zero = 0
taken_in c w input (suc k) = taken_in c w input k + taken_by c w.net (process_in w k) (sample_at input k) (ran_jobs w input k).state

-- channel c after the first k jobs
abbrev pub channel_after : Work → List ℕ → ℕ → ℕ → Contents
channel_after w input k c = contents_of c (ran_jobs w input k).state

pub record Ledger (w : Work) (input : List ℕ) (k c : ℕ) : Type 0 where
  -- a queue: writes tried are values taken, values held, and writes that met it full
  pub queue : (channel_of w.net c).kind ≢ 1
      → tried_in c w input k ≡ taken_in c w input k + length (channel_after w input k c).held + (channel_after w input k c).loss
  -- it holds at most its capacity
  pub room : (channel_of w.net c).kind ≢ 1 → length (channel_after w input k c).held ≤ (channel_of w.net c).capacity
  -- a board holds at most one value and loses none
  pub board : (channel_of w.net c).kind ≡ 1 → (length (channel_after w input k c).held ≤ 1) × ((channel_after w input k c).loss ≡ 0)
  -- programs of at most 24 actions lose at most 24 values in each job
  pub few : ShortPrograms w.net → (channel_after w input k c).loss ≤ 24 * k

-- ---- the proofs

module _ (w : Work) (input : List ℕ) (c : ℕ) (small : c < 16) where
  starts_empty : contents_of c start_state ≡ nothing
  starts_empty = get_or-replicate 16 c nothing nothing small

  -- what nothing has, and what the rest of every job keeps, the channel has in the whole run
  kept : (P : Contents → Type 0) → P nothing
      → ((most p : ℕ) (x : Sample) (u : Under) (s : State) → P (contents_of c s) → P (contents_of c (go_on most w.net p x u s).state))
      → (k : ℕ) → P (channel_after w input k c)
  unfolding ran_jobs whole_job
  kept P h keep k = jobs_keep (λ s. P (contents_of c s)) w.net (process_in w) input (λ p x s. keep (length (program_of w.net p)) p x started s) start_state k (rw starts_empty h)

  size : (k : ℕ) → length (ran_jobs w input k).state.channels ≡ 16
  unfolding ran_jobs whole_job
  size k = jobs_keep (λ s. length s.channels ≡ 16) w.net (process_in w) input
      (λ p x s e. go_on_size w.net (length (program_of w.net p)) p x started s ∙ e) start_state k refl

  balance : (channel_of w.net c).kind ≢ 1 → (k : ℕ) → held_and_lost (channel_after w input k c) + taken_in c w input k ≡ tried_in c w input k
  unfolding ran_jobs jobs_done taken_in tried_in whole_job
  balance queue zero = rw starts_empty
  balance queue (suc k) = omega (
    arith,
    balance queue k,
    job_law w.net c queue (length (program_of w.net (process_in w k))) (process_in w k) (sample_at input k) started (ran_jobs w input k).state (omega (arith, size k)),
  )

-- the ledger of every channel, after any number of jobs
pub ledger : (w : Work) (input : List ℕ) (k c : ℕ) → c < 16 → Ledger w input k c
unfolding ran_jobs
ledger w input k c small = record {
  queue = λ q. omega (arith, balance w input c small q k);
  room = λ q. kept w input c small (λ y. length y.held ≤ (channel_of w.net c).capacity) (omega arith) (queue_go_on_held w.net c q) k;
  board = λ b. (
    kept w input c small (λ y. length y.held ≤ 1) (omega arith) (board_go_on_held w.net c b) k,
    kept w input c small (λ y. y.loss ≡ 0) refl (λ most p x u s e. board_go_on_loss w.net c b most p x u s ∙ e) k,
  );
  few = λ short. omega (arith, ap (λ (y : Contents). y.loss) (starts_empty w input c small), jobs_loss w.net short c (process_in w) input start_state k);
}

-- queues and boards keep their values from frame to frame: a frame's jobs go on from the state that the frames before it leave
pub frame_to_frame : (w : Work) (input : List ℕ) (f : ℕ)
    → let before = ran_jobs w input (f * job_count_of w) in
    let frame = jobs_done w.net (λ j. process_of w j) (drop (2 * (f * job_count_of w)) input) before.state (job_count_of w) in
    ((ran_jobs w input (f * job_count_of w + job_count_of w)).state ≡ frame.state) × ((ran_jobs w input (f * job_count_of w + job_count_of w)).words ≡ before.words ++ frame.words)
unfolding ran_jobs
frame_to_frame w input f = frame_more w input start_state f
