-- The loop over the processes that counts their jobs: one process more.
use Rattle.std.specs.Prelude.{ℕ, ◌+◌, ◌≡◌, List}
use Rattle.std.proofs.Common.{add-one}
use Rattle.reply.specs.Tools.{sum}
use Rattle.reply.specs.Counts.{sum_suc}
use Rattle.network.specs.Frame.{process_at, jobs_of}
use Rattle.network.specs.declared.Process.{Process}

pub jobs_more : (frame : ℕ) (processes : List Process) (i : ℕ)
    → sum (i + 1) (λ k. jobs_of frame (process_at processes k)) ≡ sum i (λ k. jobs_of frame (process_at processes k)) + jobs_of frame (process_at processes i)
jobs_more frame processes i = rw (add-one i) (sum_suc i (λ k. jobs_of frame (process_at processes k)))
