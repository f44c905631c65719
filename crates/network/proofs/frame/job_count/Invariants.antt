-- `frame::job_count` meets its contract. The loop's invariant: the jobs of the processes so far; 2000 jobs times a burst below 2 ^ 32 each, at most.
use Rattle.std.proofs.Common.{◌≡◌, ◌≤◌, ◌*◌}
use Rattle.reply.specs.Tools.{sum}
use Rattle.network.specs.Frame.{process_at, jobs_of}
use Rattle.network.proofs.frame.job_count.Given as goal

abbrev pub invariant-loop-process : goal.invariant-loop-process
invariant-loop-process l = record {
  is : l.jobs ≡ sum l.process-index (λ k. jobs_of l.frame (process_at l.processes k));
  most : l.jobs ≤ l.process-index * 8589934592000;
}
