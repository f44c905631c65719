use Rattle.std.proofs.Common.{arith, ◌∙◌, sym, ap₂, ◌+◌}
use Rattle.network.proofs.FrameLoops.{jobs_more}
use Rattle.network.proofs.frame.job_count.Goals as goal

pub loop-process-preserved : goal.loop-process-preserved
loop-process-preserved c = record {
  is = ap₂ (λ x y. x + y) c.loop-process.invariant.is c.jobs_of-jobs.ensures.0 ∙ sym (jobs_more c.args.frame c.args.processes.now c.loop-process.process-index);
  most = omega (arith, c.loop-process.invariant.most, c.jobs_of-jobs.ensures.1);
}
