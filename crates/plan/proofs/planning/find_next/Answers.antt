-- `planning::find_next` meets its contract.
use Rattle.std.proofs.Common.{arith}
use Rattle.plan.proofs.PlanLoops.{found_low, one_found}
use Rattle.plan.proofs.planning.find_next.Goals as goal

pub offset_bounds-framed-job : goal.offset_bounds-framed-job
offset_bounds-framed-job c = omega (arith, found_low _ _ _ c.unwrap-job.ensures c.choose.ensures, c.requires.1)

pub bounds-framed-job : goal.bounds-framed-job
bounds-framed-job c = omega (arith, found_low _ _ _ c.unwrap-job.ensures c.choose.ensures, c.requires.1)

pub offset_bounds-framed-job-2 : goal.offset_bounds-framed-job-2
offset_bounds-framed-job-2 c = omega (arith, found_low _ _ _ c.unwrap-job.ensures c.choose.ensures, c.requires.1)

pub bounds-framed-job-2 : goal.bounds-framed-job-2
bounds-framed-job-2 c = omega (arith, found_low _ _ _ c.unwrap-job.ensures c.choose.ensures, c.requires.1)

pub ready_at-ready-requires : goal.ready_at-ready-requires
ready_at-ready-requires c = omega (arith, found_low _ _ _ c.unwrap-job.ensures c.choose.ensures, c.requires.1)

pub unwrap-processor-requires : goal.unwrap-processor-requires
unwrap-processor-requires c = one_found _ c.requires.2 c.earliest.ensures

pub offset_bounds-placed-processor : goal.offset_bounds-placed-processor
offset_bounds-placed-processor c = omega (arith, found_low _ _ _ c.unwrap-processor.ensures c.earliest.ensures, c.requires.3)

pub bounds-placed-processor : goal.bounds-placed-processor
bounds-placed-processor c = omega (arith, found_low _ _ _ c.unwrap-processor.ensures c.earliest.ensures, c.requires.3)

pub returns : goal.returns
returns c = record {
  job_is = (found_low _ _ _ c.unwrap-job.ensures c.choose.ensures).1;
  ready = _;
  ready_is = c.ready_at-ready.ensures;
  processor_is = (found_low _ _ _ c.unwrap-processor.ensures c.earliest.ensures).1;
  start_is = c.max-start.ensures;
}
