-- `precedence::jobs_of_each` meets its contract.
use Rattle.std.proofs.Common.{ap, arith, replicate}
use Rattle.marks.specs.declared.Row.{Row}
use Rattle.graph.proofs.BeforeJobs.{jobs_begin, jobs_go_on, place}
use Rattle.graph.proofs.precedence.jobs_of_each.Goals as goal

pub loop-j-init : goal.loop-j-init
loop-j-init c = jobs_begin _ _ (ap (λ (r : Row). replicate 12 r) c.empty-rows.ensures)

pub loop-j-preserved : goal.loop-j-preserved
loop-j-preserved c = let told = c.requires in
    jobs_go_on _ _ _ (omega (arith, c.loop-j-test.true, told.few_jobs)) (place _ _ _ told _ c.loop-j-test.true) c.loop-j.invariant _ c.with.ensures
