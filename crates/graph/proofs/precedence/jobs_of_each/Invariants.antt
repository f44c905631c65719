-- `precedence::jobs_of_each` meets its contract. The loop's invariant is `JobsSoFar`.
use Rattle.graph.proofs.BeforeJobs.{JobsSoFar}
use Rattle.graph.proofs.precedence.jobs_of_each.Given as goal

abbrev pub invariant-loop-j : goal.invariant-loop-j
invariant-loop-j l = JobsSoFar l.jobs l.j l.rows
