-- `precedence::rows_by` meets its contract. The loop's invariant is `PartsSoFar`.
use Rattle.graph.proofs.BeforeJobs.{PartsSoFar}
use Rattle.graph.proofs.precedence.rows_by.Given as goal

abbrev pub invariant-loop-j : goal.invariant-loop-j
invariant-loop-j g l = PartsSoFar (goal.F-post g l.part) l.related l.jobs l.j l.passed l.rows
