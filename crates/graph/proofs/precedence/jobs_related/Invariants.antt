-- `precedence::jobs_related` meets its contract. The loop's invariant is `JoinedSoFar`.
use Rattle.graph.proofs.BeforeJobs.{JoinedSoFar}
use Rattle.graph.proofs.precedence.jobs_related.Given as goal

abbrev pub invariant-loop-q : goal.invariant-loop-q
invariant-loop-q l = JoinedSoFar l.jobs l.ahead l.p l.q l.row
