-- `precedence::related_rows` meets its contract. The loop's invariant is `RelatedSoFar`.
use Rattle.std.proofs.Common.{length}
use Rattle.graph.proofs.BeforeJobs.{RelatedSoFar}
use Rattle.graph.proofs.precedence.related_rows.Given as goal

abbrev pub invariant-loop-p : goal.invariant-loop-p
invariant-loop-p l = RelatedSoFar (length l.ahead) l.jobs l.ahead l.p l.rows
