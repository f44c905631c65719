-- `sequence::released_at` meets its contract. The loop's invariant is `ReleasedSoFar`.
use Rattle.graph.proofs.ReleasedLoop.{ReleasedSoFar}
use Rattle.graph.proofs.sequence.released_at.Given as goal

abbrev pub invariant-loop-i : goal.invariant-loop-i
invariant-loop-i l = ReleasedSoFar l.processes l.time l.frame l.initial.due l.i l.pending l.next l.due
