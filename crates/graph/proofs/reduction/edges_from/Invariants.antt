-- `reduction::edges_from` meets its contract. The loop's invariant is `ReducedSoFar`.
use Rattle.std.proofs.Common.{length}
use Rattle.graph.proofs.Descendants.{ReducedSoFar}
use Rattle.graph.proofs.reduction.edges_from.Given as goal

abbrev pub invariant-loop-i : goal.invariant-loop-i
invariant-loop-i l = ReducedSoFar (length l.after) l.after l.i l.reached l.edges
