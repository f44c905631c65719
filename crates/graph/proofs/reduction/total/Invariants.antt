-- `reduction::total` meets its contract. The loop's invariant is `CountedSoFar`.
use Rattle.graph.proofs.Totals.{CountedSoFar}
use Rattle.graph.proofs.reduction.total.Given as goal

abbrev pub invariant-loop-row : goal.invariant-loop-row
invariant-loop-row l = CountedSoFar l.rows l.row-index l.sum
