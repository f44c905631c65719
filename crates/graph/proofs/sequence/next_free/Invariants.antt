-- `sequence::next_free` meets its contract. The loop's invariant is that no process so far is free; the measure, the processes still to see.
use Rattle.std.proofs.Common.{◌-◌, ◌≤◌}
use Rattle.graph.proofs.FreeLoops.{NoneFree}
use Rattle.graph.proofs.sequence.next_free.Given as goal

abbrev pub invariant-loop-p : goal.invariant-loop-p
invariant-loop-p l = (l.at ≤ 12) × NoneFree l.pending l.first l.at

abbrev pub decreases-loop-p : goal.decreases-loop-p
decreases-loop-p l = 12 - l.at
