-- `reduction::gathered` meets its contract. The loop's invariant is `Gathers`; its measure, the successors that are left.
use Rattle.marks.specs.Row.{count_of}
use Rattle.graph.proofs.Gathering.{Gathers}
use Rattle.graph.proofs.reduction.gathered.Given as goal

abbrev pub invariant-loop-j : goal.invariant-loop-j
invariant-loop-j l = Gathers l.reached l.fn.row l.far l.left

abbrev pub decreases-loop-j : goal.decreases-loop-j
decreases-loop-j l = count_of l.left
