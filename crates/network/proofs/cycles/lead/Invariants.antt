-- `cycles::lead` meets its contract. The outer loop's invariant is `Leads`: the rows mark where chains lead through numbers below k alone; the inner loop's is `RowsSoFar`.
use Rattle.std.proofs.Common.{get_or, length, ◌≡◌}
use Rattle.marks.specs.Row.{marked, no_marks}
use Rattle.network.specs.RowChains.{Leads}
use Rattle.network.proofs.RowSteps.{RowsSoFar}
use Rattle.network.proofs.cycles.lead.Given as goal

abbrev pub invariant-loop-row : goal.invariant-loop-row
invariant-loop-row l = RowsSoFar l.k l.via l.initial.row-items l.row-index l.row-items

abbrev pub invariant-loop-k : goal.invariant-loop-k
invariant-loop-k l = record { size : length l.out ≡ 12; leads : Leads l.n (λ a b. marked (get_or l.initial.out a no_marks) b) l.k l.out }
