-- `reduction::total` meets its contract.
use Rattle.std.proofs.Common.{arith, ◌≤◌}
use Rattle.marks.specs.Laws.{counted_most}
use Rattle.graph.proofs.Totals.{total_begins, total_goes_on}
use Rattle.graph.proofs.reduction.total.Goals as goal

pub loop-row-init : goal.loop-row-init
loop-row-init c = total_begins _

pub overflow_add-sum : goal.overflow_add-sum
overflow_add-sum c =
    let few : c.count-sum.result ≤ 128 = rw c.count-sum.ensures (counted_most _) in
    omega (arith, c.loop-row.invariant.small)

pub loop-row-preserved : goal.loop-row-preserved
loop-row-preserved c = total_goes_on _ _ _ _ c.loop-row.invariant c.count-sum.ensures
