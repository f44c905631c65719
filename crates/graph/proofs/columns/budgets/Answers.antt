-- `columns::budgets` meets its contract.
use Rattle.std.proofs.Common.{arith, refl}
use Rattle.graph.proofs.ColumnLoop.{start, turn, finish}
use Rattle.graph.proofs.columns.budgets.Goals as goal

pub loop-j-init : goal.loop-j-init
loop-j-init c = start

pub loop-j-preserved : goal.loop-j-preserved
loop-j-preserved c = turn c.loop-j.invariant (omega (arith, c.loop-j-test.true)) refl

pub returns : goal.returns
returns c = finish c.loop-j.invariant (omega (arith, c.loop-j-test.false))
