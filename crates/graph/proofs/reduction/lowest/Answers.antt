-- `reduction::lowest` meets its contract.
use Rattle.std.proofs.Common.{rules}
use Rattle.graph.proofs.Marks.{finds_high, finds_low, finds_none}
use Rattle.graph.proofs.reduction.lowest.Goals as goal

pub returns-then-row-gt0 : goal.returns-then-row-gt0
returns-then-row-gt0 c = finds_low _ c.if-row-gt0.true (search rules)

pub returns-then-row-gt0-2 : goal.returns-then-row-gt0-2
returns-then-row-gt0-2 c = finds_high _ c.if-row-gt0-2.true (search rules)

pub returns : goal.returns
returns c = finds_none _ c.if-row-gt0.false c.if-row-gt0-2.false
