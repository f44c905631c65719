-- `reduction::except` meets its contract.
use Rattle.graph.proofs.Marks.{except_is}
use Rattle.graph.proofs.reduction.except.Goals as goal

pub returns : goal.returns
returns c = except_is _ _ _ _ _ c.empty.ensures c.with.ensures c.without.ensures
