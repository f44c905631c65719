-- `reduction::reduce` meets its contract.
use Rattle.graph.proofs.Totals.{reduced}
use Rattle.graph.proofs.reduction.reduce.Goals as goal

pub returns : goal.returns
returns c = let pre = c.requires in
    reduced _ _ pre.0 pre.1 _ _ c.edges_from-rows.ensures c.total-edges.ensures
