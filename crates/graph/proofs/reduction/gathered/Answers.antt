-- `reduction::gathered` meets its contract.
use Rattle.graph.proofs.Gathering.{gathers_begin, gathers_less, gathers_go_on, gathers_end}
use Rattle.graph.proofs.reduction.gathered.Goals as goal

pub loop-j-init : goal.loop-j-init
loop-j-init c = gathers_begin _ _ _ c.empty-far.ensures

pub loop-j-smaller : goal.loop-j-smaller
loop-j-smaller c = gathers_less c.loop-j.invariant _ c.in-Some.ensures _ _ c.without.ensures c.except-left.ensures

pub loop-j-preserved : goal.loop-j-preserved
loop-j-preserved c = gathers_go_on c.loop-j.invariant _ c.in-Some.ensures _ _ c.without.ensures c.except-left.ensures c.requires _ c.or-far.ensures

pub returns : goal.returns
returns c = gathers_end c.loop-j.invariant c.in_default.ensures
