-- `reduction::edges_from` meets its contract.
use Rattle.std.proofs.Common.{ap, replicate}
use Rattle.marks.specs.declared.Row.{Row}
use Rattle.graph.proofs.Descendants.{reduction_begins, reduction_goes_on, reduction_ends, reached_join}
use Rattle.graph.proofs.reduction.edges_from.Goals as goal

pub loop-i-init : goal.loop-i-init
loop-i-init c = let pre = c.requires in
    reduction_begins _ _ pre.0 pre.1 _ _ (ap (λ (r : Row). replicate 128 r) c.empty-reached.ensures) (ap (λ (r : Row). replicate 128 r) c.empty-edges.ensures)

pub gathered-far-requires : goal.gathered-far-requires
gathered-far-requires c = let pre = c.requires in
    reached_join _ _ pre.0 pre.1 _ _ _ c.loop-i-test.true c.loop-i.auto.i c.loop-i.invariant

pub loop-i-preserved : goal.loop-i-preserved
loop-i-preserved c = let pre = c.requires in
    reduction_goes_on _ _ pre.0 pre.1 _ _ _ c.loop-i-test.true c.loop-i.auto.i c.loop-i.invariant _ c.gathered-far.ensures _ _ c.or.ensures c.without.ensures

pub returns : goal.returns
returns c = let pre = c.requires in
    reduction_ends _ _ pre.0 pre.1 _ _ _ c.loop-i-test.false c.loop-i.invariant
