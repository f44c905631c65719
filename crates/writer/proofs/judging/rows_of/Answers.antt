use Rattle.std.proofs.Common.{refl}
use Rattle.writer.proofs.Ends.{pairs_none, in_rows, pairs_more, pairs_all}
use Rattle.writer.proofs.judging.rows_of.Goals as goal

pub loop-pair-init : goal.loop-pair-init
loop-pair-init c = pairs_none _ c.args.pairs.now _ c.no_rows-rows.ensures

pub bounds-rows-higher : goal.bounds-rows-higher
bounds-rows-higher c = (in_rows _ c.args.pairs.now _ c.requires c.are_apart.ensures c.if-not-are_apart.false).0

pub bounds-rows-higher-in-loop-pair : goal.bounds-rows-higher-in-loop-pair
bounds-rows-higher-in-loop-pair c = (in_rows _ c.args.pairs.now _ c.requires c.are_apart.ensures c.if-not-are_apart.false).0

pub loop-pair-preserved : goal.loop-pair-preserved
loop-pair-preserved c =
    pairs_more _ _ c.loop-pair.invariant c.requires _ refl c.are_apart.ensures c.if-not-are_apart.false c.has.ensures c.if-has.false c.with.ensures c.loop-pair-test.true

pub returns : goal.returns
returns c = pairs_all _ _ c.loop-pair.invariant c.loop-pair-test.false
