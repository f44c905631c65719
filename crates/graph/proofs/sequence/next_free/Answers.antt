-- `sequence::next_free` meets its contract.
use Rattle.std.proofs.Common.{arith}
use Rattle.graph.proofs.FreeLoops.{next_below, look_goes_on, look_found, look_none}
use Rattle.graph.proofs.sequence.next_free.Goals as goal

pub returns-then-first-p-eq0 : goal.returns-then-first-p-eq0
returns-then-first-p-eq0 c =
    look_found _ _ _ _ c.loop-p.invariant.1 c.in-Some.ensures (next_below _ c.args.first.now c.requires c.in-Some.ensures) c.if-first-p-eq0.true

pub loop-p-preserved : goal.loop-p-preserved
loop-p-preserved c = (omega (arith, next_below _ c.args.first.now c.requires c.in-Some.ensures), look_goes_on _ _ _ _ c.loop-p.invariant.1 c.in-Some.ensures c.if-first-p-eq0.false)

pub returns : goal.returns
returns c = look_none _ _ _ c.loop-p.invariant.1 c.in_default.ensures
