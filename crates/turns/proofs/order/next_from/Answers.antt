use Rattle.std.proofs.Common.{arith}
use Rattle.turns.proofs.OrderLoops.{start, within, turn, finish}
use Rattle.turns.proofs.order.next_from.Goals as goal

pub loop-i-init : goal.loop-i-init
loop-i-init c = start

pub better-best-requires : goal.better-best-requires
better-best-requires c = let pre = c.requires in
    (omega (arith, c.loop-i-test.true), within c.loop-i.invariant (omega (arith, c.loop-i-test.true)))

pub loop-i-preserved : goal.loop-i-preserved
loop-i-preserved c = turn c.loop-i.invariant c.better-best.ensures

pub returns : goal.returns
returns c = finish c.loop-i.invariant c.loop-i-test.false c.loop-i.auto.i-end
