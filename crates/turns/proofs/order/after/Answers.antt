use Rattle.std.proofs.Common.{arith}
use Rattle.turns.proofs.OrderLoops.{after_start, after_turn}
use Rattle.turns.proofs.order.after.Goals as goal

pub loop-j-init : goal.loop-j-init
loop-j-init c = after_start

pub loop-j-preserved : goal.loop-j-preserved
loop-j-preserved c = after_turn c.loop-j.invariant (omega (arith, c.loop-j-test.true, c.requires.1)) c.next_from.ensures

pub returns : goal.returns
returns c = record { each = λ j h. c.loop-j.invariant.each j (omega (arith, c.loop-j-test.false)) }
