use Rattle.std.proofs.Common.{arith, refl}
use Rattle.machine.proofs.HeldLoops.{start, turn, values_told}
use Rattle.machine.proofs.report.held_of.Goals as goal

pub loop-k-init : goal.loop-k-init
loop-k-init c = start 8 0 _

pub loop-k-preserved : goal.loop-k-preserved
loop-k-preserved c = turn 8 0 _ _ _ _ (omega arith) c.loop-k.invariant refl

pub returns : goal.returns
returns c = values_told _ _ _ (omega arith) c.loop-k-test.false c.loop-k.invariant
