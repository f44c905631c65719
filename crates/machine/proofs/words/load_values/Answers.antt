use Rattle.machine.proofs.ValuesLoop.{start, more_from_0, whole}
use Rattle.machine.proofs.words.load_values.Goals as goal

pub loop-k-init : goal.loop-k-init
loop-k-init c = start

pub loop-k-preserved : goal.loop-k-preserved
loop-k-preserved c = more_from_0 c.loop-k.invariant c.loop-k-test.true

pub returns : goal.returns
returns c = whole c.loop-k.invariant c.loop-k-test.false
