use Rattle.machine.proofs.ValuesLoop.{start, more, all}
use Rattle.machine.proofs.words.store_values.Goals as goal

pub loop-k-init : goal.loop-k-init
loop-k-init c = start

pub loop-k-preserved : goal.loop-k-preserved
loop-k-preserved c = more c.loop-k.invariant c.loop-k-test.true

pub returns : goal.returns
returns c = all c.loop-k.invariant c.loop-k-test.false
