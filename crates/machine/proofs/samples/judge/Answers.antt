use Rattle.std.proofs.Common.{arith, sym, ap}
use Rattle.reply.specs.Told.{judged}
use Rattle.machine.proofs.SampleLoop.{start, go_on, stop, finish}
use Rattle.machine.proofs.samples.judge.Goals as goal

pub loop-k-init : goal.loop-k-init
loop-k-init c = start _

pub returns-then-not-good : goal.returns-then-not-good
returns-then-not-good c = sym (ap judged (stop _ _ c.loop-k.invariant (rw c.get.ensures at c.good.ensures) _ c.loop-k-test.true c.if-not-good.true))

pub loop-k-preserved : goal.loop-k-preserved
loop-k-preserved c = go_on _ _ c.loop-k.invariant (rw c.get.ensures at c.good.ensures) c.if-not-good.false

pub returns : goal.returns
returns c = sym (ap judged (finish _ _ _ (omega arith) c.loop-k-test.false c.loop-k.invariant))
