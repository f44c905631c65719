use Rattle.std.proofs.Common.{arith}
use Rattle.network.proofs.Multiples.{start, step, found, stop, by_zero}
use Rattle.network.proofs.frame.first_multiple.Goals as goal

pub returns-then-small-eq0 : goal.returns-then-small-eq0
returns-then-small-eq0 c = by_zero _ _ c.if-small-eq0.true

pub loop-at-init : goal.loop-at-init
loop-at-init c = start _ _ (omega arith) c.requires

pub returns-then-at-small-eq0 : goal.returns-then-at-small-eq0
returns-then-at-small-eq0 c = found _ _ _ c.loop-at.invariant c.loop-at-test.true c.if-at-small-eq0.true

pub loop-at-preserved : goal.loop-at-preserved
loop-at-preserved c = step _ _ _ c.loop-at.invariant c.if-at-small-eq0.false

pub returns : goal.returns
returns c = stop _ _ _ c.loop-at.invariant c.loop-at-test.false
