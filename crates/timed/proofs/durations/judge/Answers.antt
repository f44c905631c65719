use Rattle.timed.proofs.TimedLoops.{none_judged, one_within, one_above, all_judged}
use Rattle.timed.proofs.durations.judge.Goals as goal

pub loop-j-init : goal.loop-j-init
loop-j-init c = none_judged _ _

pub returns-then-jobs-j : goal.returns-then-jobs-j
returns-then-jobs-j c = one_above _ _ _ c.loop-j-test.true c.loop-j.invariant c.if-jobs-j.true

pub loop-j-preserved : goal.loop-j-preserved
loop-j-preserved c = one_within _ _ c.loop-j.invariant c.if-jobs-j.false

pub returns : goal.returns
returns c = all_judged _ _ _ c.loop-j.auto.j-end c.loop-j-test.false c.loop-j.invariant
