use Rattle.std.proofs.Common.{arith}
use Rattle.machine.proofs.JobLoop.{start, able, forward, turn, finish}
use Rattle.machine.proofs.go_on.Goals as goal

pub loop-under-init : goal.loop-under-init
loop-under-init c = start c.requires

pub fetch-action-requires : goal.fetch-action-requires
fetch-action-requires c = let runs = c.requires in
    (runs.runnable.process, omega (arith, runs.runnable.most))

pub act-under-requires : goal.act-under-requires
act-under-requires c = able c.requires c.loop-under.invariant c.loop-under-test.true c.fetch-action.ensures

pub loop-under-smaller : goal.loop-under-smaller
loop-under-smaller c = omega (arith, forward c.requires c.loop-under.invariant c.loop-under-test.true c.fetch-action.ensures c.act-under.ensures)

pub loop-under-preserved : goal.loop-under-preserved
loop-under-preserved c = turn c.requires c.loop-under.invariant c.loop-under-test.true c.fetch-action.ensures c.act-under.ensures

pub returns : goal.returns
returns c = finish c.requires c.loop-under.invariant c.loop-under-test.false
