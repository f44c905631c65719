-- `timing::time_all` meets its contract.
use Rattle.timed.proofs.TimedSteps.{small_starts}
use Rattle.timed.proofs.TimedLoops.{set_out, one_timed, timed_all}
use Rattle.timed.proofs.timing.time_all.Goals as goal

pub keys_of-keys-requires : goal.keys_of-keys-requires
keys_of-keys-requires c = small_starts c.requires.timable

pub loop-init : goal.loop-init
loop-init c = (rw c.nothing-timing.ensures set_out, rw c.nothing-timing.ensures c.keys_of-keys.ensures)

pub time_next-requires : goal.time_next-requires
time_next-requires c = let pre = c.requires in
    record {
      next = record { work = pre.work; m = pre.m; number = c.loop.counter; below = c.loop-test.true; reached = c.loop.invariant.0.reached _ _ pre.timable };
      keys_tell = c.loop.invariant.1;
    }

pub loop-preserved : goal.loop-preserved
loop-preserved c = (one_timed c.loop.invariant.0 c.loop-test.true c.time_next.ensures.stepped, c.time_next.ensures.keys_tell)

pub returns : goal.returns
returns c = timed_all c.loop.invariant.0 c.loop.auto.counter-end c.loop-test.false
