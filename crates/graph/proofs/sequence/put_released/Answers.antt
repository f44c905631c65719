-- `sequence::put_released` meets its contract.
use Rattle.std.proofs.Common.{arith, rules}
use Rattle.graph.proofs.SequenceLoops.{taking_begins, taking_below, taking_less, taking_ends, burst_fits, burst_stored}
use Rattle.graph.proofs.Slices.{take_whole}
use Rattle.graph.proofs.sequence.put_released.Goals as goal

pub loop-p-init : goal.loop-p-init
loop-p-init c =
    taking_begins c.requires.good.0 _ _ _ (search rules) (search rules) c.requires.released (rw (take_whole c.args.processes.now) c.requires.held)

pub bounds-processes-p : goal.bounds-processes-p
bounds-processes-p c = taking_below c.requires.good.0 c.loop-p.invariant _ c.in-Some.ensures

pub slice_bounds-fill-end : goal.slice_bounds-fill-end
slice_bounds-fill-end c =
    omega (arith, burst_fits c.requires.good.0 c.loop-p.invariant _ c.in-Some.ensures (rw (take_whole c.args.processes.now) c.requires.room))

pub job_from-requires : goal.job_from-requires
job_from-requires c = let good = c.requires.good in
    (good.0.good _ (taking_below good.0 c.loop-p.invariant _ c.in-Some.ensures), c.in-Some.ensures.0, good.1)

pub loop-p-smaller : goal.loop-p-smaller
loop-p-smaller c = taking_less c.requires.good.0 c.loop-p.invariant _ c.in-Some.ensures _ c.without_digit-pending.ensures

pub loop-p-preserved : goal.loop-p-preserved
loop-p-preserved c =
    burst_stored c.requires.good.0 c.loop-p.invariant _ c.in-Some.ensures (rw (take_whole c.args.processes.now) c.requires.room)
    _ (search rules) c.without_digit-pending.ensures _ (search rules)

pub returns : goal.returns
returns c = rw (take_whole c.args.processes.now) at (taking_ends c.requires.good.0 c.loop-p.invariant c.in_default.ensures)
