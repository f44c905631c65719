use Rattle.std.proofs.Common.{arith}
use Rattle.zero_delay.specs.CallLaws.{process_at}
use Rattle.zero_delay.proofs.FrameLoop.{start, runs, turn, finish}
use Rattle.zero_delay.proofs.frames.frame.Goals as goal

pub loop-j-init : goal.loop-j-init
loop-j-init c = start c.requires.ready c.requires.room.2 c.requires.room.3

pub job-gives-requires : goal.job-gives-requires
job-gives-requires c = rw (process_at c.args.jobs.now c.loop-j.j) at (runs c.requires.ready c.loop-j.invariant c.loop-j-test.true)

pub put-requires : goal.put-requires
put-requires c = omega (arith, c.requires.room.1, c.loop-j.invariant.size)

pub loop-j-preserved : goal.loop-j-preserved
loop-j-preserved c = turn c.requires.ready c.loop-j.invariant c.loop-j-test.true c.get-sample.ensures (rw (← process_at c.args.jobs.now c.loop-j.j) at c.job-gives.ensures) c.put.ensures

pub shape_of-output : goal.shape_of-output
shape_of-output c = omega (arith, c.loop-j.invariant.size)

pub returns : goal.returns
returns c = finish c.requires.ready c.loop-j.invariant c.loop-j-test.false
