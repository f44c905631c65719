use Rattle.std.proofs.Common.{arith, length, rules, ◌<◌, ◌^◌}
use Rattle.turns.proofs.FrameLoop.{below_fits}
use Rattle.turns.proofs.FramesLoop.{part_few, width_is, start, in_input, in_output, frame_needs, working_most, next, stops, finish}
use Rattle.turns.proofs.frames.run.Goals as goal

pub loop-f-init : goal.loop-f-init
loop-f-init c = start c.requires

pub overflow_mul-from : goal.overflow_mul-from
overflow_mul-from c = omega (arith, part_few c.requires c.loop-f-test.true)

pub overflow_add-to : goal.overflow_add-to
overflow_add-to c = omega (arith, part_few c.requires c.loop-f-test.true)

pub slice_bounds-frame-end : goal.slice_bounds-frame-end
slice_bounds-frame-end c = omega (arith, in_input c.requires c.loop-f.invariant c.loop-f-test.true)

pub slice_bounds-frame-end-in-loop-f : goal.slice_bounds-frame-end-in-loop-f
slice_bounds-frame-end-in-loop-f c = omega (arith, in_output c.requires c.loop-f.invariant c.loop-f-test.true)

pub frame-turned-requires : goal.frame-turned-requires
frame-turned-requires c = frame_needs c.requires c.loop-f.invariant c.loop-f-test.true (width_is _ _)

pub overflow_add-working : goal.overflow_add-working
overflow_add-working c =
    let few_turns : length c.args.turns.now < 2 ^ 64 = search rules in
    record { fits = below_fits (working_most c.requires c.loop-f.invariant c.loop-f-test.true (width_is _ _) c.frame-turned.ensures) few_turns }

pub returns-in-Some : goal.returns-in-Some
returns-in-Some c = stops c.requires c.loop-f.invariant c.loop-f-test.true (width_is _ _) c.frame-turned.ensures c.in-Some.is

pub loop-f-preserved : goal.loop-f-preserved
loop-f-preserved c = next c.requires c.loop-f.invariant c.loop-f-test.true (width_is _ _) c.frame-turned.ensures c.in_default.is

pub returns : goal.returns
returns c = finish c.requires c.loop-f.invariant c.loop-f-test.false
