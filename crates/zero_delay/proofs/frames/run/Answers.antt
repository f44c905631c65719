use Rattle.std.proofs.Common.{arith, rules, length}
use Rattle.zero_delay.proofs.FramesLoop.{part_within, needed_most, width_is, part_long, start, in_input, in_output, frame_room, turn, finish}
use Rattle.zero_delay.proofs.frames.run.Goals as goal

pub overflow_mul-width : goal.overflow_mul-width
overflow_mul-width c = search (rules, c.requires.ready.few)

pub loop-f-init : goal.loop-f-init
loop-f-init c = start c.requires.ready c.requires.frames_ready

-- the part lies within the run's words, which are few
pub overflow_mul-from : goal.overflow_mul-from
overflow_mul-from c = omega (
  arith,
  part_within c.loop-f.f (length c.args.jobs.now) c.args.frames c.loop-f-test.true,
  needed_most (length c.args.jobs.now) c.args.frames c.requires.ready.few c.requires.frames_ready.few,
)

pub overflow_add-to : goal.overflow_add-to
overflow_add-to c = omega (
  arith,
  part_within c.loop-f.f (length c.args.jobs.now) c.args.frames c.loop-f-test.true,
  needed_most (length c.args.jobs.now) c.args.frames c.requires.ready.few c.requires.frames_ready.few,
)

pub offset_bounds-input-from : goal.offset_bounds-input-from
offset_bounds-input-from c = omega (
  arith,
  part_within c.loop-f.f (length c.args.jobs.now) c.args.frames c.loop-f-test.true,
  needed_most (length c.args.jobs.now) c.args.frames c.requires.ready.few c.requires.frames_ready.few,
)

pub slice_bounds-frame-end : goal.slice_bounds-frame-end
slice_bounds-frame-end c = omega (arith, in_input c.requires.ready c.requires.frames_ready c.loop-f.invariant c.loop-f-test.true)

pub offset_bounds-output-from : goal.offset_bounds-output-from
offset_bounds-output-from c = omega (
  arith,
  part_within c.loop-f.f (length c.args.jobs.now) c.args.frames c.loop-f-test.true,
  needed_most (length c.args.jobs.now) c.args.frames c.requires.ready.few c.requires.frames_ready.few,
)

pub slice_bounds-frame-end-in-loop-f : goal.slice_bounds-frame-end-in-loop-f
slice_bounds-frame-end-in-loop-f c = omega (arith, in_output c.requires.ready c.requires.frames_ready c.loop-f.invariant c.loop-f-test.true)

pub frame-requires : goal.frame-requires
frame-requires c =
    let to = c.loop-f.invariant in
    let on = c.loop-f-test.true in
    record {
      ready = c.requires.ready;
      room = (
        part_long _ _ _ _ (width_is _ _) (in_input c.requires.ready c.requires.frames_ready to on),
        part_long _ _ _ _ (width_is _ _) (in_output c.requires.ready c.requires.frames_ready to on),
        to.sound,
        frame_room c.requires.ready c.requires.frames_ready to on,
      );
    }

pub loop-f-preserved : goal.loop-f-preserved
loop-f-preserved c = turn c.requires.ready c.requires.frames_ready c.loop-f.invariant c.loop-f-test.true (width_is _ _) c.frame.ensures

pub shape_of-output : goal.shape_of-output
shape_of-output c = omega (arith, c.loop-f.invariant.size)

pub returns : goal.returns
returns c = finish c.requires.ready c.requires.frames_ready c.loop-f.invariant c.loop-f-test.false
