-- `run_admitted` meets its contract: the turns are run by the tables of the network and the plan.
use Rattle.std.proofs.Common.{arith}
use Rattle.graph.specs.FrameOf.{few_jobs}
use Rattle.turns.specs.CallLaws.{blanked, few_words, room_here, run_needs, result_is, same_size, filled_is}
use Rattle.turns.proofs.run_admitted.Goals as goal

pub of-planned-requires : goal.of-planned-requires
of-planned-requires c = let pre = c.requires in
    (pre.roomy.plan_there, few_jobs pre.roomy.frame)

pub overflow_mul-planned : goal.overflow_mul-planned
overflow_mul-planned c = let pre = c.requires in
    omega (arith, few_words pre c.of-planned.ensures)

pub overflow_mul-planned-2 : goal.overflow_mul-planned-2
overflow_mul-planned-2 c = let pre = c.requires in
    omega (arith, few_words pre c.of-planned.ensures)

pub run-turned-requires : goal.run-turned-requires
run-turned-requires c = let pre = c.requires in
    let room = room_here pre c.of-planned.ensures in
    rw c.empty-state.ensures
    (run_needs pre c.of-planned.ensures (blanked c.args.output.now room (c.fill.ensures.after (λ y e. e))))

pub overflow_sub-result : goal.overflow_sub-result
overflow_sub-result c = c.run-turned.ensures.most

pub shape_of-output : goal.shape_of-output
shape_of-output c = let pre = c.requires in
    let room = room_here pre c.of-planned.ensures in
    let did = rw c.empty-state.ensures at c.run-turned.ensures in
    same_size pre c.of-planned.ensures (blanked c.args.output.now room (c.fill.ensures.after (λ y e. e))) did

pub returns : goal.returns
returns c =
    let pre = c.requires in
    let room = room_here pre c.of-planned.ensures in
    let blank = blanked c.args.output.now room (c.fill.ensures.after (λ y e. e)) in
    let did = rw c.empty-state.ensures at c.run-turned.ensures in
    record {
      result = rw (c.done.ensures, c.held.ensures) (result_is pre c.of-planned.ensures blank did);
      filled = filled_is pre c.of-planned.ensures blank did;
    }
