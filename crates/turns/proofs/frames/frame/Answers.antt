use Rattle.std.proofs.Common.{arith, rules, refl, ◌<◌, ◌^◌, length}
use Rattle.turns.proofs.FrameLoop.{start, turn_needs, worked_most, below_fits, again, ends, stops}
use Rattle.turns.proofs.frames.frame.Goals as goal
use Rattle.turns.proofs.frames.frame.Goals.{in-Waits, in-Works}

pub loop-t-init : goal.loop-t-init
loop-t-init c = start c.requires c.all_idle-processors.ensures c.empty-finished.ensures

pub turn-requires : goal.turn-requires
turn-requires c = turn_needs c.requires c.loop-t.invariant c.loop-t-test.true

pub overflow_add-working : goal.overflow_add-working
overflow_add-working c =
    let few_turns : length c.args.turns.now < 2 ^ 64 = search rules in
    record { fits = below_fits (worked_most c.requires c.loop-t.invariant c.loop-t-test.true c.in-Works.ensures) few_turns }

pub overflow_add-result-in-Ends : goal.overflow_add-result-in-Ends
overflow_add-result-in-Ends c =
    let few_turns : length c.args.turns.now < 2 ^ 64 = search rules in
    record { fits = below_fits (worked_most c.requires c.loop-t.invariant c.loop-t-test.true c.in-Ends.ensures) few_turns }

pub returns-in-Ends : goal.returns-in-Ends
returns-in-Ends c = ends c.requires c.loop-t.invariant c.loop-t-test.true c.in-Ends.ensures refl

pub loop-t-preserved : goal.loop-t-preserved
loop-t-preserved c = elim c.match-turn.branch [
  | in-Waits w ↦ again c.requires c.loop-t.invariant c.loop-t-test.true w.in-Waits.ensures (λ e. cc) (omega (arith, w.working-is))
  | in-Works w ↦ again c.requires c.loop-t.invariant c.loop-t-test.true w.in-Works.ensures (λ e. cc) (omega (arith, w.working-is))
]

pub returns : goal.returns
returns c = stops c.requires c.loop-t.invariant c.count.ensures c.loop-t-test.false
