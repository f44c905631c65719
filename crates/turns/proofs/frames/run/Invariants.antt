-- `frames::run` meets its contract: frame after frame, while turns are left.
use Rattle.turns.proofs.FramesLoop.{FramesTo}
use Rattle.turns.proofs.frames.run.Given as goal

abbrev pub invariant-loop-f : goal.invariant-loop-f
invariant-loop-f l =
    FramesTo l.planned l.frames l.turns l.input l.initial.output l.initial.state.variables l.initial.state.words l.passed l.working l.f l.output l.state.variables l.state.words
