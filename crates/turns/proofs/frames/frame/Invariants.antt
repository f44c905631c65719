-- `frames::frame` meets its contract: turn after turn, until the frame has ended or no turn is left.
use Rattle.turns.proofs.FrameLoop.{FrameTo}
use Rattle.turns.proofs.frames.frame.Given as goal

abbrev pub invariant-loop-t : goal.invariant-loop-t
invariant-loop-t l =
    FrameTo l.planned l.turns l.from l.input l.initial.output l.initial.state.variables l.initial.state.words l.processors l.finished l.working l.t l.output l.state.variables l.state.words
