-- `frames::run` meets its contract: frame after frame.
use Rattle.std.proofs.Common.{length}
use Rattle.machine.specs.Acting.{kinds_in}
use Rattle.zero_delay.specs.Lent.{processes_in}
use Rattle.zero_delay.proofs.FramesLoop.{FramesTo}
use Rattle.zero_delay.proofs.frames.run.Given as goal

abbrev pub invariant-loop-f : goal.invariant-loop-f
invariant-loop-f l = FramesTo l.tables.program l.tables.counts (kinds_in l.tables.channels) (processes_in l.jobs) (length l.jobs) l.frames l.input l.initial.output l.initial.state.variables l.initial.state.words l.output l.state.variables l.state.words l.f
