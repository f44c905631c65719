-- `frames::frame` meets its contract: job after job.
use Rattle.std.proofs.Common.{length}
use Rattle.machine.specs.Acting.{kinds_in}
use Rattle.zero_delay.specs.Lent.{processes_in}
use Rattle.zero_delay.proofs.FrameLoop.{FrameTo}
use Rattle.zero_delay.proofs.frames.frame.Given as goal

abbrev pub invariant-loop-j : goal.invariant-loop-j
invariant-loop-j l = FrameTo l.tables.program l.tables.counts (kinds_in l.tables.channels) (processes_in l.jobs) (length l.jobs) l.input l.initial.output l.initial.state.variables l.initial.state.words l.output l.state.variables l.state.words l.j
