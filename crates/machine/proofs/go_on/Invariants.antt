-- `go_on` meets its contract: action after action, until the place is reached.
use Rattle.std.proofs.Common.{◌-◌}
use Rattle.machine.specs.Acting.{kinds_in}
use Rattle.machine.proofs.JobLoop.{Going}
use Rattle.machine.proofs.go_on.Given as goal

abbrev pub invariant-loop-under : goal.invariant-loop-under
invariant-loop-under l = Going l.tables.program l.p l.until l.initial.under l.input (kinds_in l.tables.channels) l.initial.state.variables l.initial.state.words l.state.variables l.state.words l.under

abbrev pub decreases-loop-under : goal.decreases-loop-under
decreases-loop-under l = l.until - l.under.at
