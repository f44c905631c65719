-- `report::held` meets its contract: of the channels so far what they hold stands in the array.
use Rattle.std.proofs.Common.{◌≡◌}
use Rattle.network.specs.Lists.{table, fill_to}
use Rattle.machine.specs.HeldOf.{no_held}
use Rattle.machine.proofs.HeldLoops.{held_at}
use Rattle.machine.proofs.report.held.Given as goal

abbrev pub invariant-loop-i : goal.invariant-loop-i
invariant-loop-i l = l.all ≡ fill_to 16 no_held (table l.i (held_at l.words))
