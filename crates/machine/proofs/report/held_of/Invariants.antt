-- `report::held_of` meets its contract: the values so far stand in the array.
use Rattle.std.proofs.Common.{◌≡◌}
use Rattle.network.specs.Lists.{table, fill_to}
use Rattle.machine.proofs.HeldLoops.{value_in}
use Rattle.machine.proofs.report.held_of.Given as goal

abbrev pub invariant-loop-k : goal.invariant-loop-k
invariant-loop-k l = l.values ≡ fill_to 8 0 (table l.k (value_in l.channel))
