-- `higher` is a process's number, so one more than it fits.
use Rattle.std.proofs.Common.{◌<◌}
use Rattle.cases.proofs.longest.all_pairs.Given as goal

abbrev pub invariant-loop-pair : goal.invariant-loop-pair
invariant-loop-pair l = l.higher < 12
