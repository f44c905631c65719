-- `frame::first_multiple` meets its contract. The loop's invariant is `Reached`; the measure, how far 2000 is.
use Rattle.std.proofs.Common.{◌-◌}
use Rattle.network.proofs.Multiples.{Reached}
use Rattle.network.proofs.frame.first_multiple.Given as goal

abbrev pub invariant-loop-at : goal.invariant-loop-at
invariant-loop-at l = Reached l.large l.small l.at

abbrev pub decreases-loop-at : goal.decreases-loop-at
decreases-loop-at l = 2001 - l.at
