-- `ahead::rows_of` meets its contract. The loop's invariant is `MarksPairs` of the pairs so far.
use Rattle.std.proofs.Common.{length, take, ◌≡◌}
use Rattle.network.specs.AheadTold.{MarksPairs}
use Rattle.network.proofs.ahead.rows_of.Given as goal

abbrev pub invariant-loop-pair : goal.invariant-loop-pair
invariant-loop-pair l = record { size : length l.rows ≡ 12; marks : MarksPairs (take l.pair-index l.pairs) l.rows }
