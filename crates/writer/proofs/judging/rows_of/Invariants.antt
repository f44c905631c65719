-- `judging::rows_of` meets its contract. The loop's invariant: the pairs so far are good and marked.
use Rattle.std.proofs.Common.{take}
use Rattle.writer.specs.Good.{PairsMarked}
use Rattle.writer.proofs.judging.rows_of.Given as goal

abbrev pub invariant-loop-pair : goal.invariant-loop-pair
invariant-loop-pair l = PairsMarked l.n (take l.pair-index l.pairs) l.rows
