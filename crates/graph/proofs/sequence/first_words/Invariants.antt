-- `sequence::first_words` meets its contract. The loop's invariant is `FirstSoFar`.
use Rattle.std.proofs.Common.{length}
use Rattle.graph.proofs.FreeLoops.{FirstSoFar}
use Rattle.graph.proofs.sequence.first_words.Given as goal

abbrev pub invariant-loop-p : goal.invariant-loop-p
invariant-loop-p l = FirstSoFar (length l.ahead) l.ahead l.p l.words
