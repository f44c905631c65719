-- `sequence::first_of` meets its contract. The loop's invariant is `FirstOf`.
use Rattle.graph.specs.SequenceTold.{FirstOf}
use Rattle.graph.proofs.sequence.first_of.Given as goal

abbrev pub invariant-loop-q : goal.invariant-loop-q
invariant-loop-q l = FirstOf l.q l.ahead l.p l.word
