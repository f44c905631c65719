-- `words::store_values` meets its contract.
use Rattle.std.proofs.Common.{get_or}
use Rattle.machine.proofs.ValuesLoop.{Put}
use Rattle.machine.proofs.words.store_values.Given as goal

abbrev pub invariant-loop-k : goal.invariant-loop-k
invariant-loop-k l = Put l.initial.words l.at (λ i. get_or l.values i 0) l.k l.words
