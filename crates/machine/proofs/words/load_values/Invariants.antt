-- `words::load_values` meets its contract.
use Rattle.std.proofs.Common.{◌+◌, get_or}
use Rattle.machine.proofs.ValuesLoop.{Put}
use Rattle.machine.proofs.words.load_values.Given as goal

abbrev pub invariant-loop-k : goal.invariant-loop-k
invariant-loop-k l = Put l.initial.values 0 (λ i. get_or l.words (l.at + i) 0) l.k l.values
