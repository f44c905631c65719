-- `number::read_fifth` meets its contract: the rest of the number is its fifth group.
use Rattle.std.proofs.Common.{rules}
use Rattle.number.proofs.Reading.{rest_fifth}
use Rattle.number.proofs.read_fifth.Goals as goal

pub returns-in_err-b : goal.returns-in_err-b
returns-in_err-b c = rw rest_fifth (search rules)

pub returns-then-b-le15 : goal.returns-then-b-le15
returns-then-b-le15 c = rw rest_fifth (search rules)

pub returns : goal.returns
returns c = rw rest_fifth (search rules)
