-- `number::read_number` meets its contract: the number is its first group, or that and the rest.
use Rattle.std.proofs.Common.{rules}
use Rattle.number.proofs.Reading.{number_first}
use Rattle.number.proofs.read_number.Goals as goal

pub returns-in-Some : goal.returns-in-Some
returns-in-Some c = rw number_first (search rules)

pub returns-in-Some-2 : goal.returns-in-Some-2
returns-in-Some-2 c = rw number_first (search rules)

pub returns-in-None : goal.returns-in-None
returns-in-None c = rw number_first (search rules)
