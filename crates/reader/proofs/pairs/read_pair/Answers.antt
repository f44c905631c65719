-- `pairs::read_pair` meets its contract: nothing is repeated by a first pair.
use Rattle.std.proofs.Common.{rules}
use Rattle.reader.proofs.PairRows.{first_pair}
use Rattle.reader.proofs.pairs.read_pair.Goals as goal

pub returns-then-are_apart : goal.returns-then-are_apart
returns-then-are_apart c = rw first_pair (search rules)
