-- `sequence::without_digit` meets its contract.
use Rattle.std.proofs.Common.{rules}
use Rattle.graph.proofs.Digits.{digit_taken}
use Rattle.graph.proofs.sequence.without_digit.Goals as goal

pub returns : goal.returns
returns c = digit_taken _ _ c.requires (search rules)
