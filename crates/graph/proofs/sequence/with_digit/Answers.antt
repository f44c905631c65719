-- `sequence::with_digit` meets its contract.
use Rattle.graph.proofs.Digits.{digit_added}
use Rattle.graph.proofs.sequence.with_digit.Goals as goal

pub returns-then-add : goal.returns-then-add
returns-then-add c = digit_added _ _ _ c.if-add.true c.requires
