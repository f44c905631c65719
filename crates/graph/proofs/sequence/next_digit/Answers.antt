-- `sequence::next_digit` meets its contract.
use Rattle.std.proofs.Common.{rules}
use Rattle.graph.proofs.Digits.{next_none, next_found}
use Rattle.graph.proofs.sequence.next_digit.Goals as goal

pub returns-then-rest-eq0 : goal.returns-then-rest-eq0
returns-then-rest-eq0 c = next_none _ _ c.if-rest-eq0.true

pub returns : goal.returns
returns c = next_found _ _ c.if-rest-eq0.false (search rules)
