-- `channels::take` meets its contract.
use Rattle.machine.specs.ChannelLaws.{taken_none, taken_board, taken_queue}
use Rattle.machine.proofs.channels.take.Goals as goal

pub returns-then-held-eq0 : goal.returns-then-held-eq0
returns-then-held-eq0 c = taken_none _ c.requires _ c.if-held-eq0.true

pub returns-then-kind-eq1 : goal.returns-then-kind-eq1
returns-then-kind-eq1 c = taken_board _ c.requires _ c.if-held-eq0.false c.if-kind-eq1.true

pub returns : goal.returns
returns c = taken_queue _ c.requires _ c.if-held-eq0.false c.if-kind-eq1.false
