-- `channels::put` meets its contract.
use Rattle.machine.specs.ChannelLaws.{put_board, put_queue, put_full}
use Rattle.machine.proofs.channels.put.Goals as goal

pub returns-then-kind-eq1 : goal.returns-then-kind-eq1
returns-then-kind-eq1 c = let pre = c.requires in
    rw c.with_value-values.ensures (put_board _ pre.0 _ _ _ c.if-kind-eq1.true)

pub returns-then-held-capacity : goal.returns-then-held-capacity
returns-then-held-capacity c = let pre = c.requires in
    rw c.with_value-values-then-held-capacity.ensures (put_queue _ pre.0 _ _ _ c.if-kind-eq1.false c.if-held-capacity.true pre.1)

pub returns : goal.returns
returns c = put_full _ c.requires.0 _ _ _ c.if-kind-eq1.false c.if-held-capacity.false
