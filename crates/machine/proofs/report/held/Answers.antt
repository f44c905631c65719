use Rattle.std.proofs.Common.{arith, ap, ◌∙◌}
use Rattle.machine.specs.ChannelTold.{contents_by}
use Rattle.machine.specs.HeldOf.{held_of, no_held}
use Rattle.machine.specs.declared.Channel.{Channel}
use Rattle.machine.proofs.HeldLoops.{start, turn, channels_told}
use Rattle.machine.proofs.report.held.Goals as goal

pub loop-i-init : goal.loop-i-init
loop-i-init c = c.no_held-all.ensures ∙ start 16 no_held _

pub held_of-requires : goal.held_of-requires
held_of-requires c = rw c.load.ensures (c.requires.sound _ c.loop-i-test.true)

pub loop-i-preserved : goal.loop-i-preserved
loop-i-preserved c = turn 16 no_held _ _ _ _ c.loop-i-test.true c.loop-i.invariant (c.held_of.ensures ∙ ap (λ (x : Channel). held_of (contents_by x)) c.load.ensures)

pub returns : goal.returns
returns c = channels_told _ _ _ (omega arith) c.loop-i-test.false c.loop-i.invariant
