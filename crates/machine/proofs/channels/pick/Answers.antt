-- `channels::pick` meets its contract.
use Rattle.std.proofs.Common.{eq-eqb, ne_eqb}
use Rattle.machine.proofs.channels.pick.Goals as goal

pub returns-then-at-place : goal.returns-then-at-place
returns-then-at-place c = rw (eq-eqb _ _ c.if-at-place.true)

pub returns-else-at-place : goal.returns-else-at-place
returns-else-at-place c = rw (ne_eqb _ _ c.if-at-place.false)
