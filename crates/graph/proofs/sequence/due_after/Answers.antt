-- `sequence::due_after` meets its contract.
use Rattle.graph.proofs.ReleasedLoop.{after_release, no_release}
use Rattle.graph.proofs.sequence.due_after.Goals as goal

pub returns-then-due-time : goal.returns-then-due-time
returns-then-due-time c = after_release _ _ _ c.if-due-time.true

pub returns-else-due-time : goal.returns-else-due-time
returns-else-due-time c = no_release _ _ _ c.if-due-time.false
