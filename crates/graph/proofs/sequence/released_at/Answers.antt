-- `sequence::released_at` meets its contract.
use Rattle.graph.proofs.ReleasedLoop.{released_goes_on, released_ends, released_due}
use Rattle.graph.proofs.sequence.released_at.Goals as goal

pub loop-i-preserved : goal.loop-i-preserved
loop-i-preserved c =
    released_goes_on _ _ _ _ _ c.requires.good_processes.0 c.requires.due_from _ c.loop-i-test.true _ _ _ c.loop-i.invariant _ _ c.with_digit-pending.ensures c.due_after-later.ensures
    _ c.min-next.ensures

pub returns-clause-tells_released : goal.returns-clause-tells_released
returns-clause-tells_released c = released_ends _ _ _ _ _ c.requires.good_processes.0 c.requires.due_from _ _ _ _ c.loop-i.auto.i-end c.loop-i-test.false c.loop-i.invariant

pub returns-clause-due_next : goal.returns-clause-due_next
returns-clause-due_next c = released_due _ _ _ _ _ c.requires.good_processes.0 c.requires.due_from _ _ _ _ c.loop-i.auto.i-end c.loop-i-test.false c.loop-i.invariant
