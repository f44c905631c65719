-- `precedence::jobs_related` meets its contract.
use Rattle.graph.proofs.BeforeJobs.{joined_begin, joined_with, joined_without}
use Rattle.graph.proofs.precedence.jobs_related.Goals as goal
use Rattle.graph.proofs.precedence.jobs_related.Goals.{then-is_relative, else-is_relative}

pub loop-q-init : goal.loop-q-init
loop-q-init c = joined_begin _ _ _ _ c.empty-row.ensures

pub loop-q-preserved : goal.loop-q-preserved
loop-q-preserved c = elim c.if-is_relative.branch [
  | then-is_relative w ↦ rw w.row-is (joined_with _ _ _ _ _ _ _ c.loop-q.invariant c.is_relative.ensures w.if-is_relative.true w.or-row.ensures)
  | else-is_relative w ↦ rw w.row-is (joined_without _ _ _ _ _ _ c.loop-q.invariant c.is_relative.ensures w.if-is_relative.false)
]
