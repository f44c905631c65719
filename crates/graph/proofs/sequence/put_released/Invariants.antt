-- `sequence::put_released` meets its contract. The loop's invariant is `Taking`; its measure, the processes pending.
use Rattle.std.proofs.Common.{length}
use Rattle.graph.proofs.SequenceLoops.{Taking, digit_count}
use Rattle.graph.proofs.sequence.put_released.Given as goal

abbrev pub invariant-loop-p : goal.invariant-loop-p
invariant-loop-p l = Taking (length l.processes) l.processes l.first l.time l.table.jobs l.table.count l.pending

abbrev pub decreases-loop-p : goal.decreases-loop-p
decreases-loop-p l = digit_count l.pending
