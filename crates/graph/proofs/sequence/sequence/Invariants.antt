-- `sequence::sequence` meets its contract. The loop's invariant is that the table holds the jobs released so far, and when each process is due; its measure,
-- the time left.
use Rattle.std.proofs.Common.{◌-◌, ◌≤◌, length}
use Rattle.graph.specs.Sequence.{sequence_to}
use Rattle.graph.specs.SequenceTold.{word_relation, DueFrom, HoldsJobs}
use Rattle.graph.proofs.sequence.sequence.Given as goal

abbrev pub invariant-loop-time : goal.invariant-loop-time
invariant-loop-time l = (l.time ≤ l.frame) × HoldsJobs (sequence_to l.processes (word_relation (length l.processes) l.first) l.time) l.table × DueFrom (length l.processes) l.processes l.time l.due

abbrev pub decreases-loop-time : goal.decreases-loop-time
decreases-loop-time l = l.frame - l.time
