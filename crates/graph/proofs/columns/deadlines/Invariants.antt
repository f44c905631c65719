-- `columns::deadlines` meets its contract: the column so far is told.
use Rattle.graph.specs.Sequence.{no_job}
use Rattle.graph.specs.declared.Job.{Job}
use Rattle.graph.proofs.ColumnLoop.{Telling}
use Rattle.graph.proofs.columns.deadlines.Given as goal

abbrev pub invariant-loop-j : goal.invariant-loop-j
invariant-loop-j l = Telling no_job (λ (x : Job). x.deadline) l.fn.jobs l.column l.j
