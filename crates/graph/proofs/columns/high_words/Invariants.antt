-- `columns::high_words` meets its contract: the column so far is told.
use Rattle.marks.specs.Row.{no_marks}
use Rattle.marks.specs.declared.Row.{Row}
use Rattle.graph.proofs.ColumnLoop.{Telling}
use Rattle.graph.proofs.columns.high_words.Given as goal

abbrev pub invariant-loop-j : goal.invariant-loop-j
invariant-loop-j l = Telling no_marks (λ (x : Row). x.high) l.fn.rows l.column l.j
