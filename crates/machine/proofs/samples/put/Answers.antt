-- `samples::put` meets its contract.
use Rattle.std.proofs.Common.{arith, length-set}
use native.Mathlib.Numerals.{unary_clauses}
use Rattle.machine.proofs.samples.put.Goals as goal

pub bounds-table-k-2 : goal.bounds-table-k-2
bounds-table-k-2 c = simp length-set (omega arith)

pub returns : goal.returns
returns c = simp unary_clauses
