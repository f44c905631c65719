-- What the functions of the reduction say of rows of marks.
use Rattle.std.specs.Prelude.{ℕ, ◌<◌, ◌≡◌, true, false, ◌&&◌, List, get_or, None, Some}
use Rattle.std.specs.declared.option.Option.{Option}
use Rattle.reply.specs.Tools.{any, sum}
use Rattle.marks.specs.Row.{marked, no_marks, row_of, with_of, without_of, count_of}
use Rattle.marks.specs.declared.Row.{Row}
use Rattle.network.specs.Lists.{fill_to}
use Rattle.graph.specs.Order.{row_relation}
use Rattle.graph.specs.Graph.{reduction_of, edges_of, rows_from}

-- what each row below n marks stands after it, below n: the relation of the rows only goes forward
pub record Later (n : ℕ) (rows : List Row) : Type 0 where
  pub later : (i j : ℕ) → i < n → marked (get_or rows i no_marks) j ≡ true → (i < j) × (j < n)

-- what the reduction of such rows returns: row i marks each j that an edge leads to from i, and the edges are counted
pub record ReducedFrom (n : ℕ) (after : List Row) (rows : List Row) (edges : ℕ) : Type 0 where
  pub rows_are : rows ≡ fill_to 128 no_marks (rows_from n (reduction_of n (row_relation n after)))
  pub edges_are : edges ≡ edges_of n (reduction_of n (row_relation n after))

-- ---- the steps

-- a mark of the row; none only if it has none
abbrev pub FindsMark : Row → Option ℕ → Type 0
FindsMark row None = (k : ℕ) → marked row k ≡ false
FindsMark row (Some i) = (i < 128) × (marked row i ≡ true)

-- the row without mark i
unfoldable pub except_of : Row → ℕ → Row
except_of row i = without_of row (with_of no_marks i)

-- what row k marks, for each k below n that `row` marks
unfoldable pub gathered : ℕ → List Row → Row → Row
gathered n rows row = row_of (λ i. any n (λ k. marked row k && marked (get_or rows k no_marks) i))

-- of each mark of `row`: what the rows that its own row marks mark, its own row marks too
pub record ReachesOn (rows : List Row) (row : Row) : Type 0 where
  pub join : (i k x : ℕ) → marked row i ≡ true → marked (get_or rows i no_marks) k ≡ true → marked (get_or rows k no_marks) x ≡ true
      → marked (get_or rows i no_marks) x ≡ true

-- how many marks the rows below n have
unfoldable pub marks_of : ℕ → List Row → ℕ
marks_of n rows = sum n (λ i. count_of (get_or rows i no_marks))
