-- How processes stand to one another: which comes before which, and which are related.
use Rattle.std.specs.Prelude.{ℕ, Bool, ◌||◌, List, get_or}
use Rattle.marks.specs.Row.{marked, no_marks}
use Rattle.marks.specs.declared.Row.{Row}
use Rattle.network.specs.Chains.{Relation, holds, relation}
use Rattle.network.specs.Pairs.{aheads}
use Rattle.network.specs.declared.Pair.{Pair}

-- "one comes before another if a chain leads from it to the other", of n processes
unfoldable pub comes_before : ℕ → List Pair → Relation
comes_before n pairs = aheads n pairs

-- "related when a chain of pairs leads from one to the other"
unfoldable pub related : Relation → ℕ → ℕ → Bool
related ahead a b = holds ahead a b || holds ahead b a

-- the relation that rows of marks hold, of the numbers below n: row a marks b
unfoldable pub row_relation : ℕ → List Row → Relation
row_relation n rows = relation n (λ a b. marked (get_or rows a no_marks) b)
