-- Rows of marks that agree with "comes before" hold the same relation.
use Rattle.std.specs.Prelude.{ℕ, zero, suc, ◌<◌, ◌≡◌, Bool, List, get_or}
use Rattle.std.proofs.Common.{◌∙◌}
use Rattle.marks.specs.Row.{marked, no_marks}
use Rattle.marks.specs.declared.Row.{Row}
use Rattle.network.specs.Chains.{holds, relation, through, chains}
use Rattle.network.specs.ChainLaws.{relation_holds}
use Rattle.network.specs.ChainsSame.{relation_same}
use Rattle.network.specs.Pairs.{aheads}
use Rattle.network.specs.declared.Pair.{Pair}
use Rattle.graph.specs.Order.{comes_before, row_relation}

-- a relation is the table of what it holds
pub relation_self : (n : ℕ) (q : ℕ → ℕ → Bool) → relation n (λ a b. holds (relation n q) a b) ≡ relation n q
relation_self n q = relation_same n _ q (relation_holds n q)

through_self : (n k : ℕ) (step : ℕ → ℕ → Bool) → relation n (λ a b. holds (through n step k) a b) ≡ through n step k
unfolding through
through_self n zero step = relation_self n step
through_self n (suc k) step = relation_self n _

pub rows_before : (n : ℕ) (pairs : List Pair) (rows : List Row) → ((a b : ℕ) → a < n → b < n → marked (get_or rows a no_marks) b ≡ holds (aheads n pairs) a b)
    → row_relation n rows ≡ comes_before n pairs
unfolding row_relation comes_before aheads chains
rows_before n pairs rows e = relation_same n _ _ e ∙ through_self n n _
