-- Pairs and the ends of channels, as rows of marks tell them.
use Rattle.std.specs.Prelude.{ℕ, Bool, ◌&&◌, ◌||◌, List, get_or}
use Rattle.marks.specs.Row.{marked, row_of, no_marks}
use Rattle.marks.specs.declared.Row.{Row}
use Rattle.network.specs.Lists.{table}
use Rattle.network.specs.Pairs.{is_pair, apart}
use Rattle.network.specs.declared.Pair.{Pair}

-- row a marks b where a-b is a pair
unfoldable pub pair_rows : List Pair → List Row
pair_rows pairs = table 12 (λ a. row_of (is_pair pairs a))

-- a channel's ends, judged by rows
unfoldable pub ends_by : ℕ → List Row → ℕ → ℕ → Bool
ends_by n rows writer reader = apart n writer reader && (marked (get_or rows writer no_marks) reader || marked (get_or rows reader no_marks) writer)
