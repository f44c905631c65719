-- Rows of marks from the pairs of a struct, and from the chains of its pairs.
use Rattle.std.specs.Prelude.{ℕ, ◌<◌, min, ◌≡◌, ◌||◌, List, get_or}
use Rattle.marks.specs.Row.{marked, no_marks}
use Rattle.marks.specs.declared.Row.{Row}
use Rattle.network.specs.Chains.{holds}
use Rattle.network.specs.Pairs.{same_pair, is_pair, aheads}
use Rattle.network.specs.Net.{within}
use Rattle.network.specs.declared.Pair.{Pair}
use Rattle.network.specs.declared.Network.{Network}

-- below 12, one pair more is marked
pub record PairAdded (pair : Pair) (old new : List Row) : Type 0 where
  pub marks : (a b : ℕ) → a < 12 → b < 12 → marked (get_or new a no_marks) b ≡ (marked (get_or old a no_marks) b || same_pair pair a b)

-- below 12, row a marks b where a-b is a pair
pub record MarksPairs (pairs : List Pair) (rows : List Row) : Type 0 where
  pub marks : (a b : ℕ) → a < 12 → b < 12 → marked (get_or rows a no_marks) b ≡ is_pair pairs a b

-- the processes of a struct: a count above 12 counts the twelve that there are
abbrev pub count_of : Network → ℕ
count_of network = min network.process_count 12

-- of the processes of a struct, row a marks b where a comes before b
pub record AheadTold (network : Network) (rows : List Row) : Type 0 where
  pub marks : (a b : ℕ) → a < count_of network → b < count_of network
      → marked (get_or rows a no_marks) b ≡ holds (aheads (count_of network) (within network).pairs) a b
