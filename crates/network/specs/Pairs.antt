-- Pairs of processes, and the chains that they make.
use Rattle.std.specs.Prelude.{ℕ, Bool, not, ◌&&◌, ◌||◌, List, length, get_or, ltb, eqb}
use Rattle.reply.specs.Tools.{any}
use Rattle.network.specs.Chains.{Relation, holds, chains}
use Rattle.network.specs.declared.Pair.{Pair}

abbrev pub no_pair : Pair
no_pair = record { higher = 0; lower = 0 }

unfoldable pub same_pair : Pair → ℕ → ℕ → Bool
same_pair p higher lower = eqb p.higher higher && eqb p.lower lower

-- a pair of the file
unfoldable pub is_pair : List Pair → ℕ → ℕ → Bool
is_pair pairs higher lower = any (length pairs) (λ k. same_pair (get_or pairs k no_pair) higher lower)

-- two processes of n, and not one: "out of range, of one process", "end out of range, both ends equal"
unfoldable pub apart : ℕ → ℕ → ℕ → Bool
apart n a b = (ltb a n && ltb b n) && not (eqb a b)

-- "pair out of range, of one process, repeated", of n processes, after some pairs
unfoldable pub good_pair : ℕ → List Pair → ℕ → ℕ → Bool
good_pair n before higher lower = apart n higher lower && not (is_pair before higher lower)

-- "channel end out of range, both ends equal, or ends with no pair of their own"
unfoldable pub good_ends : ℕ → List Pair → ℕ → ℕ → Bool
good_ends n pairs writer reader = apart n writer reader && (is_pair pairs writer reader || is_pair pairs reader writer)

-- "a chain of pairs leads from one to the other", of n processes: which process comes before which
unfoldable pub aheads : ℕ → List Pair → Relation
aheads n pairs = chains n (is_pair pairs)

-- "pairs form a cycle": a chain leads from a process to itself
unfoldable pub cyclic : ℕ → List Pair → Bool
cyclic n pairs = any n (λ a. holds (aheads n pairs) a a)
