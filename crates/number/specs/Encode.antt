-- How a number is written: its groups, low group first.
use Rattle.std.specs.Prelude.{ℕ, zero, suc, ◌+◌, ◌%◌, ◌/◌, cond, List, [], ◌∷◌, ltb}

-- with at most `more` groups after this one
unfoldable pub groups : ℕ → ℕ → List ℕ
groups zero n = n ∷ []
groups (suc more) n = cond (ltb n 128) (n ∷ []) ((128 + n % 128) ∷ groups more (n / 128))

unfoldable pub encode : ℕ → List ℕ
encode n = groups 4 n
