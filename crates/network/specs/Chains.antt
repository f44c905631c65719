-- Chains: steps of a relation, one after another, that lead from one number to another.
use Rattle.std.specs.Prelude.{ℕ, zero, suc, ◌≡◌, Bool, true, false, ◌&&◌, ◌||◌, List, [], get_or}
use Rattle.network.specs.Lists.{table}

-- what is meant: one step, or a step and a chain after it
pub data Chain (step : ℕ → ℕ → Bool) : ℕ → ℕ → Type 0 where
  one : {a b : ℕ} → step a b ≡ true → Chain step a b
  more : {a b c : ℕ} → step a b ≡ true → Chain step b c → Chain step a c

-- a relation of the numbers below n as a table
abbrev pub Relation : Type 0
Relation = List (List Bool)

unfoldable pub holds : Relation → ℕ → ℕ → Bool
holds r a b = get_or (get_or r a []) b false

unfoldable pub relation : ℕ → (ℕ → ℕ → Bool) → Relation
relation n q = table n (λ a. table n (λ b. q a b))

-- of the numbers below n: a chain leads from a to b through numbers below k alone
unfoldable pub through : ℕ → (ℕ → ℕ → Bool) → ℕ → Relation
through n step zero = relation n step
through n step (suc k) = let t = through n step k in relation n (λ a b. holds t a b || (holds t a k && holds t k b))

-- the decision: a chain leads from a to b, of the numbers below n
unfoldable pub chains : ℕ → (ℕ → ℕ → Bool) → Relation
chains n step = through n step n
