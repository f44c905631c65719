-- Relations that agree below n have the same chains.
use Prim.Native.Nat.{ℕ, zero, suc, ◌<◌}
use Rattle.std.specs.Prelude.{◌≡◌, refl, Bool, ◌&&◌, ◌||◌}
use Rattle.std.proofs.Math.Path.{ap}
use Rattle.std.proofs.Common.{arith}
use Rattle.network.specs.Lists.{table}
use Rattle.network.specs.Chains.{Relation, holds, relation, through, chains}

pub table_same : {A : Type 0} (n : ℕ) (f g : ℕ → A) → ((i : ℕ) → i < n → f i ≡ g i) → table n f ≡ table n g
unfolding table
table_same zero f g e = refl
table_same (suc n) f g e = rw (table_same n f g (λ i h. e i (omega arith)), e n (omega arith))

pub relation_same : (n : ℕ) (q r : ℕ → ℕ → Bool) → ((a b : ℕ) → a < n → b < n → q a b ≡ r a b) → relation n q ≡ relation n r
unfolding relation
relation_same n q r e = table_same n (λ a. table n (λ b. q a b)) (λ a. table n (λ b. r a b)) (λ a h. table_same n (λ b. q a b) (λ b. r a b) (λ b l. e a b h l))

module _ (n : ℕ) (q r : ℕ → ℕ → Bool) (e : (a b : ℕ) → a < n → b < n → q a b ≡ r a b) where
  through_same : (k : ℕ) → through n q k ≡ through n r k
  unfolding through
  through_same zero = relation_same n q r e
  through_same (suc k) = ap (λ (t : Relation). relation n (λ a b. holds t a b || (holds t a k && holds t k b))) (through_same k)

  pub chains_same : chains n q ≡ chains n r
  unfolding chains
  chains_same = through_same n
