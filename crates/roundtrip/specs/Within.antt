-- What stands within the counts of a struct, element by element.
use Rattle.std.specs.Prelude.{ℕ, ◌≤◌, ◌<◌, ◌≡◌, length, get_or, take}
use Rattle.std.proofs.Common.{◌∙◌, arith, length-take, get_or-take, length-take-le}
use mathlib.Core.List.{List, []}
use Rattle.network.specs.Lists.{table}
use Rattle.network.specs.ListLaws.{length_table, get_or_table}
use Rattle.network.specs.Net.{no_four, four_at, program_at, within}
use Rattle.network.specs.declared.Four.{Four}
use Rattle.network.specs.declared.Network.{Network}

pub take_at : {A : Type 0} (n : ℕ) (l : List A) (d : A) (i : ℕ) → i < length (take n l) → get_or (take n l) i d ≡ get_or l i d
take_at n l d i h = get_or-take n l i d (omega (arith, length-take n l))

module _ {A : Type 0} (n m : ℕ) (f : ℕ → A) where
  take_table_length : n ≤ m → length (take n (table m f)) ≡ n
  take_table_length h = length-take-le n (table m f) (omega (arith, length_table m f))

  take_table_at : (d : A) (i : ℕ) → i < length (take n (table m f)) → get_or (take n (table m f)) i d ≡ f i
  take_table_at d i h = take_at n (table m f) d i h ∙ get_or_table m f i d (omega (arith, length-take n (table m f), length_table m f))

module _ (actions : List ℕ) (count p : ℕ) where
  pub program_length_lem : count ≤ 24 → length (program_at actions count p) ≡ count
  unfolding program_at
  program_length_lem h = take_table_length count 24 (λ k. four_at actions p k) h

  pub program_four : (k : ℕ) → k < length (program_at actions count p) → get_or (program_at actions count p) k no_four ≡ four_at actions p k
  unfolding program_at
  program_four k h = take_table_at count 24 (λ k. four_at actions p k) no_four k h

module _ (s : Network) where
  abbrev program : ℕ → List Four
  program p = program_at s.actions (get_or s.action_counts p 0) p

  pub within_length : s.process_count ≤ 12 → length (within s).programs ≡ s.process_count
  unfolding within
  within_length h = take_table_length s.process_count 12 program h

  pub within_program : (p : ℕ) → p < length (within s).programs → get_or (within s).programs p [] ≡ program_at s.actions (get_or s.action_counts p 0) p
  unfolding within
  within_program p h = take_table_at s.process_count 12 program [] p h
