-- The loops of `columns`: a number of one record after another.
use Rattle.std.specs.Prelude.{ℕ, ◌+◌, ◌≤◌, ◌<◌, ◌≡◌, List, length, get_or, set, replicate}
use Rattle.std.proofs.Common.{◌∙◌, arith, length-set, get_or-set_same, get_or-set_other}
use Rattle.std.proofs.lemmas.List.{length-replicate}
use borrow.Author.Count.{below_more}
use Rattle.graph.specs.Columns.{Column}

-- the first n are told
pub record Telling {A : Type 0} (none : A) (field : A → ℕ) (table : List A) (column : List ℕ) (n : ℕ) : Type 0 where
  pub most : n ≤ 128
  pub size : length column ≡ 128
  pub each : (j : ℕ) → j < n → get_or column j 0 ≡ field (get_or table j none)

module _ {A : Type 0} {none : A} {field : A → ℕ} {table : List A} where
  pub start : Telling none field table (replicate 128 0) 0
  start = record { most = omega arith; size = length-replicate {A = ℕ} 128 0; each = λ j h. absurd (omega arith) }

  module _ {column : List ℕ} {n : ℕ} (told : Telling none field table column n) where
    pub turn : n < 128 → {x : ℕ} → x ≡ field (get_or table n none) → Telling none field table (set column n x) (n + 1)
    turn h {x} is = record {
      most = omega arith;
      size = length-set column n _ ∙ told.size;
      each = below_more (λ j. get_or (set column n x) j 0 ≡ field (get_or table j none)) n
          (λ j l. get_or-set_other column n j _ 0 (λ e. omega arith) ∙ told.each j l)
          (get_or-set_same column n _ 0 (omega (arith, told.size)) ∙ is);
    }

    pub finish : 128 ≤ n → Column none field table column
    finish h = record { size = told.size; each = λ j l. told.each j (omega arith) }
