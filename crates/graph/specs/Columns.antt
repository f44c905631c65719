-- A column of a table of 128 records, jobs or rows: one number of each.
use Rattle.std.specs.Prelude.{ℕ, ◌<◌, ◌≡◌, List, map, length, get_or}
use Rattle.std.proofs.Common.{sym, ap, ◌∙◌, arith, ext_get_or}
use Rattle.std.proofs.lemmas.List.{length-map}
use Rattle.std.proofs.Math.ListN.{get_or-map}

pub record Column {A : Type 0} (none : A) (field : A → ℕ) (table : List A) (column : List ℕ) : Type 0 where
  pub size : length column ≡ 128
  pub each : (j : ℕ) → j < 128 → get_or column j 0 ≡ field (get_or table j none)

-- it is all of them, one by one
pub column_is : {A : Type 0} (none : A) (field : A → ℕ) → field none ≡ 0 → (table : List A) → length table ≡ 128 → (column : List ℕ) → Column none field table column → column ≡ map field table
column_is none field zero table size column told =
    ext_get_or 0 column (map field table) (told.size ∙ sym (length-map table field ∙ size)) λ j h.
    told.each j (omega (arith, told.size)) ∙ sym (ap (λ (d : ℕ). get_or (map field table) j d) (sym zero) ∙ get_or-map field table j none)
