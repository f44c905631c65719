-- The loops over rows of marks: the rows joined so far, and the search for a chain that leads back.
use Prim.Native.Nat.{ℕ, ◌+◌, ◌≤◌, ◌<◌}
use mathlib.Core.Path.{◌≡◌, refl, sym, ap, ap₂, subst, ◌∙◌}
use mathlib.Core.Bool.{Bool}
use mathlib.Core.List.{List, ◌++◌}
use native.Mathlib.Decide.{ℕ_discrete}
use native.Mathlib.Numerals.{add-one}
use native.Mathlib.Omega.{arith}
use lib.ListN.{length, get_or, set, take, drop, length-set, length-append, get_or-append}
use lib.Seq.{get_or-set_same, get_or-set_other}
use Rattle.std.proofs.Common.{length-take-le, length-drop, get_or-take}
use Rattle.std.specs.List.{list_any, range_with_len}
use Rattle.reply.specs.Tools.{any}
use Rattle.reply.specs.AllAny.{any_same}
use Rattle.marks.specs.Row.{marked, no_marks}
use Rattle.marks.specs.declared.Row.{Row}
use Rattle.network.specs.Chains.{holds, chains}
use Rattle.network.proofs.AnyRange.{any_range}
use Rattle.network.specs.RowChains.{joined, Joined, Leads, leads_more}

-- ---- one step

-- the rows below a are joined with row k, which is `via`, and the others are as they were
pub record RowsSoFar (k : ℕ) (via : Row) (old : List Row) (a : ℕ) (new : List Row) : Type 0 where
  pub size : length new ≡ length old
  pub rows : (i : ℕ) → i < a → get_or new i no_marks ≡ joined k via (get_or old i no_marks)
  pub rest : (i : ℕ) → a ≤ i → get_or new i no_marks ≡ get_or old i no_marks

module _ (k : ℕ) (via : Row) (old : List Row) where
  pub rows_begin : RowsSoFar k via old 0 old
  rows_begin = record { size = refl; rows = λ i h. absurd (omega arith); rest = λ i h. refl }

  pub rows_go_on : (a : ℕ) (new : List Row) (row : Row) → a < length new → RowsSoFar k via old a new → row ≡ joined k via (get_or new a no_marks)
      → RowsSoFar k via old (a + 1) (set new a row)
  rows_go_on a new row h s e = record {
    size = length-set new a row ∙ s.size;
    rows = λ i l. elim (ℕ_discrete i a) [
      | yes z ↦
          subst (λ x. get_or (set new a row) x no_marks ≡ joined k via (get_or old x no_marks)) (sym z)
          (get_or-set_same new a row no_marks h ∙ e ∙ ap (joined k via) (s.rest a (omega arith)))
      | no d ↦ get_or-set_other new a i row no_marks d ∙ s.rows i (omega arith)
    ];
    rest = λ i l. get_or-set_other new a i row no_marks (λ z. omega arith) ∙ s.rest i (omega arith);
  }

-- the first n rows of `old` joined, and the others after them as they were
module _ (n k : ℕ) (via : Row) (old new : List Row) (a : ℕ) (small : n ≤ length old) (s : RowsSoFar k via (take n old) a new) where
  pub joined_size : length (new ++ drop n old) ≡ length old
  joined_size = omega (arith, length-append new (drop n old), s.size, length-take-le n old small, length-drop n old)

  pub rows_end : n ≤ a → via ≡ get_or old k no_marks → Joined n k old (new ++ drop n old)
  rows_end h e = record {
    rows = λ i l.
        get_or-append new (drop n old) no_marks i (omega (arith, s.size, length-take-le n old small))
        ∙ s.rows i (omega arith)
        ∙ ap₂ (λ (v r : Row). joined k v r) e (get_or-take n old i no_marks l);
  }

-- ---- all steps

module _ (n : ℕ) (step : ℕ → ℕ → Bool) where
  pub leads_on : (k : ℕ) (old new : List Row) → k < n → Leads n step k old → Joined n k old new → Leads n step (k + 1) new
  leads_on k old new h l j = rw (add-one k) (leads_more n step k old new h l j)

  pub leads_all : (k : ℕ) (rows : List Row) → k ≤ n → n ≤ k → Leads n step k rows → Leads n step n rows
  leads_all k rows h l s = subst (λ x. Leads n step x rows) (omega arith) s

-- ---- the search

module _ (n : ℕ) (step : ℕ → ℕ → Bool) (rows : List Row) (s : Leads n step n rows) where
  leads_back : (a : ℕ) → a < n → holds (chains n step) a a ≡ marked (get_or rows a no_marks) a
  unfolding chains
  leads_back a h = sym (s.marks a a h h)

  -- a chain over the first n rows finds one that has its own mark
  pub back_any : (r : Bool) → n ≤ length rows → r ≡ list_any (λ a. marked (get_or (take n rows) a no_marks) a) (range_with_len 0 (length (take n rows)))
      → r ≡ any n (λ a. holds (chains n step) a a)
  back_any r h e =
      e ∙ any_range (λ a. marked (get_or (take n rows) a no_marks) a) (length (take n rows))
      ∙ rw (length-take-le n rows h) (any_same n _ _ (λ a l. ap (λ (t : Row). marked t a) (get_or-take n rows a no_marks l) ∙ sym (leads_back a l)))
