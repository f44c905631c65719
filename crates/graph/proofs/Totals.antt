-- The loop that counts the marks of rows, and what the reduction returns.
use Prim.Native.Nat.{ℕ, ◌+◌, ◌*◌, ◌≤◌}
use mathlib.Core.Path.{◌≡◌, sym, ap, ◌∙◌}
use mathlib.Core.List.{List}
use native.Mathlib.Numerals.{add-one}
use native.Mathlib.Omega.{arith}
use lib.ListN.{length, get_or, take}
use lib.Seq.{get_or-take, length-take-le}
use Rattle.reply.specs.Counts.{sum_zero, sum_suc, sum_same}
use Rattle.marks.specs.Row.{no_marks, row_of, count_of}
use Rattle.marks.specs.Laws.{counted_most}
use Rattle.marks.specs.declared.Row.{Row}
use Rattle.network.specs.Lists.{fill_to}
use Rattle.network.specs.ListLaws.{length_fill, length_table}
use Rattle.network.specs.Chains.{holds}
use Rattle.graph.specs.Order.{row_relation}
use Rattle.graph.specs.Graph.{reduction_of, rows_from}
use Rattle.graph.specs.GraphLaws.{reduction_forward, filled_count}
use Rattle.graph.specs.ReductionTold.{Later, ReducedFrom, marks_of}
use Rattle.graph.specs.ReductionLaws.{held_forward}

-- ---- the marks of the rows below i

pub record CountedSoFar (rows : List Row) (i total : ℕ) : Type 0 where
  pub counted : total ≡ marks_of i rows
  pub small : total ≤ 128 * i

module _ (rows : List Row) where
  pub total_begins : CountedSoFar rows 0 0
  unfolding marks_of
  total_begins = record { counted = sym (sum_zero _); small = omega arith }

  pub total_goes_on : (i total marks : ℕ) → CountedSoFar rows i total → marks ≡ count_of (get_or rows i no_marks) → CountedSoFar rows (i + 1) (total + marks)
  unfolding marks_of
  total_goes_on i total marks s e = record {
    counted = rw (s.counted, e, add-one i) (sym (sum_suc i (λ k. count_of (get_or rows k no_marks))));
    small = omega (arith, s.small, e, counted_most (get_or rows i no_marks));
  }

-- the marks of the first n rows
pub marks_front : (n : ℕ) (rows : List Row) → n ≤ length rows → marks_of (length (take n rows)) (take n rows) ≡ marks_of n rows
unfolding marks_of
marks_front n rows h =
    ap (λ (k : ℕ). marks_of k (take n rows)) (length-take-le n rows h)
    ∙ sum_same n _ _ (λ i l. ap (λ (r : Row). count_of r) (get_or-take n rows i no_marks l))

-- ---- the whole

pub reduced : (n : ℕ) (after : List Row) → n ≤ 128 → Later n after → (rows : List Row) (edges : ℕ)
    → rows ≡ fill_to 128 no_marks (rows_from n (reduction_of n (row_relation n after))) → edges ≡ marks_of (length (take n rows)) (take n rows) → ReducedFrom n after rows edges
unfolding marks_of rows_from
reduced n after size later rows edges r e =
    let forward = reduction_forward n (row_relation n after) (held_forward n after later) in
    let all : length rows ≡ 128 = ap (λ (l : List Row). length l) r ∙ length_fill 128 no_marks _ (omega (arith, length_table n (λ i. row_of (λ j. holds (reduction_of n (row_relation n after)) i j)))) in
    record { rows_are = r; edges_are = e ∙ marks_front n rows (omega arith) ∙ rw r (filled_count n (reduction_of n (row_relation n after)) size forward.within) }
