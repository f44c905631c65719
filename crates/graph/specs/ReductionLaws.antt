-- Rows of successors and the relation that they hold, both ways.
use Rattle.std.specs.Prelude.{ℕ, ◌≤◌, ◌<◌, ◌≡◌, Bool, List, get_or}
use Rattle.std.proofs.Math.Path.{sym, ap}
use Rattle.std.proofs.Common.{◌∙◌, arith}
use Rattle.std.proofs.Math.Bool.{true, false}
use Rattle.std.proofs.Math.Decide.{dec_lt}
use Rattle.reply.specs.Tests.{split}
use Rattle.marks.specs.Row.{marked, no_marks}
use Rattle.marks.specs.Laws.{marked_row, marked_past, marked_none}
use Rattle.marks.specs.declared.Row.{Row}
use Rattle.network.specs.Lists.{fill_to}
use Rattle.network.specs.ListLaws.{get_or_table, get_or_table_past, fill_at}
use Rattle.network.specs.Chains.{Relation, holds, relation}
use Rattle.network.specs.ChainLaws.{relation_holds, relation_within}
use Rattle.network.specs.ChainsSame.{relation_same}
use Rattle.network.specs.Net.{Net}
use Rattle.graph.specs.Order.{row_relation}
use Rattle.graph.specs.Work.{job_count_of, work_of}
use Rattle.graph.specs.Graph.{reduction, edge_count, rows_from}
use Rattle.graph.specs.GraphLaws.{Forward}
use Rattle.graph.specs.ReductionTold.{Later, ReducedFrom}

-- ---- from rows to the relation

module _ (n : ℕ) (rows : List Row) (e : Later n rows) where
  pub held_forward : Forward n (row_relation n rows)
  unfolding row_relation
  held_forward = record {
    within = relation_within n _;
    onward = λ i j t. let (hi, hj) = relation_within n _ i j t in (e.later i j hi (sym (relation_holds n _ i j hi hj) ∙ t)).0;
  }

  -- the marks of row i
  pub row_holds : (i j : ℕ) → i < n → marked (get_or rows i no_marks) j ≡ holds (row_relation n rows) i j
  unfolding row_relation
  row_holds i j hi = elim (dec_lt j n) [
    | yes hj ↦ sym (relation_holds n _ i j hi hj)
    | no hj ↦ split (marked (get_or rows i no_marks) j)
        (λ t. let h : j < n = (e.later i j hi t).1 in absurd (omega arith))
        (λ t. t ∙ sym (split (holds (row_relation n rows) i j) (λ u. let h : j < n = (relation_within n _ i j u).1 in absurd (omega arith)) (λ u. u)))
  ]

-- ---- from the relation to rows

-- of a relation of the numbers below n
module _ (n : ℕ) (r : Relation) (size : n ≤ 128) (within : (i j : ℕ) → holds r i j ≡ true → (i < n) × (j < n)) where
  pub rows_mark : (i j : ℕ) → marked (get_or (fill_to 128 no_marks (rows_from n r)) i no_marks) j ≡ holds r i j
  unfolding rows_from
  rows_mark i j =
      ap (λ (row : Row). marked row j) (fill_at 128 no_marks (rows_from n r) i)
      ∙ elim (dec_lt i n) [
        | yes hi ↦ ap (λ (row : Row). marked row j) (get_or_table n _ i no_marks hi) ∙ elim (dec_lt j 128) [
          | yes hj ↦ marked_row _ j hj
          | no hj ↦ marked_past _ j (omega arith) ∙ sym (fails (λ t. let h : j < n = (within i j t).1 in omega arith))
        ]
        | no hi ↦ ap (λ (row : Row). marked row j) (get_or_table_past n _ i no_marks (omega arith)) ∙ marked_none j
            ∙ sym (fails (λ t. let h : i < n = (within i j t).0 in omega arith))
      ]
    where
      fails : {b : Bool} → (b ≡ true → ⊥) → b ≡ false
      fails {b} f = split b (λ t. absurd (f t)) (λ t. t)

pub rows_later : (n : ℕ) (r : Relation) → n ≤ 128 → Forward n r → Later n (fill_to 128 no_marks (rows_from n r))
rows_later n r size f = record {
  later = λ i j h t. let u : holds r i j ≡ true = sym (rows_mark n r size f.within i j) ∙ t in (f.onward i j u, (f.within i j u).1);
}

-- the rows of a relation hold it
pub rows_held : (n : ℕ) (q : ℕ → ℕ → Bool) → n ≤ 128 → row_relation n (fill_to 128 no_marks (rows_from n (relation n q))) ≡ relation n q
unfolding row_relation
rows_held n q size = relation_same n _ q (λ i j hi hj. rows_mark n (relation n q) size (relation_within n q) i j ∙ relation_holds n q i j hi hj)

pub work_held : (net : Net) → job_count_of (work_of net) ≤ 128
    → row_relation (job_count_of (work_of net)) (fill_to 128 no_marks (rows_from (job_count_of (work_of net)) (work_of net).before)) ≡ (work_of net).before
unfolding work_of
work_held net size = rows_held _ _ size

-- what the reduction of the rows of a frame's work returns is its graph
pub work_reduced : (net : Net) (rows : List Row) (edges : ℕ) → job_count_of (work_of net) ≤ 128
    → ReducedFrom (job_count_of (work_of net)) (fill_to 128 no_marks (rows_from (job_count_of (work_of net)) (work_of net).before)) rows edges
    → (rows ≡ fill_to 128 no_marks (rows_from (job_count_of (work_of net)) (reduction (work_of net)))) × (edges ≡ edge_count (work_of net))
unfolding edge_count
work_reduced net rows edges size r = (r.rows_are ∙ rw (work_held net size), r.edges_are ∙ rw (work_held net size))
