-- The loop over the jobs in falling order: what each reaches, and which of its successors keep their edge.
use Prim.Native.Nat.{ℕ, ◌-◌, ◌≤◌, ◌<◌, zero, suc}
use mathlib.Core.Path.{◌≡◌, sym, ap, ap₂, subst, ◌∙◌}
use mathlib.Core.Logic.{◌⊎◌, inl, inr, ⊎_elim}
use mathlib.Core.Bool.{Bool, true, not, ◌&&◌, ◌||◌}
use mathlib.Core.List.{List, []}
use native.Mathlib.Decide.{dec_lt, ℕ_discrete}
use native.Mathlib.Omega.{arith}
use lib.ListN.{length, get_or, set, replicate, length-set, length-replicate}
use lib.Seq.{get_or-set_same, get_or-set_other, ext_get_or}
use borrow.Author.Tests.{not-true}
use Rattle.reply.specs.Tools.{any}
use Rattle.reply.specs.Tests.{split, clash, either, both, both_true, either_true, same_test}
use Rattle.reply.specs.AllAny.{any_true, any_make, any_same}
use Rattle.marks.specs.Row.{marked, no_marks, row_of, or_of, without_of}
use Rattle.marks.specs.Laws.{marked_row, marked_past, rows_same}
use Rattle.marks.specs.declared.Row.{Row}
use Rattle.network.specs.Lists.{table, fill_to}
use Rattle.network.specs.ListLaws.{length_table, length_fill, fill_none, get_or_table, get_or_table_past, fill_at}
use Rattle.network.specs.Chains.{Chain, one, more, Relation, holds, through, chains}
use Rattle.network.specs.ChainLaws.{relation_within, chain_join, chains_sound, chains_complete}
use Rattle.graph.specs.Order.{row_relation}
use Rattle.graph.specs.Graph.{reduction_of, rows_from}
use Rattle.graph.specs.GraphLaws.{Forward, stays_holds, stays_alone, stays_or, chain_onward}
use Rattle.graph.specs.ReductionTold.{Later, ReachesOn, gathered}
use Rattle.graph.specs.ReductionLaws.{held_forward, row_holds}
use Rattle.graph.proofs.Gathering.{gathered_few}

-- ---- paths by their first step

through_within : (n : ℕ) (step : ℕ → ℕ → Bool) (k i j : ℕ) → holds (through n step k) i j ≡ true → (i < n) × (j < n)
unfolding through
through_within n step zero i j e = relation_within n step i j e
through_within n step (suc k) i j e = relation_within n _ i j e

module _ (n : ℕ) (before : Relation) (f : Forward n before) where
  abbrev paths : ℕ → ℕ → Bool
  paths i j = holds (chains n (holds before)) i j

  paths_within : (i j : ℕ) → paths i j ≡ true → (i < n) × (j < n)
  unfolding chains
  paths_within i j e = through_within n (holds before) n i j e

  path_of : (i j : ℕ) → paths i j ≡ true → Chain (holds before) i j
  path_of i j e = let (hi, hj) = paths_within i j e in chains_sound n (holds before) f.within i j hi hj e

  is_path : {i j : ℕ} → Chain (holds before) i j → paths i j ≡ true
  is_path c = chains_complete n (holds before) f.within c

  -- k is a successor of i, and reaches j
  abbrev over : ℕ → ℕ → ℕ → Bool
  over i j k = holds before i k && paths k j

  over_make : (i j k : ℕ) → holds before i k ≡ true → paths k j ≡ true → any n (over i j) ≡ true
  over_make i j k s p = any_make n (over i j) k (f.within i k s).1 (both_true (holds before i k) (paths k j) s p)

  -- what i reaches are its successors and what they reach
  reached_are : (i j : ℕ) → (holds before i j || any n (over i j)) ≡ paths i j
  reached_are i j = same_test (holds before i j || any n (over i j)) (paths i j)
      (λ t. ⊎_elim
      (λ s. is_path (one s))
      (λ u.
      let (k, h, e) = any_true n (over i j) u in
      let (s, p) = both (holds before i k) (paths k j) e in
      is_path (more s (path_of k j p)))
      (either (holds before i j) (any n (over i j)) t))
      (λ t. either_true (holds before i j) (any n (over i j)) (by_first (path_of i j t)))
    where
      by_first : Chain (holds before) i j → (holds before i j ≡ true) ⊎ (any n (over i j) ≡ true)
      by_first (one s) = inl s
      by_first (more {b = k} s d) = inr (over_make i j k s (is_path d))

  -- an edge stays if no other successor reaches its second end
  kept_are : (i j : ℕ) → (holds before i j && not (any n (over i j))) ≡ holds (reduction_of n before) i j
  kept_are i j = same_test (holds before i j && not (any n (over i j))) (holds (reduction_of n before) i j)
      (λ t.
      let (s, u) = both (holds before i j) (not (any n (over i j))) t in
      stays_or n before f i j s (λ e. e) (λ o. clash (over_make i j o.over o.step (is_path o.path)) (not-true (any n (over i j)) u)))
      (λ e. split (any n (over i j))
      (λ u.
      let (k, h, q) = any_true n (over i j) u in
      let (s, p) = both (holds before i k) (paths k j) q in
      absurd (stays_alone n before f i j e (record { over = k; step = s; path = path_of k j p })))
      (λ u. rw (stays_holds n before f i j e, u)))

-- ---- rows stored from the last down

-- the rows from `next` on, of n, are those of f, and the others are empty
pub record StoredFrom (n : ℕ) (f : ℕ → Row) (next : ℕ) (rows : List Row) : Type 0 where
  pub size : length rows ≡ 128
  pub done : (k : ℕ) → next ≤ k → k < n → get_or rows k no_marks ≡ f k
  pub past : (k : ℕ) → n ≤ k → get_or rows k no_marks ≡ no_marks

module _ (n : ℕ) (f : ℕ → Row) (few : n ≤ 128) where
  stored_begins : (rows : List Row) → rows ≡ replicate 128 no_marks → StoredFrom n f n rows
  stored_begins rows e = record {
    size = ap (λ (l : List Row). length l) e ∙ length-replicate 128 no_marks;
    done = λ k h l. absurd (omega arith);
    past = λ k h. ap (λ (l : List Row). get_or l k no_marks) (e ∙ sym (fill_none 128 no_marks)) ∙ fill_at 128 no_marks [] k;
  }

  stored_goes_on : (next : ℕ) (rows : List Row) (row : Row) → 0 < next → next ≤ n → StoredFrom n f next rows → row ≡ f (next - 1)
      → StoredFrom n f (next - 1) (set rows (next - 1) row)
  stored_goes_on next rows row some most s e = record {
    size = length-set rows (next - 1) row ∙ s.size;
    done = λ k h l. elim (ℕ_discrete k (next - 1)) [
      | yes z ↦
          subst (λ x. get_or (set rows (next - 1) row) x no_marks ≡ f x) (sym z)
          (get_or-set_same rows (next - 1) row no_marks (omega (arith, s.size)) ∙ e)
      | no d ↦ get_or-set_other rows (next - 1) k row no_marks d ∙ s.done k (omega arith) l
    ];
    past = λ k h. get_or-set_other rows (next - 1) k row no_marks (λ z. omega arith) ∙ s.past k h;
  }

  pub stored_ends : (next : ℕ) (rows : List Row) → next ≤ 0 → StoredFrom n f next rows → rows ≡ fill_to 128 no_marks (table n f)
  stored_ends next rows h s =
      ext_get_or no_marks rows (fill_to 128 no_marks (table n f))
      (s.size ∙ sym (length_fill 128 no_marks (table n f) (omega (arith, length_table n f))))
      (λ k b. sym (fill_at 128 no_marks (table n f) k ∙ elim (dec_lt k n) [
        | yes c ↦ get_or_table n f k no_marks c ∙ sym (s.done k (omega arith) c)
        | no c ↦ get_or_table_past n f k no_marks (omega arith) ∙ sym (s.past k (omega arith))
      ]))

-- ---- the loop

-- the rows from `next` on mark what each job reaches, and the successors to which its edge stays
pub record ReducedSoFar (n : ℕ) (after : List Row) (next : ℕ) (reached edges : List Row) : Type 0 where
  pub reached_so_far : StoredFrom n (λ i. row_of (λ j. holds (chains n (holds (row_relation n after))) i j)) next reached
  pub edges_so_far : StoredFrom n (λ i. row_of (λ j. holds (reduction_of n (row_relation n after)) i j)) next edges

module _ (n : ℕ) (after : List Row) (size : n ≤ 128) (later : Later n after) where
  abbrev held : Relation
  held = row_relation n after

  forward : Forward n held
  forward = held_forward n after later

  pub reduction_begins : (reached edges : List Row) → reached ≡ replicate 128 no_marks → edges ≡ replicate 128 no_marks → ReducedSoFar n after n reached edges
  reduction_begins reached edges r e = record { reached_so_far = stored_begins n _ size reached r; edges_so_far = stored_begins n _ size edges e }

  pub reduction_ends : (next : ℕ) (reached edges : List Row) → next ≤ 0 → ReducedSoFar n after next reached edges
      → edges ≡ fill_to 128 no_marks (rows_from n (reduction_of n held))
  unfolding rows_from
  reduction_ends next reached edges h s = stored_ends n _ size next edges h s.edges_so_far

  module _ (next : ℕ) (reached edges : List Row) (some : 0 < next) (most : next ≤ n) (s : ReducedSoFar n after next reached edges) where
    successor_below : (k : ℕ) → marked (get_or after (next - 1) no_marks) k ≡ true → k < n
    successor_below k t = (later.later (next - 1) k (omega arith) t).1

    successor_past : (k : ℕ) → marked (get_or after (next - 1) no_marks) k ≡ true → next ≤ k
    successor_past k t = let h : next - 1 < k = (later.later (next - 1) k (omega arith) t).0 in omega arith

    reached_row : (k : ℕ) → next ≤ k → k < n → get_or reached k no_marks ≡ row_of (λ j. holds (chains n (holds held)) k j)
    reached_row k h l = s.reached_so_far.done k h l

    marks_path : (k j : ℕ) → next ≤ k → k < n → marked (get_or reached k no_marks) j ≡ true → holds (chains n (holds held)) k j ≡ true
    marks_path k j h l t = elim (dec_lt j 128) [
      | yes b ↦ sym (ap (λ (r : Row). marked r j) (reached_row k h l) ∙ marked_row _ j b) ∙ t
      | no b ↦ absurd (clash t (marked_past (get_or reached k no_marks) j (omega arith)))
    ]

    -- what is reached from a reached job is reached
    joined : (i : ℕ) → marked (get_or after (next - 1) no_marks) i ≡ true → (k x : ℕ) → i < n → marked (get_or reached i no_marks) k ≡ true
        → marked (get_or reached k no_marks) x ≡ true → marked (get_or reached i no_marks) x ≡ true
    joined i t k x l a b =
        let near : holds (chains n (holds held)) i k ≡ true = marks_path i k (successor_past i t) l a in
        let below : k < n = (paths_within n held forward i k near).1 in
        let on : i < k = chain_onward n held forward (path_of n held forward i k near) in
        let far : holds (chains n (holds held)) k x ≡ true = marks_path k x (omega (arith, successor_past i t)) below b in
        let p : holds (chains n (holds held)) i x ≡ true = is_path n held forward (chain_join (path_of n held forward i k near) (path_of n held forward k x far)) in
        let w : x < n = (paths_within n held forward i x p).1 in
        ap (λ (r : Row). marked r x) (reached_row i (successor_past i t) l) ∙ marked_row _ x (omega arith) ∙ p

    pub reached_join : ReachesOn reached (get_or after (next - 1) no_marks)
    reached_join = record { join = λ i k x t a b. joined i t k x (successor_below i t) a b }

    module _ (far : Row) (g : far ≡ gathered 128 reached (get_or after (next - 1) no_marks)) where
      far_marks : (j : ℕ) → j < 128 → marked far j ≡ any n (over n held forward (next - 1) j)
      unfolding gathered
      far_marks j hj =
          ap (λ (r : Row). marked r j) (g ∙ gathered_few n reached (get_or after (next - 1) no_marks) size successor_below)
          ∙ marked_row _ j hj
          ∙ any_same n _ _ (λ k l. split (marked (get_or after (next - 1) no_marks) k)
          (λ t. ap₂ (λ x y. x && y) (row_holds n after later (next - 1) k (omega arith)) (ap (λ (r : Row). marked r j) (reached_row k (successor_past k t) l) ∙ marked_row _ j hj))
          (λ t. rw (t, sym (row_holds n after later (next - 1) k (omega arith)) ∙ t)))

      all_row : or_of (get_or after (next - 1) no_marks) far ≡ row_of (λ j. holds (chains n (holds held)) (next - 1) j)
      unfolding or_of
      all_row = rows_same _ _ (λ j hj. rw (row_holds n after later (next - 1) j (omega arith), far_marks j hj) (reached_are n held forward (next - 1) j))

      kept_row : without_of (get_or after (next - 1) no_marks) far ≡ row_of (λ j. holds (reduction_of n held) (next - 1) j)
      unfolding without_of
      kept_row = rows_same _ _ (λ j hj. rw (row_holds n after later (next - 1) j (omega arith), far_marks j hj) (kept_are n held forward (next - 1) j))

      pub reduction_goes_on : (all kept : Row) → all ≡ or_of (get_or after (next - 1) no_marks) far → kept ≡ without_of (get_or after (next - 1) no_marks) far
          → ReducedSoFar n after (next - 1) (set reached (next - 1) all) (set edges (next - 1) kept)
      reduction_goes_on all kept r k = record {
        reached_so_far = stored_goes_on n _ size next reached all some most s.reached_so_far (r ∙ all_row);
        edges_so_far = stored_goes_on n _ size next edges kept some most s.edges_so_far (k ∙ kept_row);
      }
