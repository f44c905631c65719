-- The transitive reduction is what it says. An edge stays exactly when no other path joins its ends; the edges that stay have exactly the paths of the relation;
-- and the number of edges is that of the pairs that stay.
use Rattle.std.specs.Prelude.{ℕ, zero, suc, ◌+◌, ◌≤◌, ◌<◌, ◌≡◌, refl, ◌↔◌, Bool, true, false, not, ◌&&◌, List, get_or, ltb}
use Rattle.std.proofs.Common.{sym, ◌∙◌, arith, ltb-true}
use Rattle.std.proofs.Math.Path.{ap}
use Rattle.std.proofs.Math.Decide.{dec_lt}
use Rattle.std.proofs.lemmas.Bool.{not-true}
use Rattle.reply.specs.Tools.{any, count, sum}
use Rattle.reply.specs.Tests.{split, clash, both}
use Rattle.reply.specs.AllAny.{any_true, any_make}
use Rattle.reply.specs.Counts.{count_suc, count_same, sum_same}
use Rattle.marks.specs.Row.{marked, no_marks, row_of, count_of}
use Rattle.marks.specs.Laws.{marked_row, count_is}
use Rattle.network.specs.Lists.{fill_to}
use Rattle.network.specs.ListLaws.{get_or_table, fill_at}
use Rattle.network.specs.Chains.{Chain, one, more, Relation, holds, relation, chains}
use Rattle.network.specs.ChainLaws.{relation_holds, relation_within, chain_join, chains_sound, chains_complete}
use Rattle.network.specs.Net.{Net}
use Rattle.graph.specs.Work.{Work, job_count_of, precedes, precedes_by, work_of}
use Rattle.graph.specs.Graph.{Path, Other, stays_by, reduction_of, edges_of, edge_count, stays, reduction, rows_from}
use Rattle.graph.specs.declared.Job.{Job}

-- a relation of the numbers below n that only goes forward
pub record Forward (n : ℕ) (before : Relation) : Type 0 where
  pub within : (i j : ℕ) → holds before i j ≡ true → (i < n) × (j < n)
  pub onward : (i j : ℕ) → holds before i j ≡ true → i < j

pub relation_forward : (n : ℕ) (q : ℕ → ℕ → Bool) → ((i j : ℕ) → q i j ≡ true → i < j) → Forward n (relation n q)
relation_forward n q f = record {
  within = relation_within n q;
  onward = λ i j e. let (hi, hj) = relation_within n q i j e in f i j (sym (relation_holds n q i j hi hj) ∙ e);
}

-- another path from i to j than the edge itself: a step to some number, and a path from there
pub record Another (before : Relation) (i j : ℕ) : Type 0 where
  pub over : ℕ
  pub step : holds before i over ≡ true
  pub path : Chain (holds before) over j

-- ---- which edges stay

-- it holds at numbers below n alone
pub reduction_within : (n : ℕ) (before : Relation) (i j : ℕ) → holds (reduction_of n before) i j ≡ true → (i < n) × (j < n)
unfolding reduction_of
reduction_within n before i j e = relation_within n (stays_by n before (chains n (holds before))) i j e

module _ (n : ℕ) (before : Relation) (f : Forward n before) where
  -- a number that an edge leads to from i, and from which a path leads to j
  abbrev joins : ℕ → ℕ → ℕ → Bool
  joins i j k = holds before i k && holds (chains n (holds before)) k j

  stays_is : (i j : ℕ) → i < n → j < n → holds (reduction_of n before) i j ≡ (holds before i j && not (any n (joins i j)))
  unfolding reduction_of stays_by
  stays_is i j hi hj = relation_holds n (stays_by n before (chains n (holds before))) i j hi hj

  another_found : (i j : ℕ) → Another before i j → any n (joins i j) ≡ true
  another_found i j o =
      any_make n (joins i j) o.over (f.within i o.over o.step).1
      (rw o.step (chains_complete n (holds before) f.within o.path))

  found_another : (i j : ℕ) → j < n → any n (joins i j) ≡ true → Another before i j
  found_another i j hj t =
      let (k, l, q) = any_true n (joins i j) t in
      let (s, m) = both (holds before i k) (holds (chains n (holds before)) k j) q in
      record { over = k; step = s; path = chains_sound n (holds before) f.within k j l hj m }

  pub stays_holds : (i j : ℕ) → holds (reduction_of n before) i j ≡ true → holds before i j ≡ true
  stays_holds i j e =
      let (hi, hj) = reduction_within n before i j e in
      (both (holds before i j) (not (any n (joins i j))) (sym (stays_is i j hi hj) ∙ e)).0

  pub stays_alone : (i j : ℕ) → holds (reduction_of n before) i j ≡ true → ¬ (Another before i j)
  stays_alone i j e =
      let (hi, hj) = reduction_within n before i j e in
      let (p, t) = both (holds before i j) (not (any n (joins i j))) (sym (stays_is i j hi hj) ∙ e) in
      λ o. clash (another_found i j o) (not-true (any n (joins i j)) t)

  -- an edge stays, or another path joins its ends
  pub stays_or : {P : Type 0} (i j : ℕ) → holds before i j ≡ true → (holds (reduction_of n before) i j ≡ true → P) → (Another before i j → P) → P
  stays_or i j p s o =
      let (hi, hj) = f.within i j p in
      split (any n (joins i j)) (λ t. o (found_another i j hj t)) (λ t. s (stays_is i j hi hj ∙ rw (p, t)))

  -- "an edge stays exactly when no other path joins its ends"
  pub edge_stays : (i j : ℕ) → (holds (reduction_of n before) i j ≡ true) ↔ ((holds before i j ≡ true) × ¬ (Another before i j))
  edge_stays i j = (
    λ e. (stays_holds i j e, stays_alone i j e),
    λ w. stays_or i j w.0 (λ e. e) (λ o. absurd (w.1 o)),
  )

  -- the edges that stay are again a relation of the numbers below n that only goes forward
  pub reduction_forward : Forward n (reduction_of n before)
  reduction_forward = record { within = reduction_within n before; onward = λ i j e. f.onward i j (stays_holds i j e) }

-- ---- paths

pub chain_onward : (n : ℕ) (before : Relation) → Forward n before → {i j : ℕ} → Chain (holds before) i j → i < j
chain_onward n before f {i} {j} (one s) = f.onward i j s
chain_onward n before f {i} {j} (more {b = k} s d) = omega (arith, f.onward i k s, chain_onward n before f d)

module _ (n : ℕ) (before : Relation) (f : Forward n before) where
  kept_path : {i j : ℕ} → Chain (holds (reduction_of n before)) i j → Chain (holds before) i j
  kept_path {i} {j} (one s) = one (stays_holds n before f i j s)
  kept_path {i} {j} (more {b = k} s d) = more (stays_holds n before f i k s) (kept_path d)

  -- a path whose ends are at most `far` apart: an edge that does not stay is replaced by a path of shorter edges
  path_kept : (far i j : ℕ) → j ≤ i + far → Chain (holds before) i j → Chain (holds (reduction_of n before)) i j
  path_kept zero i j h c = absurd (omega (arith, chain_onward n before f c))
  path_kept (suc far) i j h (one s) = stays_or n before f i j s (λ e. one e)
      (λ o.
      let a : i < o.over = f.onward i o.over o.step in
      let b : o.over < j = chain_onward n before f o.path in
      chain_join (path_kept far i o.over (omega arith) (one o.step)) (path_kept far o.over j (omega arith) o.path))
  path_kept (suc far) i j h (more {b = k} s d) =
      let a : i < k = f.onward i k s in
      let b : k < j = chain_onward n before f d in
      chain_join (path_kept far i k (omega arith) (one s)) (path_kept far k j (omega arith) d)

  -- the edges that stay have exactly the paths of the relation
  pub same_paths : (i j : ℕ) → Chain (holds (reduction_of n before)) i j ↔ Chain (holds before) i j
  same_paths i j = (λ c. kept_path c, λ c. path_kept j i j (omega arith) c)

-- ---- the number of edges

-- edge by edge: of each i below n, the j below n that it holds at
pub edges_counted : (n : ℕ) (edges : Relation) → edges_of n edges ≡ sum n (λ i. count n (λ j. holds edges i j))
unfolding edges_of
edges_counted n edges = refl

-- a test that fails from m on counts as many below n as below m
count_within : (m n : ℕ) (q : ℕ → Bool) → m ≤ n → ((i : ℕ) → m ≤ i → q i ≡ false) → count n q ≡ count m q
count_within m zero q h e = let z : 0 ≡ m = omega arith in ap (λ (x : ℕ). count x q) z
count_within m (suc n) q h e = elim (dec_lt n m) [
  | yes l ↦ let z : suc n ≡ m = omega arith in ap (λ (x : ℕ). count x q) z
  | no l ↦ count_suc n q ∙ rw (e n (omega arith)) (omega (arith, count_within m n q (omega arith) e))
]

module _ (n : ℕ) (edges : Relation) (size : n ≤ 128) (within : (i j : ℕ) → holds edges i j ≡ true → (i < n) × (j < n)) where
  not_past : (i j : ℕ) → n ≤ j → holds edges i j ≡ false
  not_past i j h = split (holds edges i j) (λ t. let w : j < n = (within i j t).1 in absurd (omega arith)) (λ t. t)

  row_count : (i : ℕ) → i < n → count_of (get_or (rows_from n edges) i no_marks) ≡ count n (λ j. holds edges i j)
  unfolding rows_from
  row_count i h =
      ap count_of (get_or_table n (λ i. row_of (λ j. holds edges i j)) i no_marks h)
      ∙ count_is (row_of (λ j. holds edges i j))
      ∙ count_same 128 (marked (row_of (λ j. holds edges i j))) (λ j. holds edges i j) (λ j l. marked_row (λ j. holds edges i j) j l)
      ∙ count_within n 128 (λ j. holds edges i j) size (not_past i)

  -- the marks of the rows, counted row by row, are the edges
  pub rows_count : sum n (λ i. count_of (get_or (rows_from n edges) i no_marks)) ≡ edges_of n edges
  rows_count = sum_same n _ _ row_count ∙ sym (edges_counted n edges)

  -- also with empty rows after them
  pub filled_count : sum n (λ i. count_of (get_or (fill_to 128 no_marks (rows_from n edges)) i no_marks)) ≡ edges_of n edges
  filled_count = sum_same n _ _ (λ i h. ap count_of (fill_at 128 no_marks (rows_from n edges) i)) ∙ rows_count

-- ---- the jobs of a frame

-- "i < j"
precedes_onward : (ahead : Relation) (jobs : List Job) (i j : ℕ) → precedes_by ahead jobs i j ≡ true → i < j
unfolding precedes_by
precedes_onward ahead jobs i j e = ltb-true i j (both (ltb i j) _ e).0

pub work_forward : (net : Net) → Forward (job_count_of (work_of net)) (work_of net).before
unfolding work_of
work_forward net = relation_forward _ _ (precedes_onward _ _)

module _ (w : Work) (f : Forward (job_count_of w) w.before) where
  -- "an edge stays exactly when no other path joins its ends"
  pub work_stays : (i j : ℕ) → (stays w i j ≡ true) ↔ ((precedes w i j ≡ true) × ¬ (Other w i j))
  work_stays i j =
      let (to, from) = edge_stays (job_count_of w) w.before f i j in (
        λ e. ((to e).0, λ o. (to e).1 (record { over = o.over; step = o.step; path = o.path })),
        λ p. from (p.0, λ o. p.1 (record { over = o.over; step = o.step; path = o.path })),
      )

  pub work_paths : (i j : ℕ) → Chain (stays w) i j ↔ Path w i j
  work_paths i j = same_paths (job_count_of w) w.before f i j

  pub work_edges : edge_count w ≡ sum (job_count_of w) (λ i. count (job_count_of w) (λ j. stays w i j))
  unfolding edge_count
  work_edges = edges_counted (job_count_of w) (reduction w)
