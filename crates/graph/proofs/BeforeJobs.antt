-- The jobs of each process, those of its relatives joined to them, and the predecessor rows so far.
use Prim.Native.Nat.{ℕ, suc, ◌+◌, ◌≤◌, ◌<◌}
use mathlib.Core.Path.{◌≡◌, refl, sym, ap, ap₂, subst, ◌∙◌}
use mathlib.Core.Bool.{Bool, true, false, not, ◌&&◌, ◌||◌}
use mathlib.Core.List.{List, []}
use native.Mathlib.Decide.{dec_lt, ℕ_discrete}
use native.Mathlib.Numerals.{add-one}
use native.Mathlib.Omega.{arith}
use lib.ListN.{length, get_or, set, take, replicate, length-set, length-replicate, get_or-replicate}
use lib.Seq.{get_or-set_same, get_or-set_other, get_or-take}
use lib.Dec.{ltb, eqb}
use borrow.Author.Tests.{lt-ltb, le-ltb, eqb-true, eq-eqb, ne_eqb}
use Rattle.reply.specs.Tools.{any}
use Rattle.reply.specs.Tests.{split, both, both_true, same_test}
use Rattle.reply.specs.AllAny.{any_zero, any_suc, any_true, any_make, any_none}
use Rattle.marks.specs.Row.{marked, row_of, no_marks, with_of, or_of, without_of}
use Rattle.marks.specs.Laws.{marked_row, marked_none, marked_with, marked_without, fit_none, fit_without, row_is, rows_same}
use Rattle.marks.specs.declared.Row.{Row}
use Rattle.network.specs.Lists.{fill_to}
use Rattle.network.specs.ListLaws.{fill_none, fill_at}
use Rattle.network.specs.Chains.{Relation, holds, relation}
use Rattle.network.specs.ChainLaws.{relation_holds, relation_within}
use Rattle.network.specs.ChainsSame.{table_same}
use Rattle.graph.specs.Order.{related, row_relation}
use Rattle.graph.specs.Sequence.{no_job}
use Rattle.graph.specs.Work.{job_of, precedes_by}
use Rattle.graph.specs.Graph.{rows_from, rows_to}
use Rattle.graph.specs.PrecedenceTold.{JobsTold, JobsOf, is_relative, with_jobs_of, jobs_related, RelatedRows}
use Rattle.graph.specs.declared.Job.{Job}
use Rattle.graph.proofs.RelativeMarks.{one_more, no_more}
use Rattle.graph.proofs.Descendants.{StoredFrom, stored_ends}

or_false : (b : Bool) → (b || false) ≡ b
or_false true = refl
or_false false = refl

-- ---- the jobs of each process

abbrev process_of : List Job → ℕ → ℕ
process_of jobs j = (job_of jobs j).process

-- row q marks the jobs of process q below j
pub record JobsSoFar (jobs : List Job) (j : ℕ) (rows : List Row) : Type 0 where
  pub size : length rows ≡ 12
  pub marks : (q i : ℕ) → q < 12 → marked (get_or rows q no_marks) i ≡ (ltb i j && eqb (process_of jobs i) q)

module _ (jobs : List Job) where
  pub jobs_begin : (rows : List Row) → rows ≡ replicate 12 no_marks → JobsSoFar jobs 0 rows
  jobs_begin rows e = record {
    size = ap (λ (l : List Row). length l) e ∙ length-replicate 12 no_marks;
    marks = λ q i h.
        ap (λ (l : List Row). marked (get_or l q no_marks) i) e
        ∙ ap (λ (r : Row). marked r i) (get_or-replicate 12 q no_marks no_marks h)
        ∙ marked_none i ∙ sym (rw (le-ltb i 0 (omega arith)));
  }

  module _ (j : ℕ) (rows : List Row) (few : j < 128) (own : process_of jobs j < 12) (s : JobsSoFar jobs j rows) where
    abbrev more : List Row
    more = set rows (process_of jobs j) (with_of (get_or rows (process_of jobs j) no_marks) j)

    marks_more : (q i : ℕ) → q < 12 → marked (get_or more q no_marks) i ≡ (ltb i (j + 1) && eqb (process_of jobs i) q)
    marks_more q i h = elim (ℕ_discrete q (process_of jobs j)) [
      | yes e ↦
          subst (λ x. marked (get_or more x no_marks) i ≡ (ltb i (j + 1) && eqb (process_of jobs i) x)) (sym e)
          (ap (λ (r : Row). marked r i) (get_or-set_same rows (process_of jobs j) (with_of (get_or rows (process_of jobs j) no_marks) j) no_marks (omega (arith, s.size)))
          ∙ marked_with (get_or rows (process_of jobs j) no_marks) j few i
          ∙ ap (λ (b : Bool). b || eqb i j) (s.marks (process_of jobs j) i own)
          ∙ one_more (λ k. eqb (process_of jobs k) (process_of jobs j)) j i (eq-eqb (process_of jobs j) (process_of jobs j) refl))
      | no d ↦
          ap (λ (r : Row). marked r i) (get_or-set_other rows (process_of jobs j) q (with_of (get_or rows (process_of jobs j) no_marks) j) no_marks d)
          ∙ s.marks q i h
          ∙ no_more (λ k. eqb (process_of jobs k) q) j i (ne_eqb (process_of jobs j) q (λ e. d (sym e)))
    ]

    pub jobs_go_on : (row : Row) → row ≡ with_of (get_or rows (process_of jobs j) no_marks) j → JobsSoFar jobs (j + 1) (set rows (process_of jobs j) row)
    jobs_go_on row e = record { size = length-set rows (process_of jobs j) row ∙ s.size; marks = rw e marks_more }

-- ---- the jobs of relatives

-- those of the relatives of p below q
pub record JoinedSoFar (jobs ahead : List Row) (p q : ℕ) (row : Row) : Type 0 where
  pub is : row ≡ jobs_related q jobs ahead p

module _ (jobs ahead : List Row) (p : ℕ) where
  abbrev kin : ℕ → Bool
  kin q = is_relative (get_or ahead q no_marks) (get_or ahead p no_marks) p q

  abbrev has : ℕ → ℕ → Bool
  has i q = kin q && marked (get_or jobs q no_marks) i

  pub joined_begin : (row : Row) → row ≡ no_marks → JoinedSoFar jobs ahead p 0 row
  unfolding jobs_related
  joined_begin row e = record { is = e ∙ row_is no_marks _ fit_none (λ i h. marked_none i ∙ sym (any_zero (has i))) }

  one_process_lem : (q : ℕ)
      → with_jobs_of (get_or ahead q no_marks) (get_or ahead p no_marks) p q (get_or jobs q no_marks) (jobs_related q jobs ahead p) ≡ jobs_related (suc q) jobs ahead p
  unfolding with_jobs_of jobs_related or_of
  one_process_lem q = split (kin q)
      (λ t. rw t (rows_same _ _ (λ i h.
      ap (λ (b : Bool). b || marked (get_or jobs q no_marks) i) (marked_row (λ k. any q (has k)) i h)
      ∙ sym (any_suc q (has i) ∙ ap (λ (b : Bool). any q (has i) || (b && marked (get_or jobs q no_marks) i)) t))))
      (λ t. rw t (rows_same _ _ (λ i h. sym (any_suc q (has i) ∙ ap (λ (b : Bool). any q (has i) || (b && marked (get_or jobs q no_marks) i)) t ∙ or_false (any q (has i))))))

  pub joined_go_on : (q : ℕ) (row new : Row) → JoinedSoFar jobs ahead p q row
      → new ≡ with_jobs_of (get_or ahead q no_marks) (get_or ahead p no_marks) p q (get_or jobs q no_marks) row → JoinedSoFar jobs ahead p (q + 1) new
  joined_go_on q row new s e = record {
    is = rw (add-one q) (e ∙ ap (with_jobs_of (get_or ahead q no_marks) (get_or ahead p no_marks) p q (get_or jobs q no_marks)) s.is ∙ one_process_lem q);
  }

  pub joined_with : (q : ℕ) (row new : Row) (t : Bool) → JoinedSoFar jobs ahead p q row → t ≡ is_relative (get_or ahead q no_marks) (get_or ahead p no_marks) p q → t ≡ true
      → new ≡ or_of row (get_or jobs q no_marks) → JoinedSoFar jobs ahead p (q + 1) new
  unfolding with_jobs_of
  joined_with q row new t s e y n = joined_go_on q row new s (n ∙ sym (rw (sym e ∙ y) refl))

  pub joined_without : (q : ℕ) (row : Row) (t : Bool) → JoinedSoFar jobs ahead p q row → t ≡ is_relative (get_or ahead q no_marks) (get_or ahead p no_marks) p q → t ≡ false
      → JoinedSoFar jobs ahead p (q + 1) row
  unfolding with_jobs_of
  joined_without q row t s e y = joined_go_on q row row s (sym (rw (sym e ∙ y) refl))

-- the rows below p are done
pub record RelatedSoFar (n : ℕ) (jobs ahead : List Row) (p : ℕ) (rows : List Row) : Type 0 where
  pub size : length rows ≡ length jobs
  pub done : (i : ℕ) → i < p → get_or rows i no_marks ≡ jobs_related n jobs ahead i

-- ---- the rows

pub place : (n count : ℕ) (jobs : List Job) → JobsTold n count jobs → (j : ℕ) → j < count → process_of jobs j < 12
place n count jobs told j h = omega (arith, told.processes j h, told.few_processes)

-- what the row of j's process marks below j
abbrev row_before : List Row → List Job → ℕ → Row
row_before all jobs j = row_of (λ i. ltb i j && marked (get_or all (process_of jobs j) no_marks) i)

-- and what it marks after j
abbrev row_after : List Row → List Job → ℕ → Row
row_after all jobs j = row_of (λ i. marked (get_or all (process_of jobs j) no_marks) i && not (ltb i (j + 1)))

not_below : (j i : ℕ) → not (ltb i (j + 1)) ≡ ltb j i
not_below j i = elim (dec_lt j i) [
  | yes l ↦ rw (lt-ltb j i l, le-ltb i (j + 1) (omega arith))
  | no l ↦ rw (le-ltb j i (omega arith), lt-ltb i (j + 1) (omega arith))
]

eqb_turned : (a b : ℕ) → eqb a b ≡ eqb b a
eqb_turned a b = same_test (eqb a b) (eqb b a) (λ t. eq-eqb b a (sym (eqb-true a b t))) (λ t. eq-eqb a b (sym (eqb-true b a t)))

marks_next : (j : ℕ) (passed : Row) → j < 128 → ((i : ℕ) → marked passed i ≡ ltb i j) → (i : ℕ) → marked (with_of passed j) i ≡ ltb i (j + 1)
marks_next j passed few marks i = marked_with passed j few i ∙ ap (λ (b : Bool). b || eqb i j) (marks i) ∙ next
  where
    next : (ltb i j || eqb i j) ≡ ltb i (j + 1)
    next = elim (ℕ_discrete i j) [
      | yes e ↦ rw (e, le-ltb j j (omega arith), lt-ltb j (j + 1) (omega arith), eq-eqb j j refl)
      | no d ↦ elim (dec_lt i j) [
        | yes l ↦ rw (lt-ltb i j l, lt-ltb i (j + 1) (omega arith))
        | no l ↦ rw (le-ltb i j (omega arith), le-ltb i (j + 1) (omega arith), ne_eqb i j d)
      ]
    ]

-- the jobs below j are passed, and the rows below j are done
pub record PartsSoFar (step : Row → Row → ℕ → Row → Type 0) (all : List Row) (jobs : List Job) (j : ℕ) (passed : Row) (rows : List Row) : Type 0 where
  pub marks : (i : ℕ) → marked passed i ≡ ltb i j
  pub size : length rows ≡ 128
  pub each : (k : ℕ) → k < j → (before : Row) × ((i : ℕ) → marked before i ≡ ltb i k) × step (get_or all (process_of jobs k) no_marks) before k (get_or rows k no_marks)
  pub past : (k : ℕ) → j ≤ k → get_or rows k no_marks ≡ no_marks

module _ (step : Row → Row → ℕ → Row → Type 0) (all : List Row) (jobs : List Job) where
  pub parts_begin : (passed none : Row) → passed ≡ no_marks → none ≡ no_marks → PartsSoFar step all jobs 0 passed (replicate 128 none)
  parts_begin passed none e d = record {
    marks = λ i. ap (λ (r : Row). marked r i) e ∙ marked_none i ∙ sym (le-ltb i 0 (omega arith));
    size = length-replicate 128 none;
    each = λ k h. absurd (omega arith);
    past = λ k h. ap (λ (l : List Row). get_or l k no_marks) (ap (λ (r : Row). replicate 128 r) d ∙ sym (fill_none 128 no_marks)) ∙ fill_at 128 no_marks [] k;
  }

  pub parts_go_on : (j : ℕ) → j < 128 → (passed : Row) (rows : List Row) → PartsSoFar step all jobs j passed rows → (new row : Row) → new ≡ with_of passed j
      → step (get_or all (process_of jobs j) no_marks) passed j row → PartsSoFar step all jobs (j + 1) new (set rows j row)
  parts_go_on j few passed rows s new row e p = record {
    marks = λ i. ap (λ (r : Row). marked r i) e ∙ marks_next j passed few s.marks i;
    size = length-set rows j row ∙ s.size;
    each = λ k h. elim (ℕ_discrete k j) [
      | yes z ↦ rw z (passed, s.marks, subst (λ r. step (get_or all (process_of jobs j) no_marks) passed j r) (sym (get_or-set_same rows j row no_marks (omega (arith, s.size)))) p)
      | no d ↦
          let (before, marks, q) = s.each k (omega arith) in
          (before, marks, subst (λ r. step (get_or all (process_of jobs k) no_marks) before k r) (sym (get_or-set_other rows j k row no_marks d)) q)
    ];
    past = λ k h. get_or-set_other rows j k row no_marks (λ z. omega arith) ∙ s.past k (omega arith);
  }

module _ (all : List Row) (jobs : List Job) where
  -- without what is not passed a row has what is passed
  pub before_part : (j : ℕ) (row passed before : Row) → ((i : ℕ) → marked passed i ≡ ltb i j) → row ≡ get_or all (process_of jobs j) no_marks
      → before ≡ without_of row (without_of row passed) → before ≡ row_before all jobs j
  before_part j row passed before marks r b = b ∙ row_is (without_of row (without_of row passed)) _ (fit_without row (without_of row passed)) (λ i h.
      marked_without row (without_of row passed) i
      ∙ ap (λ (t : Bool). marked row i && not t) (marked_without row passed i)
      ∙ twice (marked row i) (marked passed i)
      ∙ ap (λ (t : Bool). t && marked row i) (marks i)
      ∙ ap (λ (x : Row). ltb i j && marked x i) r)
    where
      twice : (a b : Bool) → (a && not (a && not b)) ≡ (b && a)
      twice true true = refl
      twice true false = refl
      twice false true = refl
      twice false false = refl

  pub after_part : (j : ℕ) → j < 128 → (row passed later : Row) → ((i : ℕ) → marked passed i ≡ ltb i j) → row ≡ get_or all (process_of jobs j) no_marks
      → later ≡ without_of row (with_of passed j) → later ≡ row_after all jobs j
  after_part j few row passed later marks r l = l ∙ row_is (without_of row (with_of passed j)) _ (fit_without row (with_of passed j)) (λ i h.
      marked_without row (with_of passed j) i ∙ ap₂ (λ (x : Row) (t : Bool). marked x i && not t) r (marks_next j passed few marks i))

  -- ---- all rows

  module _ (n count : ℕ) (told : JobsTold n count jobs) (each ahead : List Row) (own : JobsOf count jobs each) (r : RelatedRows n each ahead all) where
    abbrev precedence : Relation
    precedence = relation count (precedes_by (row_relation n ahead) (take count jobs))

    not_before : (j i : ℕ) → j < count → j ≤ i → holds precedence i j ≡ false
    unfolding precedes_by
    not_before j i h l = elim (dec_lt i count) [
      | yes m ↦ relation_holds count (precedes_by (row_relation n ahead) (take count jobs)) i j m h ∙ rw (le-ltb i j l)
      | no m ↦ split (holds precedence i j)
          (λ t. absurd (omega (arith, relation_within count (precedes_by (row_relation n ahead) (take count jobs)) i j t)))
          (λ t. t)
    ]

    -- job i is one of the jobs of p and its relatives exactly when its process is a relative
    kin_is : (p i : ℕ) → p < n → i < count → marked (get_or all p no_marks) i ≡ kin each ahead p (process_of jobs i)
    unfolding jobs_related
    kin_is p i h b =
        ap (λ (x : Row). marked x i) (r.row p h)
        ∙ marked_row (λ k. any n (has each ahead p k)) i (omega (arith, told.few_jobs))
        ∙ same_test (any n (has each ahead p i)) (kin each ahead p (process_of jobs i))
        (λ t.
        let (q, l, u) = any_true n (has each ahead p i) t in
        let (u₁, u₂) = both (kin each ahead p q) (marked (get_or each q no_marks) i) u in
        let (v₁, v₂) = both (ltb i count) (eqb (process_of jobs i) q) (sym (own.marks q i (omega (arith, told.few_processes))) ∙ u₂) in
        ap (kin each ahead p) (eqb-true (process_of jobs i) q v₂) ∙ u₁)
        (λ t.
        any_make n (has each ahead p i) (process_of jobs i) (told.processes i b)
        (both_true (kin each ahead p (process_of jobs i)) (marked (get_or each (process_of jobs i) no_marks) i) t
        (own.marks (process_of jobs i) i (place n count jobs told i b)
        ∙ both_true (ltb i count) (eqb (process_of jobs i) (process_of jobs i)) (lt-ltb i count b) (eq-eqb (process_of jobs i) (process_of jobs i) refl))))

    one_row : (j i : ℕ) → j < count → (ltb i j && marked (get_or all (process_of jobs j) no_marks) i) ≡ holds precedence i j
    unfolding precedes_by related is_relative row_relation
    one_row j i h = elim (dec_lt i j) [
      | yes l ↦
          let marks : ℕ → ℕ → Bool = λ a b. marked (get_or ahead a no_marks) b in
          let pi : process_of jobs i < n = told.processes i (omega arith) in
          let pj : process_of jobs j < n = told.processes j h in
          ap (λ (b : Bool). ltb i j && b) (kin_is (process_of jobs j) i pj (omega arith))
          ∙ sym (relation_holds count (precedes_by (row_relation n ahead) (take count jobs)) i j (omega arith) h
          ∙ rw (
            get_or-take count jobs i no_job (omega arith),
            get_or-take count jobs j no_job h,
            relation_holds n marks (process_of jobs i) (process_of jobs j) pi pj,
            relation_holds n marks (process_of jobs j) (process_of jobs i) pj pi,
          ))
      | no l ↦ rw (le-ltb i j (omega arith)) (sym (not_before j i h (omega arith)))
    ]

    pub before_end : (rows : List Row) → StoredFrom count (row_before all jobs) 0 rows
        → rows ≡ fill_to 128 no_marks (rows_to count (relation count (precedes_by (row_relation n ahead) (take count jobs))))
    unfolding rows_to
    before_end rows s =
        stored_ends count (row_before all jobs) told.few_jobs 0 rows (omega arith) s
        ∙ ap (λ (l : List Row). fill_to 128 no_marks l) (table_same count (row_before all jobs) _ (λ k b. rows_same _ _ (λ i m. one_row k i b)))

    -- ---- the rows the other way

    -- no job from `count` on is one of theirs
    none_past : (p i : ℕ) → p < n → i < 128 → count ≤ i → marked (get_or all p no_marks) i ≡ false
    unfolding jobs_related
    none_past p i h b l =
        ap (λ (x : Row). marked x i) (r.row p h)
        ∙ marked_row (λ k. any n (has each ahead p k)) i b
        ∙ any_none n (has each ahead p i) (λ q m. ap (λ (t : Bool). kin each ahead p q && t) (own.marks q i (omega (arith, told.few_processes)) ∙ rw (le-ltb i count l)) ∙ and_false (kin each ahead p q))
      where
        and_false : (b : Bool) → (b && false) ≡ false
        and_false true = refl
        and_false false = refl

    one_row_after : (j i : ℕ) → j < count → i < 128 → (marked (get_or all (process_of jobs j) no_marks) i && not (ltb i (j + 1))) ≡ holds precedence j i
    unfolding precedes_by related is_relative row_relation
    one_row_after j i h b = elim (dec_lt i count) [
      | yes l ↦
          let marks : ℕ → ℕ → Bool = λ a b. marked (get_or ahead a no_marks) b in
          let pi : process_of jobs i < n = told.processes i l in
          let pj : process_of jobs j < n = told.processes j h in
          ap₂ (λ (x y : Bool). x && y) (kin_is (process_of jobs j) i pj l) (not_below j i)
          ∙ turned (eqb (process_of jobs i) (process_of jobs j)) (eqb (process_of jobs j) (process_of jobs i)) (marks (process_of jobs i) (process_of jobs j)) (marks (process_of jobs j) (process_of jobs i)) (ltb j i)
          (eqb_turned (process_of jobs i) (process_of jobs j))
          ∙ sym (relation_holds count (precedes_by (row_relation n ahead) (take count jobs)) j i h l
          ∙ rw (
            get_or-take count jobs j no_job h,
            get_or-take count jobs i no_job l,
            relation_holds n marks (process_of jobs j) (process_of jobs i) pj pi,
            relation_holds n marks (process_of jobs i) (process_of jobs j) pi pj,
          ))
      | no l ↦
          rw (none_past (process_of jobs j) i (told.processes j h) b (omega arith))
          (sym (split (holds precedence j i)
          (λ t. absurd (omega (arith, relation_within count (precedes_by (row_relation n ahead) (take count jobs)) j i t)))
          (λ t. t)))
    ]
      where
        turned : (e f x y l : Bool) → e ≡ f → ((e || (x || y)) && l) ≡ (l && (f || (y || x)))
        turned e true x y true z = rw z
        turned e true x y false z = rw z
        turned e false true true true z = rw z
        turned e false true true false z = rw z
        turned e false true false true z = rw z
        turned e false true false false z = rw z
        turned e false false true true z = rw z
        turned e false false true false z = rw z
        turned e false false false true z = rw z
        turned e false false false false z = rw z

    pub after_end : (rows : List Row) → StoredFrom count (row_after all jobs) 0 rows
        → rows ≡ fill_to 128 no_marks (rows_from count (relation count (precedes_by (row_relation n ahead) (take count jobs))))
    unfolding rows_from
    after_end rows s =
        stored_ends count (row_after all jobs) told.few_jobs 0 rows (omega arith) s
        ∙ ap (λ (l : List Row). fill_to 128 no_marks l) (table_same count (row_after all jobs) _ (λ k b. rows_same _ _ (λ i m. one_row_after k i b m)))
