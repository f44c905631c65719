-- The finished jobs of a frame as marks: which are finished, how many, whether all, and whether those before a job are.
use Prim.Native.Nat.{ℕ, ◌+◌, ◌-◌, ◌≤◌, ◌<◌}
use mathlib.Core.Path.{◌≡◌, sym, ap, subst, ◌∙◌}
use mathlib.Core.Bool.{Bool, true, false, not, ◌&&◌, ◌||◌}
use mathlib.Core.List.{List}
use native.Mathlib.Decide.{dec_lt, ℕ_discrete}
use native.Mathlib.Omega.{arith}
use lib.Dec.{eqb}
use lib.ListN.{length, get_or, set, replicate, length-set, length-replicate, get_or-replicate}
use lib.Seq.{ext_get_or, get_or-set_same, get_or-set_other}
use borrow.Author.Tests.{eq-eqb, eqb-true}
use Rattle.reply.specs.Tools.{all, count}
use Rattle.reply.specs.Tests.{split, same_test}
use Rattle.reply.specs.AllAny.{all_true, all_make}
use Rattle.reply.specs.Pick.{pick_tests}
use Rattle.reply.specs.Counts.{count_none, count_same, count_all, count_full, count_add, count_one_more}
use Rattle.marks.specs.Row.{marked, no_marks, with_of, inside_of, count_of}
use Rattle.marks.specs.Laws.{marked_none, with_same, with_other, count_is}
use Rattle.marks.specs.declared.Row.{Row}
use Rattle.network.specs.Lists.{table}
use Rattle.network.specs.ListLaws.{length_table, get_or_table}
use Rattle.graph.specs.Work.{job_count_of, precedes}
use Rattle.plan.specs.Plan.{processor_at, start_at}
use Rattle.promises.specs.Turns.{Run, Between, is_finished, finished_count, next_job, is_ready}
use Rattle.turns.specs.Order.{is_left, next_left}
use Rattle.turns.specs.Lent.{RunTables}
use Rattle.turns.specs.declared.planned.Planned.{Planned}

-- ---- counts

-- marks stand below n alone
count_below : (row : Row) (n : ℕ) → n ≤ 128 → ((i : ℕ) → marked row i ≡ true → i < n) → count_of row ≡ count n (marked row)
count_below row n few alone =
    let z : 128 - n + n ≡ 128 = omega arith in
    let none = count_none (128 - n) (λ i. marked row (i + n)) (λ i h. split (marked row (i + n)) (λ t. absurd (omega (arith, alone (i + n) t))) (λ t. t)) in
    count_is row ∙ ap (λ (k : ℕ). count k (marked row)) (sym z) ∙ count_add n (128 - n) (marked row) ∙ omega (arith, none)

-- one mark more
pub count_with : (row : Row) (j : ℕ) → j < 128 → marked row j ≡ false → count_of (with_of row j) ≡ count_of row + 1
count_with row j h e =
    count_is (with_of row j) ∙ count_one_more 128 (marked row) (marked (with_of row j)) j h e (with_same row j h) (with_other row j) ∙ ap (λ (n : ℕ). n + 1) (sym (count_is row))

-- ---- which have finished

pub marks_set : (row : Row) (n j : ℕ) → j < n → n ≤ 128 → set (table n (marked row)) j true ≡ table n (marked (with_of row j))
marks_set row n j h few =
    ext_get_or false (set (table n (marked row)) j true) (table n (marked (with_of row j)))
    (length-set (table n (marked row)) j true ∙ length_table n (marked row) ∙ sym (length_table n (marked (with_of row j)))) λ i l.
    let b : i < n = omega (arith, length-set (table n (marked row)) j true, length_table n (marked row)) in
    elim (ℕ_discrete i j) [
      | yes e ↦ subst (λ k. get_or (set (table n (marked row)) j true) k false ≡ get_or (table n (marked (with_of row j))) k false) (sym e)
          (get_or-set_same (table n (marked row)) j true false (omega (arith, length_table n (marked row)))
          ∙ sym (get_or_table n (marked (with_of row j)) j false h ∙ with_same row j (omega arith)))
      | no d ↦ get_or-set_other (table n (marked row)) j i true false d
          ∙ get_or_table n (marked row) i false b
          ∙ sym (get_or_table n (marked (with_of row j)) i false b ∙ with_other row j i d)
    ]

pub marks_none : (n : ℕ) → replicate n false ≡ table n (marked no_marks)
marks_none n =
    ext_get_or false (replicate n false) (table n (marked no_marks)) (length-replicate n false ∙ sym (length_table n (marked no_marks))) λ i l.
    let b : i < n = omega (arith, length-replicate n false) in
    get_or-replicate n i false false b ∙ sym (get_or_table n (marked no_marks) i false b ∙ marked_none i)

-- none has finished
pub none_finished : (c : Between) (n : ℕ) → c.finished ≡ replicate n false → finished_count c ≡ 0
none_finished c n is =
    count_none (length c.finished) (is_finished c) λ i h.
    let size : length c.finished ≡ n = ap length is ∙ length-replicate n false in
    ap (λ (l : List Bool). get_or l i false) is ∙ get_or-replicate n i false false (omega arith)

module _ (r : Run) (c : Between) (row : Row) (is : c.finished ≡ table (job_count_of r.work) (marked row)) where
  abbrev jobs : ℕ
  jobs = job_count_of r.work

  pub finished_at : (i : ℕ) → i < job_count_of r.work → is_finished c i ≡ marked row i
  finished_at i h = ap (λ (l : List Bool). get_or l i false) is ∙ get_or_table jobs (marked row) i false h

  pub next_job_is : (m : ℕ) → next_job r m c ≡ next_left r.plan (job_count_of r.work) m (marked row)
  unfolding next_job next_left
  next_job_is m =
      pick_tests (λ j. eqb (processor_at r.plan j) m && not (is_finished c j)) (is_left r.plan m (marked row)) (start_at r.plan) jobs
      λ i h. ap (λ (b : Bool). eqb (processor_at r.plan i) m && not b) (finished_at i h)

  module _ (few : job_count_of r.work ≤ 128) (alone : (i : ℕ) → marked row i ≡ true → i < job_count_of r.work) where
    pub how_many : finished_count c ≡ count_of row
    how_many =
        let size : length c.finished ≡ jobs = ap length is ∙ length_table jobs (marked row) in
        ap (λ (n : ℕ). count n (is_finished c)) size ∙ count_same jobs (is_finished c) (marked row) finished_at ∙ sym (count_below row jobs few alone)

    -- all have finished when all are marked
    pub all_marked : all (job_count_of r.work) (is_finished c) ≡ true → (i : ℕ) → i < job_count_of r.work → marked row i ≡ true
    all_marked e i h = sym (finished_at i h) ∙ all_true jobs (is_finished c) e i h

    pub all_counted : all (job_count_of r.work) (is_finished c) ≡ eqb (count_of row) (job_count_of r.work)
    all_counted = same_test (all jobs (is_finished c)) (eqb (count_of row) jobs)
        (λ t. eq-eqb (count_of row) jobs (count_below row jobs few alone ∙ count_all jobs (marked row) (all_marked t)))
        (λ t. all_make jobs (is_finished c) λ i h. finished_at i h ∙ count_full jobs (marked row) (sym (count_below row jobs few alone) ∙ eqb-true (count_of row) jobs t) i h)

  -- those before job j have finished
  module _ {planned : Planned} (t : RunTables r planned) (few : planned.jobs ≤ 128) (j : ℕ) (h : j < job_count_of r.work) where
    pub ready_is : inside_of (get_or planned.before j no_marks) row ≡ is_ready r c j
    unfolding inside_of is_ready
    ready_is = same_test (all 128 (λ i. not (marked (get_or planned.before j no_marks) i) || marked row i)) (all jobs (λ i. not (precedes r.work i j) || is_finished c i))
        (λ e. all_make jobs (λ i. not (precedes r.work i j) || is_finished c i) λ i l.
        let b : i < 128 = omega (arith, t.tables.count) in
        rw (finished_at i l, ← t.row i j b h) (all_true 128 (λ i. not (marked (get_or planned.before j no_marks) i) || marked row i) e i b))
        (λ e. all_make 128 (λ i. not (marked (get_or planned.before j no_marks) i) || marked row i) λ i b.
        elim (dec_lt i jobs) [
          | yes l ↦ rw (← finished_at i l, t.row i j b h) (all_true jobs (λ i. not (precedes r.work i j) || is_finished c i) e i l)
          | no l ↦ rw (t.row i j b h) (split (precedes r.work i j)
              (λ p. absurd (omega (arith, t.within i j p, t.tables.count)))
              (λ p. rw p))
        ])
