-- The start of a job is the greatest of its release, its predecessors' ends and the last end on its processor.
use Rattle.std.specs.Prelude.{ℕ, ◌≤◌, ◌<◌, ◌≡◌, refl, true, List, get_or}
use Rattle.std.proofs.Math.Bool.{cond}
use native.Mathlib.Omega.{arith}
use Rattle.reply.specs.Tests.{split}
use Rattle.marks.specs.Row.{marked}
use Rattle.marks.specs.declared.Row.{Row}
use Rattle.graph.specs.Work.{Work, job_count_of, precedes, release}
use Rattle.graph.specs.WorkLaws.{Forward}
use Rattle.plan.specs.Greatest.{greatest, greatest_each, greatest_least}
use Rattle.plan.specs.Plan.{ready_at, start_after}

module _ (w : Work) (ends : ℕ → ℕ) (last j : ℕ) where
  -- it is at the release of the job or later
  pub start_release : release w j ≤ start_after w ends last j
  unfolding start_after
  start_release = omega arith

  -- at the end of the last job there or later
  pub start_last : last ≤ start_after w ends last j
  unfolding start_after
  start_last = omega arith

  -- at the end of whatever precedes the job or later
  pub start_ready : Forward w → (i : ℕ) → precedes w i j ≡ true → ends i ≤ start_after w ends last j
  unfolding start_after ready_at
  start_ready F i e = omega (arith, rw e at (greatest_each (job_count_of w) (λ i. cond (precedes w i j) (ends i) 0) i (F.within i j e).0))

  -- and it is not above what none of these is above
  pub start_least : (top : ℕ) → release w j ≤ top → ((i : ℕ) → precedes w i j ≡ true → ends i ≤ top) → last ≤ top → start_after w ends last j ≤ top
  unfolding start_after ready_at
  start_least top a b c = omega (
    arith,
    greatest_least (job_count_of w) (λ i. cond (precedes w i j) (ends i) 0) top (λ i h. split (precedes w i j) (λ e. rw e (b i e)) (λ e. rw e (omega arith))),
  )

-- its predecessors' ends by the row that marks them, and by a table of ends
module _ {w : Work} (F : Forward w) (j : ℕ) (below : j < job_count_of w) (row : Row) (marks : (i : ℕ) → marked row i ≡ precedes w i j)
    (table : List ℕ) (ends : ℕ → ℕ) (same : (i : ℕ) → precedes w i j ≡ true → get_or table i 0 ≡ ends i) where
  abbrev by_table : ℕ → ℕ
  by_table i = cond (marked row i) (get_or table i 0) 0

  abbrev by_ends : ℕ → ℕ
  by_ends i = cond (precedes w i j) (ends i) 0

  same_end : (i : ℕ) → cond (marked row i) (get_or table i 0) 0 ≡ cond (precedes w i j) (ends i) 0
  same_end i = rw (marks i) (split (precedes w i j) (λ e. rw e (same i e)) (λ e. rw e refl))

  pub ready_by_lem : greatest j (λ i. cond (marked row i) (get_or table i 0) 0) ≡ ready_at w ends j
  unfolding ready_at
  ready_by_lem = omega (arith, none_above, above_none)
    where
      none_above : greatest j by_table ≤ greatest (job_count_of w) by_ends
      none_above = greatest_least j by_table (greatest (job_count_of w) by_ends)
          (λ i l. omega (arith, same_end i, greatest_each (job_count_of w) by_ends i (omega arith)))

      above_none : greatest (job_count_of w) by_ends ≤ greatest j by_table
      above_none = greatest_least (job_count_of w) by_ends (greatest j by_table) (λ i l. split (precedes w i j)
          (λ e. omega (arith, same_end i, greatest_each j by_table i (F.forward i j e)))
          (λ e. rw e (omega arith)))
