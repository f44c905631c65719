-- The tables of a work that a frame carries are its tables; and those of a valid network can be checked.
use Rattle.std.specs.Prelude.{ℕ, ◌*◌, ◌≤◌, refl, List, length}
use Rattle.std.proofs.Common.{ap, subst, sym, ◌∙◌, arith}
use Rattle.marks.specs.Row.{marked, no_marks}
use Rattle.marks.specs.Laws.{marked_row}
use Rattle.marks.specs.declared.Row.{Row}
use Rattle.network.specs.Lists.{fill_to}
use Rattle.network.specs.ListLaws.{get_or_table, fill_at}
use Rattle.network.specs.Net.{Net}
use Rattle.network.specs.Valid.{Valid}
use Rattle.graph.specs.Sequence.{no_job}
use Rattle.graph.specs.Work.{Work, work_of, job_count_of}
use Rattle.graph.specs.Graph.{rows_to}
use Rattle.graph.specs.Promise.{jobs_are}
use Rattle.graph.specs.declared.Job.{Job}
use Rattle.plan.specs.CheckTold.{TablesOf, Checkable}

-- the tables that a frame carries
abbrev pub jobs_in : Work → List Job
jobs_in w = fill_to 128 no_job w.jobs

abbrev pub rows_in : Work → List Row
rows_in w = fill_to 128 no_marks (rows_to (job_count_of w) w.before)

pub tables_of : (w : Work) → job_count_of w ≤ 128 → TablesOf w (jobs_in w) (rows_in w) (job_count_of w)
unfolding rows_to
tables_of w few = record {
  count = refl;
  job = λ j h. fill_at 128 no_job w.jobs j;
  row = λ i j l h.
      ap (λ (r : Row). marked r i) (fill_at 128 no_marks (rows_to (job_count_of w) w.before) j ∙ get_or_table (job_count_of w) _ j no_marks h)
      ∙ marked_row _ i (omega arith);
}

module _ (net : Net) (ok : Valid net) where
  abbrev w : Work
  w = work_of net

  pub checkable : (plan : List ℕ) → 2 * job_count_of (work_of net) ≤ length plan
      → Checkable (jobs_in (work_of net)) (rows_in (work_of net)) (job_count_of (work_of net)) plan
  checkable plan there = record {
    work = w;
    tables = tables_of w (jobs_are net ok).most;
    few = (jobs_are net ok).most;
    there = there;
    fits = λ j h. subst (λ (x : Job). x.budget ≤ x.deadline) (sym (fill_at 128 no_job w.jobs j)) (omega (arith, ((jobs_are net ok).each j h).fits));
    small = λ j h.
        subst (λ (x : Job). x.deadline ≤ 2000) (sym (fill_at 128 no_job w.jobs j))
        (omega (arith, ((jobs_are net ok).each j h).in_frame, (jobs_are net ok).frame.most));
  }
