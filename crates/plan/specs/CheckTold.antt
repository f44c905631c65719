-- What the functions that check a plan ask for, and what they give: the tables of a work, and the answer on a plan.
use Rattle.std.specs.Prelude.{ℕ, ◌+◌, ◌*◌, ◌≤◌, ◌<◌, ◌≡◌, Bool, cond, ◌&&◌, ◌||◌, List, ltb, leb, eqb, length, get_or, Option, Some, None}
use Rattle.std.specs.declared.result.Result as Std
use Rattle.reply.specs.Told.{judged}
use Rattle.reply.specs.declared.Refusal.{Refusal}
use Rattle.reply.specs.declared.Reply.{Reply}
use Rattle.reply.specs.declared.Reply.TheVariants.{WrongProcessor, BeforeRelease, EndsLate}
use Rattle.marks.specs.Row.{marked, no_marks}
use Rattle.marks.specs.declared.Row.{Row}
use Rattle.graph.specs.Sequence.{no_job}
use Rattle.graph.specs.Work.{Work, job_of, job_count_of, precedes}
use Rattle.graph.specs.declared.Job.{Job}
use Rattle.plan.specs.Plan.{processor_at, start_at, checked_by}
use Rattle.plan.specs.declared.checking.Stay.{Stay}

-- ---- one job

-- a job by itself: 11 to 13, or none
unfoldable pub own_fault : ℕ → ℕ → Job → ℕ → Option Reply
own_fault processor start job m =
    cond (ltb processor m) (cond (leb job.release start) (cond (leb (start + job.budget) job.deadline) None (Some EndsLate)) (Some BeforeRelease)) (Some WrongProcessor)

-- where a plan puts job j
abbrev pub stay_by : List ℕ → ℕ → ℕ → Stay
stay_by plan j budget = record { processor = processor_at plan j; start = start_at plan j; end = start_at plan j + budget }

-- whether two jobs overlap, by processor, start and end of each
unfoldable pub overlapping : Stay → Stay → Bool
overlapping a b = eqb a.processor b.processor && (ltb a.start b.end && ltb b.start a.end)

-- whether a job starts before one ends that precedes it: it was so with an earlier one, or is so with this
unfoldable pub soon_or : Bool → Bool → ℕ → ℕ → Bool
soon_or earlier before start to = earlier || (before && ltb start to)

-- ---- all jobs

-- the tables are those of a work: its jobs, and for each job the row of those that precede it
pub record TablesOf (w : Work) (jobs : List Job) (before : List Row) (n : ℕ) : Type 0 where
  pub count : job_count_of w ≡ n
  pub job : (j : ℕ) → j < n → get_or jobs j no_job ≡ job_of w.jobs j
  pub row : (i j : ℕ) → i < j → j < n → marked (get_or before j no_marks) i ≡ precedes w i j

-- a plan for such tables can be checked: it is long enough, and their numbers are small
pub record Checkable (jobs : List Job) (before : List Row) (n : ℕ) (plan : List ℕ) : Type 0 where
  pub work : Work
  pub tables : TablesOf work jobs before n
  pub few : n ≤ 128
  pub there : 2 * n ≤ length plan
  pub fits : (j : ℕ) → j < n → (get_or jobs j no_job).budget ≤ (get_or jobs j no_job).deadline
  pub small : (j : ℕ) → j < n → (get_or jobs j no_job).deadline ≤ 2000

-- what the checker finds
pub record Judged (jobs : List Job) (before : List Row) (n m : ℕ) (plan : List ℕ) (r : Std.Result (Unit {0}) Refusal) : Type 0 where
  pub is : (w : Work) → TablesOf w jobs before n → r ≡ judged (checked_by w m plan)
