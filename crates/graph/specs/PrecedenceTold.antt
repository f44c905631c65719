-- What the code that builds the predecessor rows takes and gives, in marks.
use Rattle.std.specs.Prelude.{ℕ, ◌≤◌, ◌<◌, ◌≡◌, Bool, cond, ◌&&◌, ◌||◌, List, length, get_or, ltb, eqb}
use Rattle.reply.specs.Tools.{any}
use Rattle.marks.specs.Row.{marked, row_of, no_marks, or_of}
use Rattle.marks.specs.declared.Row.{Row}
use Rattle.graph.specs.Work.{job_of}
use Rattle.graph.specs.declared.Job.{Job}

-- a table of `count` jobs of n processes
pub record JobsTold (n count : ℕ) (jobs : List Job) : Type 0 where
  pub few_processes : n ≤ 12
  pub few_jobs : count ≤ 128
  pub processes : (j : ℕ) → j < count → (job_of jobs j).process < n

-- row q marks the jobs of process q
pub record JobsOf (count : ℕ) (jobs : List Job) (rows : List Row) : Type 0 where
  pub marks : (q i : ℕ) → q < 12 → marked (get_or rows q no_marks) i ≡ (ltb i count && eqb (job_of jobs i).process q)

-- process q is a relative of process p: it is p, or the row of one of them marks the other
unfoldable pub is_relative : Row → Row → ℕ → ℕ → Bool
is_relative there own p q = eqb q p || (marked there p || marked own q)

-- a row and, where q is a relative of p, the jobs of q
unfoldable pub with_jobs_of : Row → Row → ℕ → ℕ → Row → Row → Row
with_jobs_of there own p q jobs row = cond (is_relative there own p q) (or_of row jobs) row

-- the jobs of p and its relatives, of the processes below n: row q of `jobs` marks the jobs of q
unfoldable pub jobs_related : ℕ → List Row → List Row → ℕ → Row
jobs_related n jobs ahead p = row_of (λ i. any n (λ q. is_relative (get_or ahead q no_marks) (get_or ahead p no_marks) p q && marked (get_or jobs q no_marks) i))

-- row p marks them
pub record RelatedRows (n : ℕ) (jobs ahead rows : List Row) : Type 0 where
  pub row : (p : ℕ) → p < n → get_or rows p no_marks ≡ jobs_related n jobs ahead p

-- row p marks the jobs of p and its relatives, of a table of jobs
pub record Relatives (jobs : List Job) (ahead rows : List Row) : Type 0 where
  pub each : List Row
  pub own : JobsOf (length jobs) jobs each
  pub related : RelatedRows (length ahead) each ahead rows

-- row j is the part of the marks of j's relatives that a step gives, by the marks of the jobs before j
pub record RowsBy (step : Row → Row → ℕ → Row → Type 0) (jobs : List Job) (ahead rows : List Row) : Type 0 where
  pub relatives : List Row
  pub told : Relatives jobs ahead relatives
  pub size : length rows ≡ 128
  pub each : (j : ℕ) → j < length jobs
      → (passed : Row) × ((i : ℕ) → marked passed i ≡ ltb i j) × step (get_or relatives (job_of jobs j).process no_marks) passed j (get_or rows j no_marks)
  pub past : (j : ℕ) → length jobs ≤ j → get_or rows j no_marks ≡ no_marks
