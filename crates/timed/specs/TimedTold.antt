-- What the functions of the timed run ask for, and what they give: by the tables and arrays that they are lent, and for every work whose tables those are.
use Rattle.std.specs.Prelude.{ℕ, suc, ◌+◌, ◌*◌, ◌≤◌, ◌<◌, ◌≡◌, Bool, true, false, not, List, leb, length, get_or, take, [], ◌∷◌}
use Rattle.reply.specs.Tools.{count, pick}
use Rattle.reply.specs.Result.{Result, done, require, in_order}
use Rattle.reply.specs.declared.Reply.TheVariants.{LongDuration}
use Rattle.marks.specs.Row.{marked}
use Rattle.marks.specs.declared.Row.{Row}
use Rattle.graph.specs.Work.{Work, job_of, job_count_of, precedes, release, deadline, cost}
use Rattle.graph.specs.FrameOf.{FrameOf, work_in}
use Rattle.graph.specs.declared.Framed.{Framed}
use Rattle.graph.specs.declared.Job.{Job}
use Rattle.plan.specs.Plan.{processor_at, start_at, end_at}
use Rattle.plan.specs.Standing.{stand_by}
use Rattle.plan.specs.PlanTold.{job_at, row_at}
use Rattle.timed.specs.Timed.{is_earlier, job_before, end_before, start_is, duration_of, start_in, end_in, Timed, ok_timed}
use Rattle.timed.specs.PlannedOrder.{Ordered}
use Rattle.plan.specs.declared.standing.Standing.{Standing}

-- ---- durations

-- each of the first n durations against its budget
unfoldable pub ok_within : List Job → ℕ → List ℕ → Result (Unit {0})
ok_within jobs n durations = in_order n (λ j. require (leb (duration_of durations j) (job_of jobs j).budget) LongDuration j)

-- ---- what is timed

abbrev pub is_timed : Standing → ℕ → Bool
is_timed timing j = marked timing.jobs j

-- of the first n jobs that are not timed, that of least planned start
abbrev pub next_by : Row → List ℕ → ℕ → ℕ
next_by timed plan n = pick (λ j. not (marked timed j)) (start_at plan) n

-- the words of the first n jobs are there, and their starts are small
pub record StartsSmall (plan : List ℕ) (n : ℕ) : Type 0 where
  pub few : n ≤ 128
  pub there : 2 * n ≤ length plan
  pub small : (j : ℕ) → j < n → start_at plan j ≤ 2000

-- the keys of the first n jobs: of one that is not timed its planned start and then its number, of all others the greatest word
pub record KeysTell (timed : Row) (plan : List ℕ) (n : ℕ) (keys : List ℕ) : Type 0 where
  pub size : length keys ≡ 128
  pub untimed : (j : ℕ) → j < n → marked timed j ≡ false → get_or keys j 0 ≡ 128 * start_at plan j + j
  pub timed_one : (j : ℕ) → j < n → marked timed j ≡ true → get_or keys j 0 ≡ 4294967295
  pub none : (j : ℕ) → n ≤ j → j < 128 → get_or keys j 0 ≡ 4294967295

-- the job of least key, for all that the keys may tell
pub record Chooses (keys : List ℕ) (r : ℕ) : Type 0 where
  pub is : (timed : Row) (plan : List ℕ) (n : ℕ) → StartsSmall plan n → KeysTell timed plan n keys → (next_by timed plan n ≡ 0 → ⊥) → suc r ≡ next_by timed plan n

-- one more job runs on its processor
abbrev pub run_by : Standing → ℕ → ℕ → ℕ → ℕ → Standing
run_by timing job processor start end = stand_by timing job processor (start ∷ end ∷ []) end

-- ---- the tables

-- the frame, the plan and the durations, as they are lent
pub record Lent : Type 0 where
  pub framed : Framed
  pub plan : List ℕ
  pub durations : List ℕ

abbrev pub lent : Framed → List ℕ → List ℕ → Lent
lent framed plan durations = record { framed = framed; plan = plan; durations = durations }

-- how many jobs
abbrev pub jobs_in : Lent → ℕ
jobs_in t = t.framed.job_count

-- they are those of a work, with a feasible plan and durations up to the budgets
pub record Timable (w : Work) (m : ℕ) (t : Lent) : Type 0 where
  pub ordered : Ordered w m t.plan
  pub short : (j : ℕ) → j < jobs_in t → duration_of t.durations j ≤ cost w j
  pub count_is : job_count_of w ≡ jobs_in t
  pub release_is : (j : ℕ) → j < jobs_in t → (job_at t.framed j).release ≡ release w j
  pub row_is : (i j : ℕ) → j < jobs_in t → marked (row_at t.framed j) i ≡ precedes w i j
  pub few : jobs_in t ≤ 128
  pub small : (j : ℕ) → j < jobs_in t → deadline w j ≤ 2000
  pub processors : m ≤ 4
  pub plan_there : 2 * jobs_in t ≤ length t.plan
  pub durations_there : jobs_in t ≤ length t.durations

-- ---- job after job

-- the arrays tell the times of k jobs: which are timed, the end of each, the last end on each processor, and the words
pub record Reached (w : Work) (m : ℕ) (t : Lent) (k : ℕ) (timing : Standing) : Type 0 where
  pub timable : Timable w m t
  pub ends_size : length timing.ends ≡ 128
  pub last_size : length timing.last ≡ 4
  pub words_size : length timing.words ≡ 256
  pub number : count (jobs_in t) (is_timed timing) ≡ k
  -- what is planned before a job that is timed is timed
  pub down : (i j : ℕ) → i < jobs_in t → j < jobs_in t → start_at t.plan i < start_at t.plan j → is_timed timing j ≡ true → is_timed timing i ≡ true
  pub start : (j : ℕ) → j < jobs_in t → is_timed timing j ≡ true → start_in timing.words j ≡ start_is w t.plan (end_in timing.words) j
  pub end : (j : ℕ) → j < jobs_in t → is_timed timing j ≡ true → end_in timing.words j ≡ start_in timing.words j + duration_of t.durations j
  pub end_is : (j : ℕ) → j < jobs_in t → is_timed timing j ≡ true → get_or timing.ends j 0 ≡ end_in timing.words j
  pub by_plan : (j : ℕ) → j < jobs_in t → is_timed timing j ≡ true → end_in timing.words j ≤ end_at w t.plan j
  -- the last end on a processor is the end of the job before the next one there
  pub last_is : (j : ℕ) → j < jobs_in t → is_timed timing j ≡ false → ((i : ℕ) → i < jobs_in t → is_earlier t.plan j i ≡ true → is_timed timing i ≡ true)
      → get_or timing.last (processor_at t.plan j) 0 ≡ end_before (end_in timing.words) (job_before w t.plan j)

-- one more can be timed
pub record TimesNext (t : Lent) (timing : Standing) : Type 0 where
  pub work : Work
  pub m : ℕ
  pub number : ℕ
  pub below : number < jobs_in t
  pub reached : Reached work m t number timing

-- it is
pub record Stepped (t : Lent) (timing timing' : Standing) : Type 0 where
  pub is : (w : Work) (m k : ℕ) → k < jobs_in t → Reached w m t k timing → Reached w m t (suc k) timing'

-- all can be timed, one after another
pub record TimesAll (t : Lent) : Type 0 where
  pub work : Work
  pub m : ℕ
  pub timable : Timable work m t

-- and are
pub record AllTimed (t : Lent) (words : List ℕ) : Type 0 where
  pub is : (w : Work) (m : ℕ) → Timable w m t → Timed w t.plan t.durations (take (2 * jobs_in t) words)

-- ---- a frame

-- a plan and durations for an accepted frame, as the timed run wants them
pub record Admitted (framed : Framed) (plan durations : List ℕ) : Type 0 where
  pub frame : FrameOf framed
  pub m : ℕ
  pub some : 1 ≤ m
  pub few : m ≤ 4
  pub plan_there : 2 * framed.job_count ≤ length plan
  pub durations_there : framed.job_count ≤ length durations
  pub accepted : ok_timed (work_in framed) m plan durations ≡ done tt
