-- What the planner's functions ask for, and what they give: by the frame and the arrays that they are lent, and for every work whose tables the frame has.
use Rattle.std.specs.Prelude.{ℕ, zero, suc, ◌*◌, ◌≤◌, ◌<◌, max, ◌≡◌, Bool, true, cond, not, ltb, ◌&&◌, List, length, get_or, take, Option, Some, None, Ok, Err}
use Rattle.std.specs.declared.result.Result as Std
use Rattle.reply.specs.Tools.{pick}
use Rattle.reply.specs.Result.{Result, done, refused}
use Rattle.reply.specs.Told.{told}
use Rattle.reply.specs.declared.Refusal.{Refusal}
use Rattle.marks.specs.Row.{marked, inside_of, no_marks}
use Rattle.marks.specs.declared.Row.{Row}
use Rattle.graph.specs.Sequence.{no_job}
use Rattle.graph.specs.Work.{Work, job_count_of, precedes, release, deadline, cost}
use Rattle.graph.specs.declared.Framed.{Framed}
use Rattle.graph.specs.declared.Job.{Job}
use Rattle.plan.specs.Greatest.{greatest}
use Rattle.plan.specs.Plan.{end_at, any_processor, Planning, is_placed, last_end, placing, planned_by}
use Rattle.plan.specs.PlaceLaws.{Plannable}
use Rattle.plan.specs.declared.planning.Next.{Next}
use Rattle.plan.specs.declared.standing.Standing.{Standing}

-- ---- by the tables

-- job j is not placed, and all that its row marks are
abbrev pub can_by : Row → Row → ℕ → Bool
can_by placed row j = not (marked placed j) && inside_of row placed

-- job j of a frame, and its row
abbrev pub job_at : Framed → ℕ → Job
job_at t j = get_or t.jobs j no_job

abbrev pub row_at : Framed → ℕ → Row
row_at t j = get_or t.before j no_marks

-- of the first n jobs
abbrev pub choice_by : Framed → Row → ℕ → ℕ
choice_by t placed n = pick (λ j. can_by placed (row_at t j) j) (λ j. (job_at t j).deadline) n

-- what is picked, if anything is
abbrev pub picked_of : ℕ → Option ℕ
picked_of zero = None
picked_of (suc m) = Some m

-- a key is less than that of the best number so far, if there is one
abbrev pub beats : Option (ℕ × ℕ) → ℕ → Bool
beats None key = true
beats (Some (i, least)) key = ltb key least

-- of the numbers below n that pass, that of least key, then the least number; by what calls of a test and of a key may give
pub record LeastOf (passes : ℕ → Bool → Type 0) (keys : ℕ → ℕ → Type 0) (n : ℕ) (r : Option ℕ) : Type 0 where
  pub is : (q : ℕ → Bool) (key : ℕ → ℕ) → ((j : ℕ) (b : Bool) → j < n → passes j b → b ≡ q j) → ((j k : ℕ) → j < n → keys j k → k ≡ key j) → r ≡ picked_of (pick q key n)

-- the latest of the release and of the ends of the jobs below j that the row marks
abbrev pub ready_by : List ℕ → Row → ℕ → ℕ → ℕ
ready_by ends row j release = max release (greatest j (λ i. cond (marked row i) (get_or ends i 0) 0))

abbrev pub start_by : List ℕ → ℕ → ℕ → ℕ
start_by last ready p = max ready (get_or last p 0)

-- what is chosen: the job, its processor, and its start there
pub record NextIs (t : Framed) (m : ℕ) (placed : Standing) (r : Next) : Type 0 where
  pub job_is : suc r.job ≡ choice_by t placed.jobs t.job_count
  pub ready : ℕ
  pub ready_is : ready ≡ ready_by placed.ends (row_at t r.job) r.job (job_at t r.job).release
  pub processor_is : suc r.processor ≡ pick any_processor (start_by placed.last ready) m
  pub start_is : r.start ≡ start_by placed.last ready r.processor

-- there is a job to place, and a processor for it
abbrev pub HasChoice : Framed → ℕ → Row → Type 0
HasChoice t m placed = (1 ≤ choice_by t placed t.job_count) × (t.job_count ≤ 128) × (1 ≤ m) × (m ≤ 4)

-- ---- for every work

-- the frame's tables are those of a work that can be planned on m processors
pub record Tabled (w : Work) (t : Framed) (m : ℕ) : Type 0 where
  pub plannable : Plannable w
  pub count : job_count_of w ≡ t.job_count
  pub deadline_is : (j : ℕ) → j < t.job_count → (job_at t j).deadline ≡ deadline w j
  pub release_is : (j : ℕ) → j < t.job_count → (job_at t j).release ≡ release w j
  pub budget_is : (j : ℕ) → j < t.job_count → (job_at t j).budget ≡ cost w j
  -- row j marks the jobs that precede job j, and no others
  pub row_is : (i j : ℕ) → j < t.job_count → marked (row_at t j) i ≡ precedes w i j
  pub few : t.job_count ≤ 128
  pub small : w.frame ≤ 2000
  pub fits : (j : ℕ) → j < t.job_count → cost w j ≤ deadline w j
  pub processors : (1 ≤ m) × (m ≤ 4)

-- the arrays tell what is placed: which jobs, the end of each, the last end on each processor, and the words of the plan
pub record Stands (w : Work) (m : ℕ) (s : Planning) (placed : Standing) : Type 0 where
  pub ends_size : length placed.ends ≡ 128
  pub last_size : length placed.last ≡ 4
  pub words_size : length placed.words ≡ 256
  pub placed_is : (j : ℕ) → j < job_count_of w → marked placed.jobs j ≡ is_placed s j
  pub ends_are : (j : ℕ) → j < job_count_of w → is_placed s j ≡ true → get_or placed.ends j 0 ≡ end_at w s.words j
  pub last_is : (p : ℕ) → p < m → get_or placed.last p 0 ≡ last_end s p
  pub words_are : take (2 * job_count_of w) placed.words ≡ s.words

-- k jobs are placed
pub record Reached (w : Work) (t : Framed) (m k : ℕ) (placed : Standing) : Type 0 where
  pub tabled : Tabled w t m
  pub so_far : Planning
  pub are_placed : placing w m k ≡ done so_far
  pub stands : Stands w m so_far placed

-- one more can be placed
pub record Placeable (t : Framed) (m : ℕ) (placed : Standing) : Type 0 where
  pub work : Work
  pub number : ℕ
  pub below : number < t.job_count
  pub reached : Reached work t m number placed

-- after the step to k jobs: it is placed, or it was refused
abbrev pub After : Work → Framed → ℕ → ℕ → Std.Result (Unit {0}) Refusal → Standing → Type 0
After w t m k (Ok u) placed = Reached w t m k placed
After w t m k (Err refusal) placed = placing w m k ≡ refused refusal.reply refusal.place

pub record Stepped (t : Framed) (m : ℕ) (placed : Standing) (r : Std.Result (Unit {0}) Refusal) (placed' : Standing) : Type 0 where
  pub is : (w : Work) (k : ℕ) → k < t.job_count → Reached w t m k placed → After w t m (suc k) r placed'

-- all can be placed, one after another
pub record PlansAll (t : Framed) (m : ℕ) : Type 0 where
  pub work : Work
  pub tabled : Tabled work t m

-- what was planned, but for the words past the plan
abbrev pub front : ℕ → Std.Result (List ℕ) Refusal → Std.Result (List ℕ) Refusal
front n (Ok words) = Ok (take n words)
front n (Err refusal) = Err refusal

pub record PlannedAs (r : Result (List ℕ)) (n : ℕ) (planned : Std.Result (List ℕ) Refusal) : Type 0 where
  pub is : front (2 * n) planned ≡ told (λ words. words) r

pub record AllPlaced (t : Framed) (m : ℕ) (r : Std.Result (List ℕ) Refusal) : Type 0 where
  pub is : (w : Work) → Tabled w t m → PlannedAs (planned_by w m) t.job_count r
