-- What a plan must be, and what is wrong with one that is not so: without loops, and without the checker.
use Rattle.std.specs.Prelude.{ℕ, ◌≤◌, ◌<◌, ◌≡◌, ◌≢◌, ◌⊎◌, true, List}
use Rattle.reply.specs.Reply.{reply_number}
use Rattle.reply.specs.declared.Reply.{Reply}
use Rattle.reply.specs.declared.Reply.TheVariants.{WrongProcessor, BeforeRelease, EndsLate, Overlaps, BeforePredecessor}
use Rattle.graph.specs.Work.{Work, job_count_of, release, deadline, precedes}
use Rattle.plan.specs.Plan.{processor_at, start_at, end_at}

-- if two jobs are on one processor, one ends before the other starts
abbrev pub Apart : Work → List ℕ → ℕ → ℕ → Type 0
Apart w plan i j = processor_at plan i ≡ processor_at plan j → (end_at w plan i ≤ start_at plan j) ⊎ (end_at w plan j ≤ start_at plan i)

pub record Feasible (w : Work) (m : ℕ) (plan : List ℕ) : Type 0 where
  -- every job is on a processor below m
  pub processor : (j : ℕ) → j < job_count_of w → processor_at plan j < m
  -- it starts at its release or later
  pub released : (j : ℕ) → j < job_count_of w → release w j ≤ start_at plan j
  -- it ends at its deadline or earlier
  pub in_time : (j : ℕ) → j < job_count_of w → end_at w plan j ≤ deadline w j
  -- no two jobs overlap
  pub apart : (i j : ℕ) → i < job_count_of w → j < job_count_of w → i ≢ j → Apart w plan i j
  -- a job starts when all that precede it have ended
  pub ordered : (i j : ℕ) → j < job_count_of w → precedes w i j ≡ true → end_at w plan i ≤ start_at plan j

-- on one processor, each starts before the other ends
pub record Overlapping (w : Work) (plan : List ℕ) (i j : ℕ) : Type 0 where
  pub together : processor_at plan i ≡ processor_at plan j
  pub before : start_at plan i < end_at w plan j
  pub after : start_at plan j < end_at w plan i

-- what each reply says of job j
pub data Fault (w : Work) (m : ℕ) (plan : List ℕ) (j : ℕ) : Reply → Type 0 where
  -- "processor not below M"
  wrong_processor : m ≤ processor_at plan j → Fault w m plan j WrongProcessor
  -- "before release"
  before_release : start_at plan j < release w j → Fault w m plan j BeforeRelease
  -- "ends late"
  ends_late : deadline w j < end_at w plan j → Fault w m plan j EndsLate
  -- "overlaps a lower job on its processor"
  overlaps : (i : ℕ) → i < j → Overlapping w plan i j → Fault w m plan j Overlaps
  -- "starts before a predecessor ends"
  before_predecessor : (i : ℕ) → precedes w i j ≡ true → start_at plan j < end_at w plan i → Fault w m plan j BeforePredecessor

-- "the least faulty job and its first fault: 11 to 15 in that order"
pub record Faulty (w : Work) (m : ℕ) (plan : List ℕ) (reply : Reply) (j : ℕ) : Type 0 where
  pub below : j < job_count_of w
  -- job j has the fault that the reply says
  pub has : Fault w m plan j reply
  -- it has none of a lower number
  pub first : (earlier : Reply) → reply_number earlier < reply_number reply → ¬ (Fault w m plan j earlier)
  -- no lower job has a fault
  pub least : (i : ℕ) → i < j → (other : Reply) → ¬ (Fault w m plan i other)
