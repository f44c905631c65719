-- What the functions that build the table of jobs ask for, and what they give.
use Rattle.std.specs.Prelude.{ℕ, ◌+◌, ◌%◌, ◌≤◌, ◌<◌, ◌≡◌, Bool, false, true, cond, not, ◌&&◌, ◌||◌, List, length, get_or, take, ltb, eqb, None, Some}
use Rattle.std.specs.declared.option.Option.{Option}
use Rattle.std.specs.Int.Bits.{bit_and}
use Rattle.reply.specs.First.{First}
use Rattle.marks.specs.Row.{bit, marked, no_marks}
use Rattle.marks.specs.declared.Row.{Row}
use Rattle.network.specs.Lists.{fill_to}
use Rattle.network.specs.Chains.{Relation, relation}
use Rattle.network.specs.Frame.{process_at}
use Rattle.network.specs.Valid.{GoodProcess}
use Rattle.network.specs.declared.Process.{Process}
use Rattle.graph.specs.Order.{row_relation}
use Rattle.graph.specs.Sequence.{no_job, released_at, sequence_to}
use Rattle.graph.specs.declared.Job.{Job}
use Rattle.graph.specs.declared.sequence.Jobs.{Jobs}
use Rattle.graph.specs.declared.sequence.Released.{Released}

-- the job that a process releases at a time, its number being p
abbrev pub job_from : Process → ℕ → ℕ → Job
job_from process time p = record { process = p; release = time; deadline = time + process.deadline; budget = process.budget }

-- ---- words whose digits are processes

-- digit q is added if a test passes
pub record AddsDigit (word q : ℕ) (add : Bool) (r : ℕ) : Type 0 where
  pub digits : (k : ℕ) → bit r k ≡ (bit word k || (eqb k q && add))

-- digit p is taken away
pub record TakesDigit (word p r : ℕ) : Type 0 where
  pub digits : (k : ℕ) → bit r k ≡ (bit word k && not (eqb k p))

-- p is the first digit from a place on
pub record IsNext (word at p : ℕ) : Type 0 where
  pub from : at ≤ p
  pub none : (k : ℕ) → at ≤ k → k < p → bit word k ≡ false
  pub has : bit word p ≡ true

-- the first digit from a place on; none only if there is none
abbrev pub NextDigit : ℕ → ℕ → Option ℕ → Type 0
NextDigit word at None = (k : ℕ) → at ≤ k → bit word k ≡ false
NextDigit word at (Some p) = IsNext word at p

-- no digit from a place on
pub record FewDigits (n word : ℕ) : Type 0 where
  pub none : (k : ℕ) → n ≤ k → bit word k ≡ false

-- the processes below n whose rows mark p
pub record FirstOf (n : ℕ) (ahead : List Row) (p r : ℕ) : Type 0 where
  pub digits : (q : ℕ) → bit r q ≡ (ltb q n && marked (get_or ahead q no_marks) p)

pub record FirstWords (n : ℕ) (ahead : List Row) (first : List ℕ) : Type 0 where
  pub words : (p : ℕ) → p < n → FirstOf n ahead p (get_or first p 0)

-- the relation that such words hold: word b has a
unfoldable pub word_relation : ℕ → List ℕ → Relation
word_relation n first = relation n (λ a b. bit (get_or first b 0) a)

-- process p is pending, and none of those before it is
unfoldable pub free_in : ℕ → List ℕ → ℕ → Bool
free_in pending first p = bit pending p && eqb (bit_and (get_or first p 0) pending) 0

-- the smallest of twelve processes that is free; none only if none is
abbrev pub FirstFree : ℕ → List ℕ → Option ℕ → Type 0
FirstFree pending first None = First (free_in pending first) 0 12 12
FirstFree pending first (Some p) = (p < 12) × First (free_in pending first) 0 12 p

-- ---- releases

-- the first n processes of an array
pub record GoodProcesses (n : ℕ) (processes : List Process) : Type 0 where
  pub few : n ≤ 12
  pub good : (p : ℕ) → p < n → GoodProcess (process_at processes p)

-- `due` is the process's first release from a time on
pub record Due (process : Process) (time due : ℕ) : Type 0 where
  pub from : time ≤ due
  pub multiple : due % process.period ≡ 0
  pub quiet : (t : ℕ) → time ≤ t → t < due → released_at process t ≡ false

pub record DueFrom (n : ℕ) (processes : List Process) (time : ℕ) (due : List ℕ) : Type 0 where
  pub size : length due ≡ 12
  pub each : (p : ℕ) → p < n → Due (process_at processes p) time (get_or due p 0)

-- the release after one at the time
unfoldable pub due_after : Process → ℕ → ℕ → ℕ
due_after process time due = cond (eqb due time) (due + process.period) due

-- a word has the first n processes that release at a time
pub record ReleasedAt (n : ℕ) (processes : List Process) (time word : ℕ) : Type 0 where
  pub digits : (p : ℕ) → bit word p ≡ (ltb p n && released_at (process_at processes p) time)

-- which of the first n processes release at a time of a frame, and until when they release no more
pub record TellsReleased (n : ℕ) (processes : List Process) (time frame : ℕ) (r : Released) : Type 0 where
  pub digits : (p : ℕ) → bit r.pending p ≡ (ltb p n && released_at (process_at processes p) time)
  pub after : time < r.next
  pub within : r.next ≤ frame
  pub quiet : (t : ℕ) → time < t → t < r.next → (p : ℕ) → p < n → released_at (process_at processes p) t ≡ false

-- ---- the table

-- a table holds these jobs
pub record HoldsJobs (held : List Job) (r : Jobs) : Type 0 where
  pub count : r.count ≡ length held
  pub jobs : r.jobs ≡ fill_to 128 no_job held

-- a frame of the first n processes, whose jobs never are too many for the table
pub record FitsTable (n : ℕ) (processes : List Process) (ahead : List Row) (frame : ℕ) : Type 0 where
  pub few : n ≤ 12
  pub short : frame ≤ 2000
  pub good : (p : ℕ) → p < n → GoodProcess (process_at processes p)
  pub room : (time : ℕ) → time ≤ frame → length (sequence_to (take n processes) (row_relation n ahead) time) ≤ 128
