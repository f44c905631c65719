-- What the code of the turn run is lent, and what it leaves: the tables of a run, processors and finished jobs within a frame, and a frame's part of the output.
use Rattle.std.specs.Prelude.{ℕ, suc, Option, Some, None, ◌≢◌, ◌+◌, ◌*◌, ◌≤◌, ◌<◌, ◌≡◌, true, false, cond, List, map, ◌++◌, eqb, leb, length, get_or, set, take, drop, replicate}
use Rattle.std.proofs.lemmas.List.Edits.{sets}
use borrow.Rule.Slice.PartMut.{put_mid}
use Rattle.marks.specs.Row.{marked, no_marks, with_of, count_of}
use Rattle.marks.specs.declared.Row.{Row}
use Rattle.network.specs.Lists.{table}
use Rattle.graph.specs.Work.{job_count_of, process_of, precedes}
use Rattle.graph.specs.Columns.{Column}
use Rattle.graph.specs.Sequence.{no_job}
use Rattle.graph.specs.declared.Framed.{Framed}
use Rattle.graph.specs.declared.Job.{Job}
use Rattle.machine.specs.State.{nothing, start_state}
use Rattle.machine.specs.WholeJob.{program_of}
use Rattle.machine.specs.Samples.{sample_at, sample_words}
use Rattle.machine.specs.Words.{contents_in, state_by, SoundWords}
use Rattle.machine.specs.Acting.{Room, kinds_in}
use Rattle.machine.specs.declared.Under.{Under}
use Rattle.zero_delay.specs.Lent.{TablesOf, Ready}
use Rattle.promises.specs.Turns.{Run, Stand, idle, Between, finished_count, turn, turns, at_start}
use Rattle.promises.specs.TurnLaws.{turns_to}
use Rattle.turns.specs.Order.{firsts, next_left, FirstIs, AfterIs, StartsApart, InOrder}
use Rattle.turns.specs.declared.planned.Planned.{Planned}
use Rattle.turns.specs.declared.turning.Processor.{Processor}
use Rattle.turns.specs.declared.turning.Processor.TheVariants.{NoneLeft, Next, UnderWay}
use Rattle.turns.specs.declared.turning.Turned.{Turned}
use Rattle.turns.specs.declared.turning.Turned.TheVariants.{Waits, Works, Ends}
use Rattle.turns.specs.declared.frames.FrameTurned.{FrameTurned}
use Rattle.turns.specs.declared.frames.Turnings.{Turnings}

-- ---- the tables

-- of a frame and a plan
pub record PlannedOf (framed : Framed) (plan : List ℕ) (planned : Planned) : Type 0 where
  pub program : planned.tables.program ≡ framed.network.actions
  pub counts : planned.tables.counts ≡ framed.network.action_counts
  pub channels : planned.tables.channels ≡ framed.network.channels
  pub jobs : planned.jobs ≡ framed.job_count
  pub processes : Column no_job (λ (j : Job). j.process) framed.jobs planned.processes
  pub before : planned.before ≡ framed.before
  pub firsts : planned.first ≡ firsts plan framed.job_count
  pub afters : AfterIs plan framed.job_count planned.after

-- the tables are those of a run: the tables of its work, the row of the jobs before each job, and the planned order of its plan
pub record RunTables (r : Run) (planned : Planned) : Type 0 where
  pub tables : TablesOf r.work planned.tables.program planned.tables.counts (kinds_in planned.tables.channels) planned.processes planned.jobs
  pub row : (i j : ℕ) → i < 128 → j < job_count_of r.work → marked (get_or planned.before j no_marks) i ≡ precedes r.work i j
  pub within : (i j : ℕ) → precedes r.work i j ≡ true → i < job_count_of r.work
  pub firsts : FirstIs r.plan (job_count_of r.work) planned.first
  pub afters : AfterIs r.plan (job_count_of r.work) planned.after
  pub apart : StartsApart r.plan (job_count_of r.work)

-- ---- within a frame

-- what the code keeps of a processor, in the words of the definition
abbrev pub stand_by : Processor → Stand
stand_by NoneLeft = idle
stand_by (Next j) = idle
stand_by (UnderWay j under) = record { job = suc j; under = under }

-- one more than its next job, or 0 if none is left
abbrev pub next_of : Processor → ℕ
next_of NoneLeft = 0
next_of (Next j) = suc j
next_of (UnderWay j under) = suc j

-- a processor with no job under way
abbrev pub idle_at : Option ℕ → Processor
idle_at None = NoneLeft
idle_at (Some j) = Next j

-- between two turns of a frame: what is under way, what has finished, and the state
pub record InFrame (r : Run) (c : Between) (processors : List Processor) (finished : Row) (variables words : List ℕ) : Type 0 where
  pub finished_is : c.finished ≡ table (job_count_of r.work) (marked finished)
  pub processors_are : c.processors ≡ map stand_by processors
  pub state_is : c.state ≡ state_by variables words
  pub four : length processors ≡ 4
  pub jobs_alone : (i : ℕ) → marked finished i ≡ true → i < job_count_of r.work
  pub next_is : (m : ℕ) → m < 4 → next_of (get_or processors m NoneLeft) ≡ next_left r.plan (job_count_of r.work) m (marked finished)
  pub in_order : InOrder r.plan (job_count_of r.work) (marked finished)
  pub under_way : (m j : ℕ) (under : Under) → m < 4 → get_or processors m NoneLeft ≡ UnderWay j under → under.at < length (program_of r.work.net (process_of r.work j))

-- before the first turn of a frame
pub record Begins (r : Run) (c : Between) (variables words : List ℕ) : Type 0 where
  pub finished_is : c.finished ≡ replicate (job_count_of r.work) false
  pub processors_are : c.processors ≡ replicate 4 idle
  pub state_is : c.state ≡ state_by variables words

-- ---- one turn

-- how many writes a channel has lost
abbrev pub loss_in : List ℕ → ℕ → ℕ
loss_in words ch = (get_or (contents_in words) ch nothing).loss

-- how many actions the job under way has passed
abbrev pub spent : Processor → ℕ
spent NoneLeft = 0
spent (Next j) = 0
spent (UnderWay j under) = under.at

-- words put into a frame's part, and into the words of the run, where the part begins at `from`
pub record Wrote (width from : ℕ) (whole whole' part part' : List ℕ) : Type 0 where
  pub at : ℕ
  pub put : List ℕ
  pub fits : at + length put ≤ width
  pub in_part : part' ≡ sets part at put
  pub in_whole : whole' ≡ sets whole (from + at) put

-- what a turn needs
pub record TurnNeeds (planned : Planned) (input output words : List ℕ) (processor : Processor) : Type 0 where
  pub ready : Ready planned.tables.program planned.tables.counts (kinds_in planned.tables.channels) planned.processes planned.jobs
  pub input_there : 2 * planned.jobs ≤ length input
  pub output_there : 2 * planned.jobs ≤ length output
  pub sound : SoundWords words
  pub room : Room words 1
  pub next : next_of processor ≤ planned.jobs
  pub under_way : (j : ℕ) (under : Under) → processor ≡ UnderWay j under → under.at < get_or planned.tables.counts (get_or planned.processes j 0) 0

-- where a turn of processor m stands in a run
pub record Standing (r : Run) (c : Between) (m : ℕ) (processors : List Processor) (planned : Planned) (input variables words : List ℕ) (processor : Processor) (finished : Row) : Type 0 where
  pub tables : RunTables r planned
  pub in_frame : InFrame r c processors finished variables words
  pub named : m < 4
  pub here : get_or processors m NoneLeft ≡ processor
  pub asked : c.frames < r.asked
  pub samples : (j : ℕ) → j < planned.jobs → sample_at input j ≡ sample_at r.input (c.frames * job_count_of r.work + j)

-- whether a turn worked
abbrev pub worked_of : Turned → ℕ
worked_of Waits = 0
worked_of Works = 1
worked_of Ends = 1

-- d is what a turn of processor m makes of c, as the code says
pub record Stepped (r : Run) (c d : Between) (m : ℕ) (processors : List Processor) (output words : List ℕ) (processor : Processor) (finished : Row)
    (output' variables' words' : List ℕ) (processor' : Processor) (finished' : Row) (turned : Turned) : Type 0 where
  pub on : turned ≢ Ends → InFrame r d (set processors m processor') finished' variables' words' × (d.frames ≡ c.frames)
  pub ended : turned ≡ Ends → Begins r d variables' words' × (d.frames ≡ suc c.frames) × (spent processor' ≡ 0)
  pub worked : d.working ≡ c.working + worked_of turned
  pub wrote : Wrote (2 * job_count_of r.work) (2 * (c.frames * job_count_of r.work)) c.words d.words output output'
  pub lost : (ch : ℕ) → loss_in words' ch + (24 * count_of finished + spent processor) ≤ loss_in words ch + (24 * count_of finished' + spent processor')

pub record TurnDone (planned : Planned) (input output variables words : List ℕ) (processor : Processor) (finished : Row)
    (output' variables' words' : List ℕ) (processor' : Processor) (finished' : Row) (turned : Turned) : Type 0 where
  pub sound : SoundWords words'
  pub size : length output' ≡ length output
  pub step : (r : Run) (c : Between) (m : ℕ) (processors : List Processor) → Standing r c m processors planned input variables words processor finished
      → Stepped r c (turn r m c) m processors output words processor finished output' variables' words' processor' finished' turned

-- a job that comes to `under` by a working turn: what the turn does, the processor, what has finished, and the output words afterwards
abbrev pub came_to : Planned → ℕ → ℕ → Under → Row → Turned
came_to planned j count under finished = cond (leb count under.at) (cond (eqb (count_of (with_of finished j)) planned.jobs) Ends Works) Works

abbrev pub stands_at : Planned → ℕ → ℕ → Under → Processor
stands_at planned j count under = cond (leb count under.at) (idle_at (get_or planned.after j None)) (UnderWay j under)

abbrev pub marks_of : ℕ → ℕ → Under → Row → Row
marks_of j count under finished = cond (leb count under.at) (with_of finished j) finished

abbrev pub left_by : ℕ → ℕ → Under → List ℕ → List ℕ
left_by j count under output = cond (leb count under.at) (sets output (2 * j) (sample_words under.output)) output

-- ---- the turns of a frame

-- a frame begins in a run at turn `from`: the tables, and the frame's part of input and output. Each frame so far has lost at most 3168 writes:
-- 24 for each of 128 jobs, and 24 for each processor
pub record FrameBegun (r : Run) (planned : Planned) (turns : List ℕ) (from : ℕ) (input output variables words : List ℕ) : Type 0 where
  pub tables : RunTables r planned
  pub begins : Begins r (turns_to r turns from) variables words
  pub asked : (turns_to r turns from).frames < r.asked
  pub few : r.asked ≤ 100
  pub passed : from ≤ length turns
  pub samples : (j : ℕ) → j < planned.jobs → sample_at input j ≡ sample_at r.input ((turns_to r turns from).frames * job_count_of r.work + j)
  pub room : 2 * ((turns_to r turns from).frames * job_count_of r.work) + 2 * job_count_of r.work ≤ length (turns_to r turns from).words
  pub part : output ≡ take (2 * job_count_of r.work) (drop (2 * ((turns_to r turns from).frames * job_count_of r.work)) (turns_to r turns from).words)
  pub lost : (ch : ℕ) → loss_in words ch ≤ 3168 * (turns_to r turns from).frames

-- what the turns of a frame need
pub record FrameNeeds (planned : Planned) (turns : List ℕ) (from : ℕ) (input output variables words : List ℕ) : Type 0 where
  pub run : Run
  pub begun : FrameBegun run planned turns from input output variables words
  pub ready : Ready planned.tables.program planned.tables.counts (kinds_in planned.tables.channels) planned.processes planned.jobs
  pub named : (t : ℕ) → t < length turns → get_or turns t 0 < 4
  pub input_there : 2 * planned.jobs ≤ length input
  pub output_there : 2 * planned.jobs ≤ length output
  pub sound : SoundWords words

-- after the turns of a frame
pub record FrameDone (r : Run) (turns : List ℕ) (from : ℕ) (output' variables' words' : List ℕ) (turned : FrameTurned) : Type 0 where
  pub within : turned.passed ≤ length turns
  pub worked : (turns_to r turns turned.passed).working ≡ (turns_to r turns from).working + turned.working
  pub wrote : (turns_to r turns turned.passed).words
      ≡ put_mid (2 * ((turns_to r turns from).frames * job_count_of r.work)) (2 * job_count_of r.work) (turns_to r turns from).words output'
  pub state : (turns_to r turns turned.passed).state ≡ state_by variables' words'
  -- the frame has ended, and the next one begins
  pub ended : turned.jobs ≡ None
      → Begins r (turns_to r turns turned.passed) variables' words'
      × ((turns_to r turns turned.passed).frames ≡ suc (turns_to r turns from).frames)
      × ((ch : ℕ) → loss_in words' ch ≤ 3168 * suc (turns_to r turns from).frames)
  -- or no turn is left
  pub left : (n : ℕ) → turned.jobs ≡ Some n
      → (length turns ≤ turned.passed)
      × ((turns_to r turns turned.passed).frames ≡ (turns_to r turns from).frames)
      × (finished_count (turns_to r turns turned.passed) ≡ n)

pub record FrameTurns (planned : Planned) (turns : List ℕ) (from : ℕ) (input output variables words : List ℕ)
    (output' variables' words' : List ℕ) (turned : FrameTurned) : Type 0 where
  pub sound : SoundWords words'
  pub size : length output' ≡ length output
  pub done : (r : Run) → FrameBegun r planned turns from input output variables words
      → FrameDone r turns from output' variables' words' turned

-- ---- the turns of all frames

-- a run begins: blank output words, with `rest` past them, and nothing in variables and channels
pub record RunBegun (r : Run) (rest : List ℕ) (planned : Planned) (frames : ℕ) (input output variables words : List ℕ) : Type 0 where
  pub tables : RunTables r planned
  pub asked : r.asked ≡ frames
  pub input_is : r.input ≡ input
  pub blank : output ≡ replicate (2 * (job_count_of r.work * r.asked)) 0 ++ rest
  pub state : state_by variables words ≡ start_state
  pub lost : (ch : ℕ) → loss_in words ch ≡ 0

-- what the turns of all frames need
pub record RunNeeds (planned : Planned) (frames : ℕ) (turns input output variables words : List ℕ) : Type 0 where
  pub run : Run
  pub rest : List ℕ
  pub begun : RunBegun run rest planned frames input output variables words
  pub ready : Ready planned.tables.program planned.tables.counts (kinds_in planned.tables.channels) planned.processes planned.jobs
  pub named : (t : ℕ) → t < length turns → get_or turns t 0 < 4
  pub few : frames ≤ 100
  pub input_there : 2 * (planned.jobs * frames) ≤ length input
  pub sound : SoundWords words

-- after all turns
pub record RunDone (r : Run) (rest list output' variables' words' : List ℕ) (turned : Turnings) : Type 0 where
  pub frames_are : (turns r list (at_start r)).frames ≡ turned.frames
  pub jobs_are : finished_count (turns r list (at_start r)) ≡ turned.jobs
  pub worked : (turns r list (at_start r)).working ≡ turned.working
  pub state : (turns r list (at_start r)).state ≡ state_by variables' words'
  pub wrote : output' ≡ (turns r list (at_start r)).words ++ rest
  pub long : length (turns r list (at_start r)).words ≡ 2 * (job_count_of r.work * r.asked)

pub record RunTurns (planned : Planned) (frames : ℕ) (list input output variables words : List ℕ)
    (output' variables' words' : List ℕ) (turned : Turnings) : Type 0 where
  pub sound : SoundWords words'
  pub size : length output' ≡ length output
  pub most : turned.working ≤ length list
  pub done : (r : Run) (rest : List ℕ) → RunBegun r rest planned frames input output variables words
      → RunDone r rest list output' variables' words' turned
