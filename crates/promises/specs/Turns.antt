-- The turn run: each turn names a processor, which starts its next job, does one action of the job under way, or waits.
use Rattle.std.specs.Prelude.{ℕ, zero, suc, ◌+◌, ◌*◌, Bool, true, false, cond, not, ◌&&◌, ◌||◌, List, [], ◌∷◌, length, get_or, set, replicate, ltb, eqb}
use Rattle.std.proofs.lemmas.List.Edits.{sets}
use Rattle.reply.specs.Tools.{all, count, pick}
use Rattle.reply.specs.Result.{Result, done, and_then, require, in_order}
use Rattle.reply.specs.Call.{ok_processors, ok_frames, ok_room}
use Rattle.reply.specs.declared.Reply.TheVariants.{WrongTurn}
use Rattle.graph.specs.Work.{Work, load_work, job_count_of, process_of, precedes}
use Rattle.machine.specs.State.{State, start_state}
use Rattle.machine.specs.WholeJob.{started, act_state, act_under, at_end}
use Rattle.machine.specs.Samples.{sample_at, sample_words, ok_samples}
use Rattle.machine.specs.declared.Under.{Under}
use Rattle.plan.specs.Plan.{processor_at, start_at, checked_by}

-- what a run is of: the work, the frames asked for, the plan, the input
pub record Run : Type 0 where
  pub work : Work
  pub asked : ℕ
  pub plan : List ℕ
  pub input : List ℕ

-- a processor: 0, or one more than the job under way there; and what that job keeps
pub record Stand : Type 0 where
  pub job : ℕ
  pub under : Under

abbrev pub idle : Stand
idle = record { job = 0; under = started }

-- between two turns: frames finished; which jobs of the present frame have finished; the processors; the state; the output words; the turns so far
pub record Between : Type 0 where
  pub frames : ℕ
  pub finished : List Bool
  pub processors : List Stand
  pub state : State
  pub words : List ℕ
  pub working : ℕ
  pub waiting : ℕ

abbrev pub is_finished : Between → ℕ → Bool
is_finished c j = get_or c.finished j false

abbrev pub stand_of : Between → ℕ → Stand
stand_of c m = get_or c.processors m idle

-- a job's index in the run: "frame times J plus job number"
abbrev pub index_of : Run → Between → ℕ → ℕ
index_of r c j = c.frames * job_count_of r.work + j

-- ---- one turn

-- "a frame begins when all jobs of the one before have finished"
unfoldable pub next_frame : Run → Between → Between
next_frame r c = cond (all (job_count_of r.work) (is_finished c))
    (record {
      frames = c.frames + 1;
      finished = replicate (job_count_of r.work) false;
      processors = c.processors;
      state = c.state;
      words = c.words;
      working = c.working;
      waiting = c.waiting;
    })
    c

-- job j on processor m comes to u and to state s by a working turn: "the job finishes when it reaches the end", and leaves its output
unfoldable pub finishes : Run → ℕ → ℕ → Under → State → Between → Between
finishes r m j u s c = next_frame r (record {
  frames = c.frames;
  finished = set c.finished j true;
  processors = set c.processors m idle;
  state = s;
  words = sets c.words (2 * index_of r c j) (sample_words u.output);
  working = c.working + 1;
  waiting = c.waiting;
})

-- or it goes on, and is under way
unfoldable pub goes_on : ℕ → ℕ → Under → State → Between → Between
goes_on m j u s c = record {
  frames = c.frames;
  finished = c.finished;
  processors = set c.processors m (record { job = suc j; under = u });
  state = s;
  words = c.words;
  working = c.working + 1;
  waiting = c.waiting;
}

unfoldable pub comes_to : Run → ℕ → ℕ → Under → State → Between → Between
comes_to r m j u s c = cond (at_end r.work.net (process_of r.work j) u) (finishes r m j u s c) (goes_on m j u s c)

-- "otherwise the turn waits and changes nothing"
unfoldable pub waits : Between → Between
waits c = record {
  frames = c.frames;
  finished = c.finished;
  processors = c.processors;
  state = c.state;
  words = c.words;
  working = c.working;
  waiting = c.waiting + 1;
}

-- "its next job in planned order of this frame": 0 if none is left, and else one more
unfoldable pub next_job : Run → ℕ → Between → ℕ
next_job r m c = pick (λ j. eqb (processor_at r.plan j) m && not (is_finished c j)) (start_at r.plan) (job_count_of r.work)

-- "if all predecessors have finished"
unfoldable pub is_ready : Run → Between → ℕ → Bool
is_ready r c j = all (job_count_of r.work) (λ i. not (precedes r.work i j) || is_finished c i)

-- "with no job under way it starts its next job [..]; this is the whole turn, and a job without actions then finishes"
unfoldable pub starts : Run → ℕ → Between → ℕ → Between
starts r m c zero = waits c
starts r m c (suc j) = cond (is_ready r c j) (comes_to r m j started c.state c) (waits c)

-- "with a job under way it does one action (a skip is one)"
unfoldable pub acts : Run → ℕ → ℕ → Under → Between → Between
acts r m j u c =
    comes_to r m j
    (act_under r.work.net (process_of r.work j) u c.state)
    (act_state r.work.net (process_of r.work j) (sample_at r.input (index_of r c j)) u c.state)
    c

-- what the processor does, by the job under way there: 0, or one more
unfoldable pub turn_on : Run → ℕ → Between → ℕ → Between
turn_on r m c zero = starts r m c (next_job r m c)
turn_on r m c (suc j) = acts r m j (stand_of c m).under c

-- a turn of processor m; after the last frame it waits
unfoldable pub turn : Run → ℕ → Between → Between
turn r m c = cond (ltb c.frames r.asked) (turn_on r m c (stand_of c m).job) (waits c)

-- ---- the run

-- one turn after another
unfoldable pub turns : Run → List ℕ → Between → Between
turns r [] c = c
turns r (m ∷ ms) c = turns r ms (turn r m c)

-- before the first turn
unfoldable pub at_start : Run → Between
at_start r = record {
  frames = 0;
  finished = replicate (job_count_of r.work) false;
  processors = replicate 4 idle;
  state = start_state;
  words = replicate (2 * (job_count_of r.work * r.asked)) 0;
  working = 0;
  waiting = 0;
}

abbrev pub finished_count : Between → ℕ
finished_count c = count (length c.finished) (is_finished c)

-- ---- the call

-- refused: "turn not below M", at the turn
unfoldable pub ok_turns : ℕ → List ℕ → Result (Unit {0})
ok_turns m list = in_order (length list) (λ k. require (ltb (get_or list k 0) m) WrongTurn k)

-- the run of a network's work, after the file was read: 10, plan, samples, turns
unfoldable pub turn_work : Work → ℕ → ℕ → List ℕ → List ℕ → List ℕ → List ℕ → Result Between
turn_work w m frames plan input list output =
    and_then (ok_room (2 * job_count_of w) plan) λ ok₁.
    and_then (ok_room (2 * (job_count_of w * frames)) input) λ ok₂.
    and_then (ok_room (2 * (job_count_of w * frames)) output) λ ok₃.
    and_then (checked_by w m plan) λ ok₄.
    and_then (ok_samples (job_count_of w * frames) input) λ ok₅.
    and_then (ok_turns m list) λ ok₆.
    let r : Run = record { work = w; asked = frames; plan = plan; input = input } in
    done (turns r list (at_start r))

-- the call: M, F, file, and then the run
unfoldable pub turn_call : List ℕ → ℕ → ℕ → List ℕ → List ℕ → List ℕ → List ℕ → Result Between
turn_call file m frames plan input list output =
    and_then (ok_processors m) λ ok₁.
    and_then (ok_frames frames) λ ok₂.
    and_then (load_work file) λ w.
    turn_work w m frames plan input list output
