-- The frame of a valid network has all that a run needs, and a run on it is the run of the network's work.
use Rattle.std.specs.Prelude.{ℕ, ◌*◌, ◌≤◌, ◌<◌, ◌≡◌, List, map, length, replicate, get_or, take, Ok, Err, leb, eqb, ◌&&◌}
use Rattle.std.proofs.Math.Path.{refl, ap}
use Rattle.std.proofs.Common.{sym, ◌∙◌, mul-le-mul, arith, get_or-take, length-take}
use Rattle.std.proofs.Math.ListN.{get_or-map}
use Rattle.std.proofs.Math.Seq.{sets}
use borrow.Author.Tests.{leb-true, eqb-true}
use Rattle.reply.specs.Result.{Result, done, refused, and_then}
use Rattle.reply.specs.Told.{told, judged, refusal_in, refusal_told}
use Rattle.reply.specs.Call.{ok_frames, room_of}
use Rattle.reply.specs.Tests.{split, both}
use Rattle.reply.specs.Reply.{reply_number}
use Rattle.reply.specs.declared.Refusal.{Refusal}
use Rattle.reply.specs.declared.Reply.{Reply}
use Rattle.reply.specs.declared.Reply.TheVariants.{Done}
use Rattle.network.specs.ListLaws.{length_fill}
use Rattle.network.specs.Lists.{fill_to}
use Rattle.network.specs.Net.{fill, no_channel}
use Rattle.graph.specs.Sequence.{no_job}
use Rattle.graph.specs.Work.{work_of, load_work, job_count_of, process_of}
use Rattle.graph.specs.WorkLaws.{work_net}
use Rattle.graph.specs.Graph.{frame_file}
use Rattle.graph.specs.FileLaws.{honest_work}
use Rattle.graph.specs.FrameOf.{FrameOf, work_in, network_is, count_is, job_is, work_is, jobs_is, few_jobs}
use Rattle.graph.specs.Promise.{jobs_are}
use Rattle.graph.specs.declared.Job.{Job}
use Rattle.graph.specs.declared.Framed.{Framed}
use Rattle.machine.specs.State.{State}
use Rattle.machine.specs.Ledger.{valid_short}
use Rattle.machine.specs.HeldOf.{held_of}
use Rattle.machine.specs.Samples.{ok_samples}
use Rattle.machine.specs.Words.{state_by, contents_in}
use Rattle.machine.specs.StartLaws.{no_words, start_sound, start_state_lem, start_room}
use Rattle.machine.specs.Acting.{kinds_in, KindsTold}
use Rattle.machine.specs.KindLaws.{kinds_told}
use Rattle.machine.specs.TableLaws.{kinds_are, capacities_are, programs_are, counts_are, runnable_are}
use Rattle.zero_delay.specs.declared.Ran.{Ran}
use Rattle.zero_delay.specs.ZeroDelay.{Sofar, ran_jobs, run_work, zero_delay, process_in, jobs_done, ran_of, filled_by}
use Rattle.zero_delay.specs.Lent.{processes_in, TablesOf, Ready, FramesReady, FramesDone}
use Rattle.zero_delay.specs.Calls.{refused_with, ran_after, Admitted}

-- the process of job j of a table, and of its first n jobs
pub process_at : (table : List Job) (j : ℕ) → get_or (processes_in table) j 0 ≡ (get_or table j no_job).process
process_at table j = get_or-map (λ (x : Job). x.process) table j no_job

pub first_process : (table : List Job) (n j : ℕ) → j < n → get_or (processes_in (take n table)) j 0 ≡ (get_or table j no_job).process
first_process table n j h = process_at (take n table) j ∙ ap (λ (x : Job). x.process) (get_or-take n table j no_job h)

module _ {framed : Framed} (frame : FrameOf framed) where
  -- the table has as many jobs as it counts
  pub jobs_there : length (take framed.job_count framed.jobs) ≡ framed.job_count
  jobs_there =
      let size : length framed.jobs ≡ 128 = ap (λ (x : Framed). length x.jobs) frame.is ∙ length_fill 128 no_job (work_of frame.net).jobs (jobs_are frame.net frame.valid).most in
      simp length-take (omega (arith, few_jobs frame))

  -- every job's process has a program
  has_program : (j : ℕ) → j < framed.job_count → process_of (work_of frame.net) j < length frame.net.programs
  has_program j h = omega (arith, frame.valid.programs, ((jobs_are frame.net frame.valid).each j (omega (arith, count_is frame))).process)

  -- kind and capacity of each channel are told
  pub kinds_there : KindsTold framed.network.channels (kinds_in framed.network.channels)
  unfolding fill
  kinds_there = rw (network_is frame) (kinds_told (fill_to 16 no_channel frame.net.channels) (length_fill 16 no_channel frame.net.channels frame.valid.channel_count))

  kinded_net : {kinds : List ℕ} → KindsTold framed.network.channels kinds → KindsTold (fill frame.net).channels kinds
  kinded_net kinded = rw (network_is frame) at kinded

  module _ {kinds processes : List ℕ} (kinded : KindsTold framed.network.channels kinds)
      (told : (j : ℕ) → j < framed.job_count → get_or processes j 0 ≡ (get_or framed.jobs j no_job).process) where
    pub tables : TablesOf (work_of frame.net) framed.network.actions framed.network.action_counts kinds processes framed.job_count
    tables = record {
      count = sym (count_is frame);
      process = λ j h. told j h ∙ ap (λ (x : Job). x.process) (job_is frame j);
      program_is = λ j h.
          let p : ℕ = process_of (work_of frame.net) j in
          rw (work_net frame.net, network_is frame, counts_are frame.net frame.valid p (has_program j h)) (programs_are frame.net frame.valid p (has_program j h));
      kinds_are = rw (work_net frame.net) (kinds_are frame.net frame.valid kinds (kinded_net kinded));
    }

    pub ready : Ready framed.network.actions framed.network.action_counts kinds processes framed.job_count
    ready = record {
      work = work_of frame.net;
      tables = tables;
      runnable = λ j h.
          let p : ℕ = process_of (work_of frame.net) j in
          rw (network_is frame, counts_are frame.net frame.valid p (has_program j h)) (runnable_are frame.net frame.valid p (has_program j h));
      capacities = capacities_are frame.net frame.valid kinds (kinded_net kinded);
      short = rw (work_net frame.net) (valid_short frame.net frame.valid);
      few = few_jobs frame;
    }

    -- after the frames, variables, words and output are those of the run
    module _ {frames : ℕ} {input output output' variables' words' : List ℕ}
        (did : FramesDone framed.network.actions framed.network.action_counts kinds processes framed.job_count frames input output (replicate 96 0) no_words output' variables' words') where
      abbrev ran : Sofar
      ran = ran_jobs (work_in framed) input (job_count_of (work_in framed) * frames)

      ran_is : jobs_done (work_of frame.net).net (process_in (work_of frame.net)) input (state_by (replicate 96 0) no_words) (framed.job_count * frames) ≡ ran
      unfolding ran_jobs
      ran_is = rw (work_is frame, count_is frame, start_state_lem) refl

      state_is : state_by variables' words' ≡ ran.state
      state_is = did.state (work_of frame.net) tables ∙ ap (λ (r : Sofar). r.state) ran_is

      pub result_after : ◌≡◌ {A = Ran} (record { answer = record { reply = Done; place = 0 }; variables = variables'; channels = map held_of (contents_in words') }) (ran_after ran)
      result_after = rw (ap (λ (s : State). s.variables) state_is, ap (λ (s : State). s.channels) state_is) refl

      pub result_is : ◌≡◌ {A = Ran} (record { answer = record { reply = Done; place = 0 }; variables = variables'; channels = map held_of (contents_in words') }) (ran_of (done ran))
      unfolding ran_of
      result_is = result_after

      pub filled_is : output' ≡ filled_by (done ran) output
      unfolding filled_by
      filled_is = did.written (work_of frame.net) tables ∙ ap (λ (r : Sofar). sets output 0 r.words) ran_is

-- a run that is not refused has room for all that it may lose
pub frames_ready : {framed : Framed} {frames : ℕ} {input output : List ℕ} → Admitted framed frames input output → FramesReady framed.job_count frames input output no_words
frames_ready {framed} {frames} a = record {
  few = a.few;
  input_there = a.input_there;
  output_there = a.output_there;
  sound = start_sound;
  room = start_room (24 * (framed.job_count * frames)) (omega (arith, mul-le-mul (few_jobs a.frame) a.few));
}

-- ---- the steps of the calls, one after another

module _ {A B : Type 0} (r : Result A) (next : A → Result B) (f : A → Unit {0}) where
  -- a step that refused is the call's refusal
  pub stops : {e : Refusal} → Err e ≡ told f r → and_then r next ≡ refused e.reply e.place
  stops = of r
    where
      of : (r : Result A) {e : Refusal} → Err e ≡ told f r → and_then r next ≡ refused e.reply e.place
      of (done a) e = cc
      of (refused reply place) {e} d = let same : e ≡ record { reply = reply; place = place } = cc in rw same

-- after a step that is done the call goes on
pub goes_on : {B : Type 0} (r : Result (Unit {0})) (next : Unit {0} → Result B) {u : Unit {0}} → Ok u ≡ judged r → and_then r next ≡ next tt
goes_on (done tt) next e = refl
goes_on (refused reply place) next e = cc

pub room_there : {needed size : ℕ} {u : Unit {0}} → Ok u ≡ judged (room_of needed size) → needed ≤ size
room_there {needed} {size} e = split (leb needed size) (λ t. leb-true needed size t) (λ t. let z = rw t at e in cc)

pub frames_range : {frames : ℕ} {u : Unit {0}} → Ok u ≡ judged (ok_frames frames) → frames ≤ 100
frames_range {frames} e = split (leb 1 frames && leb frames 100) (λ t. leb-true frames 100 (both (leb 1 frames) (leb frames 100) t).1) (λ t. let z = rw t at e in cc)

-- the steps of an accepted frame, by its own number of jobs
pub framed_steps : {framed : Framed} → FrameOf framed → (frames : ℕ) (input output : List ℕ) → run_work (work_in framed) frames input output
    ≡ and_then (room_of (2 * (framed.job_count * frames)) (length input)) λ ok₁.
    and_then (room_of (2 * (framed.job_count * frames)) (length output)) λ ok₂.
    and_then (ok_samples (framed.job_count * frames) input) λ ok₃.
    done (ran_jobs (work_in framed) input (job_count_of (work_in framed) * frames))
unfolding run_work
framed_steps frame frames input output = rw (jobs_is frame)

-- and those of a file
pub file_steps : (file : List ℕ) (frames : ℕ) (input output : List ℕ) → zero_delay file frames input output ≡ and_then (ok_frames frames) λ ok. and_then (load_work file) λ w. run_work w frames input output
unfolding zero_delay
file_steps file frames input output = refl

module _ (file : List ℕ) {framed : Framed} (is : framed ≡ frame_file file) where
  -- what the frame answers is what the file came to
  pub answer_told : refusal_in framed.answer ≡ told (λ w. tt) (load_work file)
  unfolding frame_file
  answer_told = rw is (refusal_told (load_work file) (honest_work file))

  pub accepted : {u : Unit {0}} → Ok u ≡ refusal_in framed.answer → reply_number framed.answer.reply ≡ 0
  accepted e = split (eqb (reply_number framed.answer.reply) 0) (λ t. eqb-true _ 0 t) (λ t. let z = rw t at e in cc)

-- ---- what a call returns and writes

module _ {r : Result Sofar} where
  pub refused_told : {e : Refusal} → r ≡ refused e.reply e.place → Err e ≡ told ran_after r
  refused_told d = rw d

  pub refused_filled : {reply : Reply} {place : ℕ} (output : List ℕ) → r ≡ refused reply place → output ≡ filled_by r output
  unfolding filled_by
  refused_filled output d = rw d

  -- of a run that is another
  pub same_filled : {q : Result Sofar} {after : List ℕ} (output : List ℕ) → r ≡ q → after ≡ filled_by q output → after ≡ filled_by r output
  same_filled output e f = f ∙ ap (λ (r : Result Sofar). filled_by r output) (sym e)

pub ran_is_lem : (r : Result Sofar) {x : Ran} → Ok x ≡ told ran_after r → x ≡ ran_of r
unfolding ran_of
ran_is_lem (done s) e = cc
ran_is_lem (refused reply place) e = cc

pub refused_is : (r : Result Sofar) {e : Refusal} → Err e ≡ told ran_after r
    → refused_with (record { reply = e.reply; place = e.place }) ≡ ran_of r
unfolding ran_of
refused_is (done s) d = cc
refused_is (refused reply place) {e} d = let same : e ≡ record { reply = reply; place = place } = cc in rw same
