-- The loop of `frame`: after each job, variables, words and output are those after the jobs so far.
use Prim.Native.Nat.{ℕ, suc, ◌+◌, ◌-◌, ◌*◌, ◌≤◌, ◌<◌}
use mathlib.Core.Path.{◌≡◌, refl, sym, ap, ◌∙◌}
use mathlib.Core.List.{List}
use native.Mathlib.Nat.{zero-add}
use native.Mathlib.Numerals.{add-one}
use native.Mathlib.Omega.{arith}
use lib.ListN.{length, get_or}
use lib.Seq.{sets, length-sets}
use Rattle.number.specs.PutLaws.{sets_append}
use Rattle.graph.specs.Work.{Work, process_of}
use Rattle.machine.specs.State.{State, nothing, contents_of}
use Rattle.machine.specs.WholeJob.{Did, whole_job}
use Rattle.machine.specs.Ledger.{job_loss}
use Rattle.machine.specs.Samples.{sample_at, sample_words}
use Rattle.machine.specs.Words.{contents_in, state_by, SoundWords}
use Rattle.machine.specs.Acting.{Room}
use Rattle.machine.specs.Jobs.{ProgramIs, Runs, JobDone}
use Rattle.machine.specs.declared.Sample.{Sample}
use Rattle.zero_delay.specs.ZeroDelay.{Sofar, jobs_done}
use Rattle.zero_delay.specs.RunLaws.{jobs_length, next_state_lem, next_words}
use Rattle.zero_delay.specs.Lent.{TablesOf, Ready, FrameDone}

-- after the first j jobs of the frame
pub record FrameTo (program counts kinds processes : List ℕ) (jobs : ℕ) (input output₀ variables₀ words₀ output variables words : List ℕ) (j : ℕ) : Type 0 where
  pub within : j ≤ jobs
  pub size : length output ≡ length output₀
  pub sound : SoundWords words
  pub room : Room words (24 * (jobs - j))
  pub state : (w : Work) → TablesOf w program counts kinds processes jobs
      → state_by variables words ≡ (jobs_done w.net (process_of w) input (state_by variables₀ words₀) j).state
  pub written : (w : Work) → TablesOf w program counts kinds processes jobs
      → output ≡ sets output₀ 0 (jobs_done w.net (process_of w) input (state_by variables₀ words₀) j).words

module _ {program counts kinds processes : List ℕ} {jobs : ℕ} (ready : Ready program counts kinds processes jobs) where
  -- the process of job j
  pub process_small : (j : ℕ) → j < jobs → get_or processes j 0 < 12
  process_small j h = rw (ready.tables.process j h) (ready.runnable j h).process

  -- and how many actions it has
  pub count_small : (j : ℕ) → j < jobs → get_or counts (get_or processes j 0) 0 ≤ 24
  count_small j h = rw (ready.tables.process j h) (ready.runnable j h).most

  module _ {input output₀ variables₀ words₀ : List ℕ} where
    pub start : SoundWords words₀ → Room words₀ (24 * jobs)
        → FrameTo program counts kinds processes jobs input output₀ variables₀ words₀ output₀ variables₀ words₀ 0
    unfolding jobs_done
    start sound room = record {
      within = omega arith;
      size = refl;
      sound = sound;
      room = record { room = λ c. omega (arith, room.room c) };
      state = λ w t. refl;
      written = λ w t. refl;
    }

    module _ {output variables words : List ℕ} {j : ℕ} (to : FrameTo program counts kinds processes jobs input output₀ variables₀ words₀ output variables words j) where
      module _ (on : j < jobs) where
        pub runs : Runs program (get_or processes j 0) (get_or counts (get_or processes j 0) 0) kinds words
        runs = rw (ready.tables.process j on) (record {
          net = ready.work.net;
          program_is = ready.tables.program_is j on;
          kinds_are = ready.tables.kinds_are;
          runnable = ready.runnable j on;
          capacities = ready.capacities;
          sound = to.sound;
          room = record { room = λ c. omega (arith, to.room.room c, (ready.runnable j on).most) };
        })

        module _ {x r : Sample} (sampled : x ≡ sample_at input j) {output' variables' words' : List ℕ}
            (did : JobDone program (get_or processes j 0) (get_or counts (get_or processes j 0) 0) x kinds variables words variables' words' r)
            (put : output' ≡ sets output (2 * j) (sample_words r)) where
          -- the job was that of the definition
          module _ (w : Work) (t : TablesOf w program counts kinds processes jobs) where
            abbrev so_far : Sofar
            so_far = jobs_done w.net (process_of w) input (state_by variables₀ words₀) j

            is : ProgramIs w.net program (get_or processes j 0) (get_or counts (get_or processes j 0) 0)
            is = rw (t.process j on) (t.program_is j on)

            same : whole_job w.net (get_or processes j 0) x (state_by variables words) ≡ whole_job w.net (process_of w j) (sample_at input j) so_far.state
            same =
                ap (λ (p : ℕ). whole_job w.net p x (state_by variables words)) (t.process j on)
                ∙ ap (λ (y : Sample). whole_job w.net (process_of w j) y (state_by variables words)) sampled
                ∙ ap (λ (s : State). whole_job w.net (process_of w j) (sample_at input j) s) (to.state w t)

            next_is : state_by variables' words' ≡ (jobs_done w.net (process_of w) input (state_by variables₀ words₀) (suc j)).state
            next_is = did.state w.net is t.kinds_are ∙ ap (λ (d : Did). d.state) same ∙ sym (next_state_lem w.net (process_of w) input (state_by variables₀ words₀) j)

            gave : r ≡ (whole_job w.net (process_of w j) (sample_at input j) so_far.state).output
            gave = did.output w.net is t.kinds_are ∙ ap (λ (d : Did). d.output) same

            next_out : output' ≡ sets output₀ 0 (jobs_done w.net (process_of w) input (state_by variables₀ words₀) (suc j)).words
            next_out =
                put ∙ rw (
                  to.written w t,
                  gave,
                  next_words w.net (process_of w) input (state_by variables₀ words₀) j,
                  sets_append output₀ 0 so_far.words (sample_words (whole_job w.net (process_of w j) (sample_at input j) so_far.state).output),
                  jobs_length w.net (process_of w) input (state_by variables₀ words₀) j,
                  zero-add (2 * j),
                )

          loss : (c : ℕ) → (get_or (contents_in words') c nothing).loss ≤ (get_or (contents_in words) c nothing).loss + 24
          loss c =
              let w = ready.work in
              let t = ready.tables in
              let e : state_by variables' words' ≡ (whole_job w.net (get_or processes j 0) x (state_by variables words)).state = did.state w.net (is w t) t.kinds_are in
              rw (ap (λ (s : State). (contents_of c s).loss) e) (job_loss w.net ready.short c (get_or processes j 0) x (state_by variables words))

          pub turn : FrameTo program counts kinds processes jobs input output₀ variables₀ words₀ output' variables' words' (j + 1)
          turn = rw (add-one j) (record {
            within = omega arith;
            size = rw put (length-sets output (2 * j) (sample_words r)) ∙ to.size;
            sound = did.sound;
            room = record { room = λ c. omega (arith, to.room.room c, loss c) };
            state = next_is;
            written = next_out;
          })

      pub finish : jobs ≤ j → FrameDone program counts kinds processes jobs input output₀ variables₀ words₀ output variables words
      finish h = record {
        sound = to.sound;
        state = λ w t. rw e at (to.state w t);
        written = λ w t. rw e at (to.written w t);
      }
        where
          e : j ≡ jobs
          e = omega (arith, to.within)
