-- The loop of `frames::run`: after each frame that has ended, the next one begins.
use Prim.Native.Nat.{ℕ, suc, ◌+◌, ◌-◌, ◌*◌, ◌≤◌, ◌<◌}
use mathlib.Core.Path.{◌≡◌, refl, sym, ap, ap₂, ◌∙◌}
use mathlib.Core.List.{List, ◌++◌}
use native.Mathlib.Nat.{mul_comm, mul_assoc, mul-le-mul, mul-le-mul_right, suc-mul}
use native.Mathlib.Numerals.{add-one}
use native.Mathlib.Omega.{arith}
use Rattle.std.specs.Prelude.{Some, None}
use lib.ListN.{length, take, drop, length-drop, replicate, length-append, length-replicate}
use lib.Seq.{length-take-le, get_or-take}
use borrow.Rule.Slice.PartMut.{put_mid, same_len_mid}
use Rattle.graph.specs.Work.{job_count_of}
use Rattle.machine.specs.Samples.{sample_at}
use Rattle.machine.specs.Words.{SoundWords}
use Rattle.zero_delay.specs.RunLaws.{sample_after}
use Rattle.promises.specs.Turns.{Run, Between, finished_count, turns, at_start}
use Rattle.promises.specs.TurnLaws.{turns_to, to_start, to_all, each_counted, last_waits}
use Rattle.turns.specs.Lent.{Begins, loss_in, FrameBegun, FrameNeeds, FrameDone, FrameTurns, RunBegun, RunNeeds, RunTurns}
use Rattle.turns.specs.declared.planned.Planned.{Planned}
use Rattle.turns.specs.declared.frames.FrameTurned.{FrameTurned}
use Rattle.turns.proofs.FrameMarks.{none_finished}
use Rattle.turns.proofs.Parts.{part_before, put_before}

-- ---- where a frame's part lies

pub part_within : (f jobs frames : ℕ) → f < frames → f * (2 * jobs) + 2 * jobs ≤ 2 * (jobs * frames)
part_within f jobs frames h = omega (arith, mul-le-mul_right (2 * jobs) h, suc-mul f (2 * jobs), mul_comm frames (2 * jobs), mul_assoc 2 jobs frames)

pub needed_most : (jobs frames : ℕ) → jobs ≤ 128 → frames ≤ 100 → jobs * frames ≤ 12800
needed_most jobs frames h l = mul-le-mul h l

pub width_is : (from width : ℕ) → from + width - from ≡ width
width_is from width = omega arith

from_is : (f jobs : ℕ) → f * (2 * jobs) ≡ 2 * (f * jobs)
from_is f jobs = omega arith

part_sample : (input : List ℕ) (k j : ℕ) → 2 * j + 2 ≤ k → sample_at (take k input) j ≡ sample_at input j
unfolding sample_at
part_sample input k j h = rw (get_or-take k input (2 * j) 0 (omega arith), get_or-take k input (2 * j + 1) 0 (omega arith))

-- ---- after the first f frames

-- in a run
pub record AtFrame (r : Run) (rest list : List ℕ) (passed working f : ℕ) (output variables words : List ℕ) : Type 0 where
  pub begins : Begins r (turns_to r list passed) variables words
  pub frames_are : (turns_to r list passed).frames ≡ f
  pub worked : (turns_to r list passed).working ≡ working
  pub wrote : output ≡ (turns_to r list passed).words ++ rest
  pub long : length (turns_to r list passed).words ≡ 2 * (job_count_of r.work * r.asked)
  pub lost : (ch : ℕ) → loss_in words ch ≤ 3168 * f

-- in every run that the tables are of
pub record FramesTo (planned : Planned) (frames : ℕ) (list input output₀ variables₀ words₀ : List ℕ)
    (passed working f : ℕ) (output variables words : List ℕ) : Type 0 where
  pub within : f ≤ frames
  pub passed_most : passed ≤ length list
  pub size : length output ≡ length output₀
  pub sound : SoundWords words
  pub each : (r : Run) (rest : List ℕ) → RunBegun r rest planned frames input output₀ variables₀ words₀
      → AtFrame r rest list passed working f output variables words

module _ {planned : Planned} {frames : ℕ} {list input output₀ variables₀ words₀ : List ℕ}
    (needs : RunNeeds planned frames list input output₀ variables₀ words₀) where
  pub start : FramesTo planned frames list input output₀ variables₀ words₀ 0 0 0 output₀ variables₀ words₀
  unfolding at_start
  start = record {
    within = omega arith;
    passed_most = omega arith;
    size = refl;
    sound = needs.sound;
    each = λ r rest begun.
        let z = to_start r list in
        record {
          begins = record {
            finished_is = ap (λ (c : Between). c.finished) z;
            processors_are = ap (λ (c : Between). c.processors) z;
            state_is = ap (λ (c : Between). c.state) z ∙ sym begun.state;
          };
          frames_are = ap (λ (c : Between). c.frames) z;
          worked = ap (λ (c : Between). c.working) z;
          wrote = begun.blank ∙ ap (λ (c : Between). c.words ++ rest) (sym z);
          long = ap (λ (c : Between). length c.words) z ∙ length-replicate {A = ℕ} (2 * (job_count_of r.work * r.asked)) 0;
          lost = λ ch. omega (arith, begun.lost ch);
        };
  }

  -- and it lies within the run's words, which are few
  pub part_few : {f : ℕ} → f < frames → f * (2 * planned.jobs) + 2 * planned.jobs ≤ 25600
  part_few {f} h = omega (arith, part_within f planned.jobs frames h, needed_most planned.jobs frames needs.ready.few needs.few)

  module _ {passed working f : ℕ} {output variables words : List ℕ}
      (to : FramesTo planned frames list input output₀ variables₀ words₀ passed working f output variables words) where
    -- while frames are left
    module _ (on : f < frames) where
      abbrev from : ℕ
      from = f * (2 * planned.jobs)

      pub in_input : f * (2 * planned.jobs) + 2 * planned.jobs ≤ length input
      in_input = omega (arith, part_within f planned.jobs frames on, needs.input_there)

      output_size : length output₀ ≡ 2 * (planned.jobs * frames) + length needs.rest
      output_size =
          let b = needs.begun in
          ap length b.blank ∙ length-append (replicate (2 * (job_count_of needs.run.work * needs.run.asked)) 0) needs.rest
          ∙ ap (λ (n : ℕ). n + length needs.rest) (length-replicate {A = ℕ} (2 * (job_count_of needs.run.work * needs.run.asked)) 0
          ∙ ap₂ (λ (J F : ℕ). 2 * (J * F)) b.tables.tables.count b.asked)

      pub in_output : f * (2 * planned.jobs) + 2 * planned.jobs ≤ length output
      in_output = omega (arith, part_within f planned.jobs frames on, output_size, to.size)

      module _ {k : ℕ} (wide : k ≡ 2 * planned.jobs) where
        module _ (r : Run) (rest : List ℕ) (begun : RunBegun r rest planned frames input output₀ variables₀ words₀) where
          abbrev at : AtFrame r rest list passed working f output variables words
          at = to.each r rest begun

          abbrev J : ℕ
          J = job_count_of r.work

          same_jobs : J ≡ planned.jobs
          same_jobs = begun.tables.tables.count

          from_here : 2 * ((turns_to r list passed).frames * J) ≡ from
          from_here = ap₂ (λ (n m : ℕ). 2 * (n * m)) at.frames_are same_jobs ∙ sym (from_is f planned.jobs)

          width_here : 2 * J ≡ k
          width_here = ap (λ (n : ℕ). 2 * n) same_jobs ∙ sym wide

          whole_long : from + k ≤ length (turns_to r list passed).words
          whole_long = omega (arith, part_within f planned.jobs frames on, at.long, ap₂ (λ (J F : ℕ). 2 * (J * F)) same_jobs begun.asked)

          part_is : take k (drop from output) ≡ take (2 * J) (drop (2 * ((turns_to r list passed).frames * J)) (turns_to r list passed).words)
          part_is =
              ap (λ (l : List ℕ). take k (drop from l)) at.wrote
              ∙ part_before from k (turns_to r list passed).words rest whole_long
              ∙ sym (ap₂ (λ (a n : ℕ). take n (drop a (turns_to r list passed).words)) from_here width_here)

          frame_begun : FrameBegun r planned list passed (take k (drop from input)) (take k (drop from output)) variables words
          frame_begun = record {
            tables = begun.tables;
            begins = at.begins;
            asked = omega (arith, at.frames_are, begun.asked);
            few = omega (arith, begun.asked, needs.few);
            passed = to.passed_most;
            samples = λ j h.
                part_sample (drop from input) k j (omega arith)
                ∙ ap (λ (n : ℕ). sample_at (drop n input) j) (from_is f planned.jobs)
                ∙ sample_after input (f * planned.jobs) j
                ∙ sym (ap₂ (λ (n m : ℕ). sample_at r.input (n * m + j)) at.frames_are same_jobs ∙ ap (λ (l : List ℕ). sample_at l (f * planned.jobs + j)) begun.input_is);
            room = omega (arith, from_here, width_here, whole_long);
            part = part_is;
            lost = λ ch. omega (arith, at.lost ch, at.frames_are);
          }

        part_long : (l : List ℕ) → f * (2 * planned.jobs) + 2 * planned.jobs ≤ length l → 2 * planned.jobs ≤ length (take k (drop from l))
        part_long l h = omega (arith, length-take-le k (drop from l) (omega (arith, length-drop from l)))

        pub frame_needs : FrameNeeds planned list passed (take k (drop from input)) (take k (drop from output)) variables words
        frame_needs = record {
          run = needs.run;
          begun = frame_begun needs.run needs.rest needs.begun;
          ready = needs.ready;
          named = needs.named;
          input_there = part_long input in_input;
          output_there = part_long output in_output;
          sound = to.sound;
        }

        module _ {part variables' words' : List ℕ} {turned : FrameTurned}
            (did : FrameTurns planned list passed (take k (drop from input)) (take k (drop from output)) variables words part variables' words' turned) where
          module _ (r : Run) (rest : List ℕ) (begun : RunBegun r rest planned frames input output₀ variables₀ words₀) where
            abbrev done : FrameDone r list passed part variables' words' turned
            done = did.done r (frame_begun r rest begun)

            next_worked : (turns_to r list turned.passed).working ≡ working + turned.working
            next_worked = omega (arith, done.worked, (to.each r rest begun).worked)

            put_is : (turns_to r list turned.passed).words ≡ put_mid from k (turns_to r list passed).words part
            put_is = done.wrote ∙ ap₂ (λ (a n : ℕ). put_mid a n (turns_to r list passed).words part) (from_here r rest begun) (width_here r rest begun)

            next_wrote : put_mid from k output part ≡ (turns_to r list turned.passed).words ++ rest
            next_wrote =
                ap (λ (l : List ℕ). put_mid from k l part) (to.each r rest begun).wrote
                ∙ put_before from k (turns_to r list passed).words rest part (whole_long r rest begun)
                ∙ ap (λ (l : List ℕ). l ++ rest) (sym put_is)

            next_long : length (turns_to r list turned.passed).words ≡ 2 * (job_count_of r.work * r.asked)
            next_long =
                let whole : List ℕ = (turns_to r list passed).words in
                let same : length part ≡ length (take k (drop from whole)) = did.size ∙ ap length (part_is r rest begun ∙ ap₂ (λ (a n : ℕ). take n (drop a whole)) (from_here r rest begun) (width_here r rest begun)) in
                ap length put_is ∙ same_len_mid from k whole part same ∙ (to.each r rest begun).long

          pub working_most : working + turned.working ≤ length list
          working_most =
              let r = needs.run in
              let d = did.done r (frame_begun r needs.rest needs.begun) in
              omega (arith, next_worked r needs.rest needs.begun, each_counted r list turned.passed d.within, d.within)

          pub put_size : length (put_mid from k output part) ≡ length output
          put_size = same_len_mid from k output part did.size

          pub next : turned.jobs ≡ None
              → FramesTo planned frames list input output₀ variables₀ words₀
              turned.passed (working + turned.working) (f + 1) (put_mid from k output part) variables' words'
          next e = rw (add-one f) (record {
            within = on;
            passed_most = (did.done needs.run (frame_begun needs.run needs.rest needs.begun)).within;
            size = put_size ∙ to.size;
            sound = did.sound;
            each = λ r rest begun.
                let (begins, frames, lost) = (did.done r (frame_begun r rest begun)).ended e in
                let same = (to.each r rest begun).frames_are in
                record {
                  begins = begins;
                  frames_are = frames ∙ ap suc same;
                  worked = next_worked r rest begun;
                  wrote = next_wrote r rest begun;
                  long = next_long r rest begun;
                  lost = λ ch. omega (arith, lost ch, same);
                };
          })

          pub stops : {n : ℕ} → turned.jobs ≡ Some n
              → RunTurns planned frames list input output₀ variables₀ words₀ (put_mid from k output part) variables' words'
              (record { frames = f; jobs = n; working = working + turned.working })
          stops {n} e = record {
            sound = did.sound;
            size = put_size ∙ to.size;
            most = working_most;
            done = λ r rest begun.
                let d = did.done r (frame_begun r rest begun) in
                let (out, frames, jobs) = d.left n e in
                let all = to_all r list turned.passed out in
                record {
                  frames_are = ap (λ (c : Between). c.frames) (sym all) ∙ frames ∙ (to.each r rest begun).frames_are;
                  jobs_are = ap finished_count (sym all) ∙ jobs;
                  worked = ap (λ (c : Between). c.working) (sym all) ∙ next_worked r rest begun;
                  state = ap (λ (c : Between). c.state) (sym all) ∙ d.state;
                  wrote = next_wrote r rest begun ∙ ap (λ (c : Between). c.words ++ rest) all;
                  long = ap (λ (c : Between). length c.words) (sym all) ∙ next_long r rest begun;
                };
          }

    -- all frames have ended
    pub finish : frames ≤ f
        → RunTurns planned frames list input output₀ variables₀ words₀ output variables words
        (record { frames = frames; jobs = 0; working = working })
    finish h = record {
      sound = to.sound;
      size = to.size;
      most = omega (arith, (to.each needs.run needs.rest needs.begun).worked, each_counted needs.run list passed to.passed_most, to.passed_most);
      done = λ r rest begun.
          let at = to.each r rest begun in
          let w = last_waits r list passed (omega (arith, at.frames_are, begun.asked)) in
          record {
            frames_are = w.frames ∙ omega (arith, at.frames_are, to.within);
            jobs_are = none_finished (turns r list (at_start r)) (job_count_of r.work) (w.finished ∙ at.begins.finished_is);
            worked = w.working ∙ at.worked;
            state = w.state ∙ at.begins.state_is;
            wrote = at.wrote ∙ ap (λ (l : List ℕ). l ++ rest) (sym w.words);
            long = ap length w.words ∙ at.long;
          };
    }
