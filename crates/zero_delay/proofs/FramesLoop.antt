-- The loop of `frames::run`: after each frame, variables, words and output are those after the frames so far.
use Prim.Native.Nat.{ℕ, suc, ◌+◌, ◌-◌, ◌*◌, ◌≤◌, ◌<◌}
use mathlib.Core.Path.{◌≡◌, refl, sym, ap, ap₂, subst, ◌∙◌}
use mathlib.Core.List.{List, [], ◌++◌, append_assoc, append-nil}
use native.Mathlib.Nat.{mul_comm, mul_assoc, mul-le-mul, mul-le-mul_right, suc-mul, mul-suc}
use native.Mathlib.Numerals.{add-one}
use native.Mathlib.Omega.{arith}
use lib.ListN.{length, get_or, take, drop, length-drop, drop_of_length-le}
use lib.Seq.{sets, length-sets, sets-eq, drop-drop, get_or-take, length-take-le}
use borrow.Rule.Slice.PartMut.{put_mid}
use Rattle.number.specs.PutLaws.{sets_append}
use Rattle.graph.specs.Work.{Work, process_of}
use Rattle.machine.specs.State.{State, nothing, contents_of}
use Rattle.machine.specs.Samples.{sample_at}
use Rattle.machine.specs.Words.{contents_in, state_by, SoundWords}
use Rattle.machine.specs.Acting.{Room}
use Rattle.zero_delay.specs.ZeroDelay.{Sofar, process_in, jobs_done}
use Rattle.zero_delay.specs.RunLaws.{jobs_same, jobs_length, jobs_loss, frame_more}
use Rattle.zero_delay.specs.Lent.{TablesOf, Ready, FramesReady, FrameDone, FramesDone}

-- ---- where a frame's part lies

pub from_is : (f jobs : ℕ) → f * (2 * jobs) ≡ 2 * (f * jobs)
from_is f jobs = omega arith

-- the part ends within what the run needs
pub part_within : (f jobs frames : ℕ) → f < frames → f * (2 * jobs) + 2 * jobs ≤ 2 * (jobs * frames)
part_within f jobs frames h = omega (arith, mul-le-mul_right (2 * jobs) h, suc-mul f (2 * jobs), mul_comm frames (2 * jobs), mul_assoc 2 jobs frames)

pub needed_most : (jobs frames : ℕ) → jobs ≤ 128 → frames ≤ 100 → jobs * frames ≤ 12800
needed_most jobs frames h l = mul-le-mul h l

pub width_is : (from width : ℕ) → from + width - from ≡ width
width_is from width = omega arith

-- the part has a frame's words
pub part_long : (l : List ℕ) (a k n : ℕ) → k ≡ n → a + n ≤ length l → n ≤ length (take k (drop a l))
part_long l a k n e h = omega (arith, length-take-le k (drop a l) (omega (arith, length-drop a l)))

-- the words put back into their part are words put into the whole
pub put_words : (xs ws : List ℕ) (a k : ℕ) → length ws ≡ k → a + k ≤ length xs → put_mid a k xs (sets (take k (drop a xs)) 0 ws) ≡ sets xs a ws
put_words xs ws a k e h =
    let mid : List ℕ = take k (drop a xs) in
    let size : length mid ≡ k = length-take-le k (drop a xs) (omega (arith, length-drop a xs)) in
    let none : drop (0 + length ws) mid ≡ [] = drop_of_length-le mid {i = 0 + length ws} (omega arith) in
    let whole : sets mid 0 ws ≡ ws = sets-eq ws mid 0 (omega arith) ∙ ap (λ (l : List ℕ). ws ++ l) none ∙ append-nil ws in
    rw (whole, drop-drop k a xs, sets-eq ws xs a (omega arith), e) (sym (append_assoc (take a xs) ws (drop (a + k) xs)))

-- the samples of a part are those of the input from there on
pub part_sample : (input : List ℕ) (k j : ℕ) → 2 * j + 2 ≤ k → sample_at (take k input) j ≡ sample_at input j
unfolding sample_at
part_sample input k j h = rw (get_or-take k input (2 * j) 0 (omega arith), get_or-take k input (2 * j + 1) 0 (omega arith))

-- ---- the loop

-- after the first f frames
pub record FramesTo (program counts kinds processes : List ℕ) (jobs frames : ℕ) (input output₀ variables₀ words₀ output variables words : List ℕ) (f : ℕ) : Type 0 where
  pub within : f ≤ frames
  pub size : length output ≡ length output₀
  pub sound : SoundWords words
  pub room : Room words (24 * (jobs * (frames - f)))
  pub state : (w : Work) → TablesOf w program counts kinds processes jobs
      → state_by variables words ≡ (jobs_done w.net (process_in w) input (state_by variables₀ words₀) (f * jobs)).state
  pub written : (w : Work) → TablesOf w program counts kinds processes jobs
      → output ≡ sets output₀ 0 (jobs_done w.net (process_in w) input (state_by variables₀ words₀) (f * jobs)).words

module _ {program counts kinds processes : List ℕ} {jobs frames : ℕ} (ready : Ready program counts kinds processes jobs) {input output₀ variables₀ words₀ : List ℕ}
    (needs : FramesReady jobs frames input output₀ words₀) where
  pub start : FramesTo program counts kinds processes jobs frames input output₀ variables₀ words₀ output₀ variables₀ words₀ 0
  unfolding jobs_done
  start =
      let z : 0 * jobs ≡ 0 = omega arith in
      record {
        within = omega arith;
        size = refl;
        sound = needs.sound;
        room = record { room = λ c. let y : frames - 0 ≡ frames = omega arith in rw y (needs.room.room c) };
        state = λ w t. rw z refl;
        written = λ w t. rw z refl;
      }

  module _ {output variables words : List ℕ} {f : ℕ} (to : FramesTo program counts kinds processes jobs frames input output₀ variables₀ words₀ output variables words f) where
    module _ (on : f < frames) where
      abbrev from : ℕ
      from = f * (2 * jobs)

      pub in_input : f * (2 * jobs) + 2 * jobs ≤ length input
      in_input = omega (arith, part_within f jobs frames on, needs.input_there)

      pub in_output : f * (2 * jobs) + 2 * jobs ≤ length output
      in_output = omega (arith, part_within f jobs frames on, needs.output_there, to.size)

      more : jobs * (frames - f) ≡ jobs * (frames - suc f) + jobs
      more = let z : frames - f ≡ suc (frames - suc f) = omega arith in rw z (mul-suc jobs (frames - suc f))

      pub frame_room : Room words (24 * jobs)
      frame_room = record { room = λ c. omega (arith, to.room.room c, more) }

      module _ {k : ℕ} (wide : k ≡ 2 * jobs) {part variables' words' : List ℕ}
          (did : FrameDone program counts kinds processes jobs (take k (drop from input)) (take k (drop from output)) variables words part variables' words') where
        module _ (w : Work) (t : TablesOf w program counts kinds processes jobs) where
          abbrev so_far : Sofar
          so_far = jobs_done w.net (process_in w) input (state_by variables₀ words₀) (f * jobs)

          same : jobs_done w.net (process_of w) (take k (drop from input)) (state_by variables words) jobs
              ≡ jobs_done w.net (process_of w) (drop (2 * (f * jobs)) input) so_far.state jobs
          same =
              jobs_same w.net (process_of w) (process_of w) (take k (drop from input)) (drop from input) (state_by variables words) jobs (λ j h. refl)
              (λ j h. part_sample (drop from input) k j (omega arith))
              ∙ ap₂ (λ (i : ℕ) (s : State). jobs_done w.net (process_of w) (drop i input) s jobs) (from_is f jobs) (to.state w t)

          -- one frame more
          more_state : (jobs_done w.net (process_in w) input (state_by variables₀ words₀) (suc f * jobs)).state
              ≡ (jobs_done w.net (process_of w) (drop (2 * (f * jobs)) input) so_far.state jobs).state
          more_state =
              let start = state_by variables₀ words₀ in
              ap (λ (n : ℕ). (jobs_done w.net (process_in w) input start n).state) (suc-mul f jobs)
              ∙ subst (λ J. (jobs_done w.net (process_in w) input start (f * J + J)).state
              ≡ (jobs_done w.net (process_of w) (drop (2 * (f * J)) input) (jobs_done w.net (process_in w) input start (f * J)).state J).state)
              t.count (frame_more w input start f).0

          more_words : (jobs_done w.net (process_in w) input (state_by variables₀ words₀) (suc f * jobs)).words
              ≡ so_far.words ++ (jobs_done w.net (process_of w) (drop (2 * (f * jobs)) input) so_far.state jobs).words
          more_words =
              let start = state_by variables₀ words₀ in
              ap (λ (n : ℕ). (jobs_done w.net (process_in w) input start n).words) (suc-mul f jobs)
              ∙ subst (λ J. (jobs_done w.net (process_in w) input start (f * J + J)).words
              ≡ (jobs_done w.net (process_in w) input start (f * J)).words
              ++ (jobs_done w.net (process_of w) (drop (2 * (f * J)) input) (jobs_done w.net (process_in w) input start (f * J)).state J).words)
              t.count (frame_more w input start f).1

          next_is : state_by variables' words' ≡ (jobs_done w.net (process_in w) input (state_by variables₀ words₀) (suc f * jobs)).state
          next_is = did.state w t ∙ ap (λ (r : Sofar). r.state) same ∙ sym more_state

          next_out : put_mid from k output part ≡ sets output₀ 0 (jobs_done w.net (process_in w) input (state_by variables₀ words₀) (suc f * jobs)).words
          next_out =
              let start = state_by variables₀ words₀ in
              let ws : List ℕ = (jobs_done w.net (process_of w) (drop (2 * (f * jobs)) input) so_far.state jobs).words in
              let size : length ws ≡ k = jobs_length w.net (process_of w) (drop (2 * (f * jobs)) input) so_far.state jobs ∙ sym wide in
              let far : 0 + length so_far.words ≡ f * (2 * jobs) = omega (arith, jobs_length w.net (process_in w) input start (f * jobs), from_is f jobs) in
              ap (λ (l : List ℕ). put_mid from k output l) (did.written w t ∙ ap (λ (r : Sofar). sets (take k (drop from output)) 0 r.words) same)
              ∙ put_words output ws from k size (omega (arith, in_output))
              ∙ ap (λ (l : List ℕ). sets l from ws) (to.written w t)
              ∙ sym (ap (λ (l : List ℕ). sets output₀ 0 l) more_words ∙ sets_append output₀ 0 so_far.words ws ∙ ap (λ (i : ℕ). sets (sets output₀ 0 so_far.words) i ws) far)

        loss : (c : ℕ) → (get_or (contents_in words') c nothing).loss ≤ (get_or (contents_in words) c nothing).loss + 24 * jobs
        loss c =
            let w = ready.work in
            rw (ap (λ (s : State). (contents_of c s).loss) (did.state w ready.tables))
            (jobs_loss w.net ready.short c (process_of w) (take k (drop from input)) (state_by variables words) jobs)

        pub turn : FramesTo program counts kinds processes jobs frames input output₀ variables₀ words₀ (put_mid from k output part) variables' words' (f + 1)
        turn = rw (add-one f) (record {
          within = omega arith;
          size = ap length (next_out ready.work ready.tables) ∙ length-sets output₀ 0 (jobs_done ready.work.net (process_in ready.work) input (state_by variables₀ words₀) (suc f * jobs)).words;
          sound = did.sound;
          room = record { room = λ c. omega (arith, to.room.room c, loss c, more) };
          state = next_is;
          written = next_out;
        })

    pub finish : frames ≤ f → FramesDone program counts kinds processes jobs frames input output₀ variables₀ words₀ output variables words
    finish h =
        let z : f ≡ frames = omega (arith, to.within) in
        let e : f * jobs ≡ jobs * frames = ap (λ (n : ℕ). n * jobs) z ∙ mul_comm frames jobs in
        record {
          sound = to.sound;
          state = λ w t. rw e at (to.state w t);
          written = λ w t. rw e at (to.written w t);
        }
