-- One turn within a frame: processors, finished jobs, state and output afterwards are those of the definition.
use Prim.Native.Nat.{ℕ, zero, suc, ◌+◌, ◌*◌, ◌≤◌, ◌<◌}
use mathlib.Core.Path.{◌≡◌, refl, sym, ap, subst, ◌∙◌}
use mathlib.Core.Logic.{◌≢◌}
use mathlib.Core.Bool.{Bool, true}
use mathlib.Core.List.{List, [], ◌∷◌, map}
use native.Mathlib.Decide.{dec_lt, ℕ_discrete}
use native.Mathlib.Numerals.{add-one}
use native.Mathlib.Omega.{arith}
use lib.Dec.{eqb}
use lib.ListN.{length, get_or, set, replicate, length-set, length-map, length-replicate, get_or-replicate, get_or-map}
use lib.Seq.{sets, ext_get_or, get_or-set_same, get_or-set_other, set-get_or}
use borrow.Author.Tests.{le-leb, lt-leb}
use Rattle.std.specs.Prelude.{Option, Some, None, cond}
use Rattle.reply.specs.Tools.{all}
use Rattle.reply.specs.Tests.{split, clash}
use Rattle.marks.specs.Row.{marked, with_of, count_of}
use Rattle.marks.specs.Laws.{with_same, with_other}
use Rattle.marks.specs.declared.Row.{Row}
use Rattle.network.specs.Lists.{table}
use Rattle.graph.specs.Work.{job_count_of, process_of}
use Rattle.machine.specs.WholeJob.{program_of}
use Rattle.machine.specs.Samples.{sample_words}
use Rattle.machine.specs.Words.{state_by}
use Rattle.machine.specs.declared.Under.{Under}
use Rattle.plan.specs.Plan.{processor_at, start_at}
use Rattle.promises.specs.Turns.{Run, Stand, idle, Between, is_finished, next_frame, finishes, goes_on, comes_to, waits}
use Rattle.turns.specs.Order.{job_in, next_from, next_left, left_picked, left_on, left_todo, left_after, left_other, order_after}
use Rattle.turns.specs.Lent.{stand_by, next_of, idle_at, InFrame, Standing, Stepped, Wrote, loss_in, spent, came_to, stands_at, marks_of, left_by}
use Rattle.turns.specs.declared.planned.Planned.{Planned}
use Rattle.turns.specs.declared.turning.Processor.{Processor}
use Rattle.turns.specs.declared.turning.Processor.TheVariants.{NoneLeft, Next, UnderWay}
use Rattle.turns.specs.declared.turning.Turned.{Turned}
use Rattle.turns.specs.declared.turning.Turned.TheVariants.{Waits, Works, Ends}
use Rattle.turns.proofs.FrameMarks.{count_with, marks_set, all_counted, all_marked}

map_set : (f : Processor → Stand) (l : List Processor) (i : ℕ) (x : Processor) → map f (set l i x) ≡ set (map f l) i (f x)
map_set f [] i x = refl
map_set f (y ∷ ys) zero x = refl
map_set f (y ∷ ys) (suc i) x = ap (λ (l : List Stand). f y ∷ l) (map_set f ys i x)

-- ---- a processor with no job under way

pub same_way : {j i : ℕ} {u v : Under} (P : ℕ → Under → Type 0) → UnderWay j u ≡ UnderWay i v → P j u → P i v
same_way {j} {i} {u} {v} P e h = let a : j ≡ i = cc in let b : u ≡ v = cc in subst (λ x. P i x) b (subst (λ k. P k u) a h)

pub idle_not : {A : Type 0} (o : Option ℕ) {i : ℕ} {v : Under} → idle_at o ≡ UnderWay i v → A
idle_not None e = cc
idle_not (Some j) e = cc

pub stand_idle_at : (o : Option ℕ) → stand_by (idle_at o) ≡ idle
stand_idle_at None = refl
stand_idle_at (Some j) = refl

pub spent_idle : (o : Option ℕ) → spent (idle_at o) ≡ 0
spent_idle None = refl
spent_idle (Some j) = refl

-- what is picked is its next job
pub next_of_job : (n : ℕ) → next_of (idle_at (job_in n)) ≡ n
next_of_job zero = refl
next_of_job (suc j) = refl

stands_idle : (p : Processor) → ((i : ℕ) (v : Under) → p ≡ UnderWay i v → ⊥) → stand_by p ≡ idle
stands_idle NoneLeft n = refl
stands_idle (Next j) n = refl
stands_idle (UnderWay j u) n = absurd (n j u refl)

-- ---- a turn

module _ {r : Run} {c : Between} {m : ℕ} {processors : List Processor} {planned : Planned}
    {input variables words : List ℕ} {processor : Processor} {finished : Row} (few : planned.jobs ≤ 128)
    (stands : Standing r c m processors planned input variables words processor finished) where
  abbrev now : InFrame r c processors finished variables words
  now = stands.in_frame

  abbrev J : ℕ
  J = job_count_of r.work

  -- what holds of the processor that had the turn, and of the others
  by_processor : (p : Processor) (P : ℕ → Processor → Type 0) → P m p → ((k : ℕ) → k ≢ m → k < 4 → P k (get_or processors k NoneLeft))
      → (k : ℕ) → k < 4 → P k (get_or (set processors m p) k NoneLeft)
  by_processor p P here others k h = elim (ℕ_discrete k m) [
    | yes e ↦ subst (λ x. P x (get_or (set processors m p) x NoneLeft)) (sym e)
        (subst (P m) (sym (get_or-set_same processors m p NoneLeft (omega (arith, now.four, stands.named)))) here)
    | no d ↦ subst (P k) (sym (get_or-set_other processors m k p NoneLeft d)) (others k d h)
  ]

  processors_set : (p : Processor) → set c.processors m (stand_by p) ≡ map stand_by (set processors m p)
  processors_set p = ap (λ (l : List Stand). set l m (stand_by p)) now.processors_are ∙ sym (map_set stand_by processors m p)

  -- ---- a turn that waits

  pub waits_in : InFrame r (waits c) (set processors m processor) finished variables words
  unfolding waits
  waits_in =
      let same : set processors m processor ≡ processors = ap (λ (p : Processor). set processors m p) (sym stands.here) ∙ set-get_or processors m NoneLeft in
      rw same (record {
        finished_is = now.finished_is;
        processors_are = now.processors_are;
        state_is = now.state_is;
        four = now.four;
        jobs_alone = now.jobs_alone;
        next_is = now.next_is;
        in_order = now.in_order;
        under_way = now.under_way;
      })

  pub waits_stepped : {output : List ℕ} → Stepped r c (waits c) m processors output words processor finished output variables words processor finished Waits
  unfolding waits
  waits_stepped = record {
    on = λ n. (waits_in, refl);
    ended = λ e. cc;
    worked = omega arith;
    wrote = record { at = 0; put = []; fits = omega arith; in_part = refl; in_whole = refl };
    lost = λ ch. omega arith;
  }

  -- ---- a job that comes to u

  module _ (j : ℕ) (next : next_of processor ≡ suc j) (u : Under) (variables' words' : List ℕ) where
    next_here : next_left r.plan J m (marked finished) ≡ suc j
    next_here = sym (now.next_is m stands.named) ∙ ap next_of stands.here ∙ next

    pub job_below : j < J
    job_below = (left_picked r.plan J m (marked finished) j next_here).below

    few_jobs : J ≤ 128
    few_jobs = omega (arith, stands.tables.tables.count)

    -- it is under way
    abbrev going : Processor
    going = UnderWay j u

    -- a job under way there has actions left
    abbrev Way : ℕ → Processor → Type 0
    Way k p = (i : ℕ) (v : Under) → p ≡ UnderWay i v → v.at < length (program_of r.work.net (process_of r.work i))

    goes_on_lem : u.at < length (program_of r.work.net (process_of r.work j)) → InFrame r (goes_on m j u (state_by variables' words') c) (set processors m going) finished variables' words'
    unfolding goes_on
    goes_on_lem h = record {
      finished_is = now.finished_is;
      processors_are = processors_set going;
      state_is = refl;
      four = length-set processors m going ∙ now.four;
      jobs_alone = now.jobs_alone;
      next_is = by_processor going (λ k p. next_of p ≡ next_left r.plan J k (marked finished)) (sym next_here) (λ k d l. now.next_is k l);
      in_order = now.in_order;
      under_way = λ k i v l e. by_processor going Way (λ i v e. same_way (λ i v. v.at < length (program_of r.work.net (process_of r.work i))) e h) (λ k d l i v e. now.under_way k i v l e) k l i v e;
    }

    -- it has finished
    abbrev more : Row
    more = with_of finished j

    abbrev then : Processor
    then = idle_at (get_or planned.after j None)

    abbrev finishing : Between
    finishing = record {
      frames = c.frames;
      finished = set c.finished j true;
      processors = set c.processors m idle;
      state = state_by variables' words';
      words = sets c.words (2 * (c.frames * J + j)) (sample_words u.output);
      working = c.working + 1;
      waiting = c.waiting;
    }

    more_is : finishing.finished ≡ table J (marked more)
    more_is = ap (λ (l : List Bool). set l j true) now.finished_is ∙ marks_set finished J j job_below few_jobs

    more_same : marked more j ≡ true
    more_same = with_same finished j (omega (arith, job_below, few_jobs))

    more_alone : (i : ℕ) → marked more i ≡ true → i < J
    more_alone i t = elim (ℕ_discrete i j) [
      | yes e ↦ omega (arith, job_below)
      | no d ↦ now.jobs_alone i (sym (with_other finished j i d) ∙ t)
    ]

    after_is : next_of then ≡ next_left r.plan J m (marked more)
    after_is =
        ap (λ (o : Option ℕ). next_of (idle_at o)) (stands.tables.afters.each j job_below)
        ∙ next_of_job (next_from r.plan J (processor_at r.plan j) (start_at r.plan j + 1))
        ∙ left_after r.plan J stands.tables.apart m (marked finished) (marked more) j next_here now.in_order more_same (with_other finished j)

    then_set : set c.processors m idle ≡ map stand_by (set processors m then)
    then_set = ap (λ (x : Stand). set c.processors m x) (sym (stand_idle_at (get_or planned.after j None))) ∙ processors_set then

    -- and the frame goes on
    finished_in : InFrame r finishing (set processors m then) more variables' words'
    finished_in = record {
      finished_is = more_is;
      processors_are = then_set;
      state_is = refl;
      four = length-set processors m then ∙ now.four;
      jobs_alone = more_alone;
      next_is = by_processor then (λ k p. next_of p ≡ next_left r.plan J k (marked more)) after_is
          (λ k d l. now.next_is k l ∙ left_other r.plan J stands.tables.apart m (marked finished) (marked more) j next_here now.in_order more_same (with_other finished j) k d);
      in_order = order_after r.plan J stands.tables.apart m (marked finished) (marked more) j next_here now.in_order more_same (with_other finished j);
      under_way = λ k i v l e. by_processor then Way (λ i v e. idle_not (get_or planned.after j None) e) (λ k d l i v e. now.under_way k i v l e) k l i v e;
    }

    all_is : all J (is_finished finishing) ≡ eqb (count_of more) J
    all_is = all_counted r finishing more more_is few_jobs more_alone

    -- or all have finished, and no processor has a job under way
    module _ (every : all J (is_finished finishing) ≡ true) where
      none_under_way : (k : ℕ) → k ≢ m → k < 4 → (i : ℕ) (v : Under) → get_or processors k NoneLeft ≡ UnderWay i v → ⊥
      none_under_way k d l i v e =
          let left : next_left r.plan J k (marked finished) ≡ suc i = sym (now.next_is k l) ∙ ap next_of e in
          let other : i ≢ j = λ z. d (sym (left_on r.plan J k (marked finished) i left) ∙ ap (λ (x : ℕ). processor_at r.plan x) z ∙ left_on r.plan J m (marked finished) j next_here) in
          clash (sym (with_other finished j i other) ∙ all_marked r finishing more more_is few_jobs more_alone every i (left_picked r.plan J k (marked finished) i left).below)
          (left_todo r.plan J k (marked finished) i left)

      stand_idle : (k : ℕ) → k ≢ m → k < 4 → stand_by (get_or processors k NoneLeft) ≡ idle
      stand_idle k d l = stands_idle (get_or processors k NoneLeft) (none_under_way k d l)

      all_idle : set c.processors m idle ≡ replicate 4 idle
      all_idle =
          then_set
          ∙ ext_get_or idle (map stand_by (set processors m then)) (replicate 4 idle)
          (length-map (set processors m then) stand_by ∙ length-set processors m then ∙ now.four ∙ sym (length-replicate 4 idle)) λ k h.
          let l : k < 4 = omega (arith, length-map (set processors m then) stand_by, length-set processors m then, now.four) in
          get_or-map stand_by (set processors m then) k NoneLeft
          ∙ by_processor then (λ k p. stand_by p ≡ idle) (stand_idle_at (get_or planned.after j None)) stand_idle k l
          ∙ sym (get_or-replicate 4 k idle idle l)

    -- ---- the step

    module _ (output : List ℕ) {output' : List ℕ} {count : ℕ} (size : length (program_of r.work.net (process_of r.work j)) ≡ count) {processor' : Processor} {finished' : Row} {turned : Turned}
        (came : turned ≡ came_to planned j count u finished) (stood : processor' ≡ stands_at planned j count u) (marks : finished' ≡ marks_of j count u finished) (left : output' ≡ left_by j count u output)
        (lost : (ch : ℕ) → loss_in words' ch + spent processor ≤ loss_in words ch + u.at)
        (lost-most : (ch : ℕ) → loss_in words' ch + spent processor ≤ loss_in words ch + 24) where
      abbrev Steps : Between → List ℕ → Processor → Row → Turned → Type 0
      Steps d output' processor' finished' turned = Stepped r c d m processors output words processor finished output' variables' words' processor' finished' turned

      steps_on : u.at < length (program_of r.work.net (process_of r.work j))
          → Steps (goes_on m j u (state_by variables' words') c) output going finished Works
      unfolding goes_on
      steps_on h = record {
        on = λ n. (goes_on_lem h, refl);
        ended = λ e. cc;
        worked = refl;
        wrote = record { at = 0; put = []; fits = omega arith; in_part = refl; in_whole = refl };
        lost = λ ch. omega (arith, lost ch);
      }

      ended_is : all J (is_finished finishing) ≡ eqb (count_of more) planned.jobs
      ended_is = all_is ∙ ap (eqb (count_of more)) stands.tables.tables.count

      wrote_sample : Wrote (2 * J) (2 * (c.frames * J)) c.words finishing.words output (sets output (2 * j) (sample_words u.output))
      wrote_sample =
          let place : 2 * (c.frames * J + j) ≡ 2 * (c.frames * J) + 2 * j = omega arith in
          record {
            at = 2 * j;
            put = sample_words u.output;
            fits = omega (arith, job_below);
            in_part = refl;
            in_whole = ap (λ (i : ℕ). sets c.words i (sample_words u.output)) place;
          }

      lost_end : (ch : ℕ) → loss_in words' ch + (24 * count_of finished + spent processor) ≤ loss_in words ch + (24 * count_of more + spent then)
      lost_end ch = omega (arith, lost-most ch, spent_idle (get_or planned.after j None), count_with finished j (omega (arith, job_below, few_jobs)) (left_todo r.plan J m (marked finished) j next_here))

      steps_end : Steps (next_frame r finishing) (sets output (2 * j) (sample_words u.output)) then more (cond (eqb (count_of more) planned.jobs) Ends Works)
      unfolding next_frame
      steps_end = split (all J (is_finished finishing))
          (λ every. rw (every, sym ended_is ∙ every) (record {
            on = λ n. absurd (n refl);
            ended = λ e. (record { finished_is = refl; processors_are = all_idle every; state_is = refl }, add-one c.frames, spent_idle (get_or planned.after j None));
            worked = refl;
            wrote = wrote_sample;
            lost = lost_end;
          }))
          (λ some. rw (some, sym ended_is ∙ some) (record {
            on = λ n. (finished_in, refl);
            ended = λ e. cc;
            worked = refl;
            wrote = wrote_sample;
            lost = lost_end;
          }))

      pub comes_stepped : Steps (comes_to r m j u (state_by variables' words') c) output' processor' finished' turned
      unfolding comes_to finishes
      comes_stepped = elim (dec_lt u.at count) [
        | yes h ↦
            let h' : u.at < length (program_of r.work.net (process_of r.work j)) = omega arith in
            rw (came, stood, marks, left, lt-leb count u.at h, lt-leb (length (program_of r.work.net (process_of r.work j))) u.at h') (steps_on h')
        | no h ↦
            let h' : length (program_of r.work.net (process_of r.work j)) ≤ u.at = omega arith in
            let h'' : count ≤ u.at = omega arith in
            rw (came, stood, marks, left, le-leb count u.at h'', le-leb (length (program_of r.work.net (process_of r.work j))) u.at h') steps_end
      ]
