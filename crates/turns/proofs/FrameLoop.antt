-- The loop of `frames::frame`: after each turn, processors, finished jobs, state and output are those after the turns so far.
use Prim.Native.Nat.{ℕ, zero, suc, ◌+◌, ◌*◌, ◌≤◌, ◌<◌, ◌^◌}
use mathlib.Core.Path.{◌≡◌, refl, sym, ap, subst, ◌∙◌}
use mathlib.Core.Logic.{◌≢◌}
use mathlib.Core.List.{List, map}
use Rattle.std.specs.Prelude.{Option, Some, None}
use native.Mathlib.Decide.{ℕ_discrete}
use native.Mathlib.Nat.{suc-mul}
use native.Mathlib.Numerals.{add-one}
use native.Mathlib.Omega.{arith}
use lib.ListN.{length, get_or, set, replicate, length-map, length-replicate, get_or-map, get_or-replicate}
use lib.Seq.{sets, ext_get_or, get_or-set_same, get_or-set_other}
use borrow.Rule.Slice.PartMut.{put_mid, put_same}
use Rattle.reply.specs.Tools.{sum}
use Rattle.reply.specs.Tests.{clash}
use Rattle.reply.specs.Pick.{pick_most}
use Rattle.reply.specs.Counts.{sum_zero, sum_suc, sum_same, sum_each}
use Rattle.marks.specs.Row.{marked, no_marks, count_of}
use Rattle.marks.specs.Laws.{marked_none, counted_most}
use Rattle.marks.specs.declared.Row.{Row}
use Rattle.graph.specs.Work.{job_count_of, process_of}
use Rattle.machine.specs.WholeJob.{program_of}
use Rattle.machine.specs.declared.Under.{Under}
use Rattle.plan.specs.Plan.{start_at}
use Rattle.machine.specs.Words.{SoundWords}
use Rattle.machine.specs.Acting.{Room}
use Rattle.promises.specs.Turns.{Run, Between, idle}
use Rattle.promises.specs.TurnLaws.{turns_to, to_more, each_counted}
use Rattle.turns.specs.Order.{next_from, next_left, is_left, first_left}
use Rattle.turns.specs.Lent.{RunTables, stand_by, next_of, idle_at, InFrame, Begins, Standing, Stepped, TurnNeeds, TurnDone, worked_of, loss_in, spent, FrameBegun, FrameNeeds, FrameTurns}
use Rattle.turns.specs.declared.planned.Planned.{Planned}
use Rattle.turns.specs.declared.turning.Processor.{Processor}
use Rattle.turns.specs.declared.turning.Processor.TheVariants.{NoneLeft, Next, UnderWay}
use Rattle.turns.specs.declared.turning.Turned.{Turned}
use Rattle.turns.specs.declared.turning.Turned.TheVariants.{Ends}
use Rattle.turns.proofs.FrameMarks.{marks_none, how_many}
use Rattle.turns.proofs.Parts.{put_sets}
use Rattle.turns.proofs.Stepping.{idle_not, stand_idle_at, spent_idle, next_of_job}

some_same : {n k : ℕ} → Some n ≡ Some k → n ≡ k
some_same e = cc

-- ---- sums

-- g is f but at m
sum_changed : (n : ℕ) (f g : ℕ → ℕ) (m : ℕ) → m < n → ((i : ℕ) → i ≢ m → g i ≡ f i) → sum n g + f m ≡ sum n f + g m
sum_changed zero f g m h e = absurd (omega arith)
sum_changed (suc n) f g m h e = elim (ℕ_discrete m n) [
  | yes z ↦ omega (
    arith,
    sum_suc n f,
    sum_suc n g,
    sum_same n g f (λ i l. e i (λ y. omega arith)),
    ap f z,
    ap g z,
  )
  | no d ↦ omega (arith, sum_suc n f, sum_suc n g, sum_changed n f g m (omega arith) e, e n (λ y. d (sym y)))
]

sum_most : (n b : ℕ) (f : ℕ → ℕ) → ((i : ℕ) → i < n → f i ≤ b) → sum n f ≤ n * b
sum_most zero b f h = omega (arith, sum_zero f)
sum_most (suc n) b f h = omega (arith, sum_suc n f, sum_most n b f (λ i l. h i (omega arith)), h n (omega arith), suc-mul n b)

-- the actions that the jobs under way have passed
abbrev spent_at : List Processor → ℕ → ℕ
spent_at processors m = spent (get_or processors m NoneLeft)

unfoldable pub all_spent : List Processor → ℕ
all_spent processors = sum 4 (spent_at processors)

spent_set : (processors : List Processor) (m : ℕ) (p : Processor) → m < 4 → length processors ≡ 4
    → all_spent (set processors m p) + spent (get_or processors m NoneLeft) ≡ all_spent processors + spent p
unfolding all_spent
spent_set processors m p h four =
    sum_changed 4 (spent_at processors) (spent_at (set processors m p)) m h (λ i d. ap spent (get_or-set_other processors m i p NoneLeft d))
    ∙ ap (λ (x : Processor). sum 4 (spent_at processors) + spent x) (get_or-set_same processors m p NoneLeft (omega arith))

spent_one : (processors : List Processor) (m : ℕ) → m < 4 → spent (get_or processors m NoneLeft) ≤ all_spent processors
unfolding all_spent
spent_one processors m h = sum_each 4 (spent_at processors) m h

pub below_fits : {x n : ℕ} → x ≤ n → n < 2 ^ 64 → x < 2 ^ 64
below_fits h l = omega arith

-- ---- after the turns so far

-- in a run
pub record Turning (r : Run) (turns : List ℕ) (from : ℕ) (processors : List Processor) (finished : Row) (working t : ℕ) (output variables words : List ℕ) : Type 0 where
  pub in_frame : InFrame r (turns_to r turns t) processors finished variables words
  pub same_frame : (turns_to r turns t).frames ≡ (turns_to r turns from).frames
  pub worked : (turns_to r turns t).working ≡ (turns_to r turns from).working + working
  pub wrote : (turns_to r turns t).words
      ≡ put_mid (2 * ((turns_to r turns from).frames * job_count_of r.work)) (2 * job_count_of r.work) (turns_to r turns from).words output
  pub lost : (ch : ℕ) → loss_in words ch ≤ 3168 * (turns_to r turns from).frames + (24 * count_of finished + all_spent processors)

-- in every run that the tables are of
pub record FrameTo (planned : Planned) (turns : List ℕ) (from : ℕ) (input output₀ variables₀ words₀ : List ℕ)
    (processors : List Processor) (finished : Row) (working t : ℕ) (output variables words : List ℕ) : Type 0 where
  pub within : t ≤ length turns
  pub size : length output ≡ length output₀
  pub sound : SoundWords words
  pub each : (r : Run) → FrameBegun r planned turns from input output₀ variables₀ words₀
      → Turning r turns from processors finished working t output variables words

spent_below : {n : ℕ} (p : Processor) → ((j : ℕ) (u : Under) → p ≡ UnderWay j u → u.at ≤ n) → spent p ≤ n
spent_below NoneLeft h = omega arith
spent_below (Next j) h = omega arith
spent_below (UnderWay j u) h = h j u refl

-- the four processors at the start
idle_four_lem : (first : List (Option ℕ)) (m : ℕ) → get_or (map idle_at first) m NoneLeft ≡ idle_at (get_or first m None)
idle_four_lem first m = get_or-map idle_at first m None

spent_none : (first : List (Option ℕ)) → all_spent (map idle_at first) ≡ 0
unfolding all_spent
spent_none first = omega (arith, sum_most 4 0 (spent_at (map idle_at first)) (λ i l. omega (arith, ap spent (idle_four_lem first i), spent_idle (get_or first i None))))

stands_four : (first : List (Option ℕ)) → length first ≡ 4 → replicate 4 idle ≡ map stand_by (map idle_at first)
stands_four first four =
    let size : length (map stand_by (map idle_at first)) ≡ 4 = length-map (map idle_at first) stand_by ∙ length-map first idle_at ∙ four in
    ext_get_or idle (replicate 4 idle) (map stand_by (map idle_at first)) (length-replicate 4 idle ∙ sym size) λ k h.
    let l : k < 4 = omega (arith, length-replicate 4 idle) in
    get_or-replicate 4 k idle idle l
    ∙ sym (get_or-map stand_by (map idle_at first) k NoneLeft ∙ ap stand_by (idle_four_lem first k) ∙ stand_idle_at (get_or first k None))

module _ {r : Run} {planned : Planned} (tables : RunTables r planned) where
  begins_in : {c : Between} {variables words : List ℕ} → Begins r c variables words → InFrame r c (map idle_at planned.first) no_marks variables words
  begins_in b = record {
    finished_is = b.finished_is ∙ marks_none (job_count_of r.work);
    processors_are = b.processors_are ∙ stands_four planned.first tables.firsts.four;
    state_is = b.state_is;
    four = length-map planned.first idle_at ∙ tables.firsts.four;
    jobs_alone = λ i e. clash e (marked_none i);
    next_is = λ m h.
        ap next_of (idle_four_lem planned.first m)
        ∙ ap (λ (o : Option ℕ). next_of (idle_at o)) (tables.firsts.each m h)
        ∙ next_of_job (next_from r.plan (job_count_of r.work) m 0)
        ∙ first_left r.plan (job_count_of r.work) m (marked no_marks) (λ i l. marked_none i);
    in_order = record { before = λ i k hi hk on e f. clash e (marked_none i) };
    under_way = λ m i v h e. idle_not (get_or planned.first m None) (sym (idle_four_lem planned.first m) ∙ e);
  }

module _ {planned : Planned} {turns : List ℕ} {from : ℕ} {input output₀ variables₀ words₀ : List ℕ}
    (needs : FrameNeeds planned turns from input output₀ variables₀ words₀) where
  pub start : {processors : List Processor} {finished : Row} → processors ≡ map idle_at planned.first → finished ≡ no_marks
      → FrameTo planned turns from input output₀ variables₀ words₀ processors finished 0 from output₀ variables₀ words₀
  start e f = rw (e, f) (record {
    within = needs.begun.passed;
    size = refl;
    sound = needs.sound;
    each = λ r begun. record {
      in_frame = begins_in begun.tables begun.begins;
      same_frame = refl;
      worked = omega arith;
      wrote =
          let a : ℕ = 2 * ((turns_to r turns from).frames * job_count_of r.work) in
          let k : ℕ = 2 * job_count_of r.work in
          let whole : List ℕ = (turns_to r turns from).words in
          sym (ap (λ (l : List ℕ). put_mid a k whole l) begun.part ∙ put_same a k whole);
      lost = λ ch. omega (arith, begun.lost ch, spent_none planned.first);
    };
  })

  module _ {processors : List Processor} {finished : Row} {working t : ℕ} {output variables words : List ℕ}
      (to : FrameTo planned turns from input output₀ variables₀ words₀ processors finished working t output variables words) where
    abbrev here : Turning needs.run turns from processors finished working t output variables words
    here = to.each needs.run needs.begun

    -- each job under way has passed fewer actions than there are
    program_size : (r : Run) → RunTables r planned → (j : ℕ) → j < planned.jobs
        → length (program_of r.work.net (process_of r.work j)) ≡ get_or planned.tables.counts (get_or planned.processes j 0) 0
    program_size r t j h = (t.tables.program_is j h).size ∙ ap (λ (q : ℕ). get_or planned.tables.counts q 0) (sym (t.tables.process j h))

    count_most : (j : ℕ) → j < planned.jobs → get_or planned.tables.counts (get_or planned.processes j 0) 0 ≤ 24
    count_most j h = rw (needs.ready.tables.process j h) (needs.ready.runnable j h).most

    module _ (m : ℕ) (h : m < 4) where
      pub next_most : next_of (get_or processors m NoneLeft) ≤ planned.jobs
      unfolding next_left
      next_most = omega (
        arith,
        here.in_frame.next_is m h,
        pick_most (is_left needs.run.plan m (marked finished)) (start_at needs.run.plan) (job_count_of needs.run.work),
        needs.begun.tables.tables.count,
      )

      job_below : {j : ℕ} {u : Under} → get_or processors m NoneLeft ≡ UnderWay j u → j < planned.jobs
      job_below e = omega (arith, next_most, ap next_of e)

      pub going : (j : ℕ) (u : Under) → get_or processors m NoneLeft ≡ UnderWay j u → u.at < get_or planned.tables.counts (get_or planned.processes j 0) 0
      going j u e = omega (arith, program_size needs.run needs.begun.tables j (job_below e), here.in_frame.under_way m j u h e)

      spent_most : spent (get_or processors m NoneLeft) ≤ 24
      spent_most = spent_below (get_or processors m NoneLeft) (λ j u e. omega (arith, going j u e, count_most j (job_below e)))

    all_spent_most : all_spent processors ≤ 96
    unfolding all_spent
    all_spent_most = omega (arith, sum_most 4 24 (spent_at processors) spent_most)

    few_frames : (turns_to needs.run turns from).frames < 100
    few_frames = omega (arith, needs.begun.asked, needs.begun.few)

    pub room : Room words 1
    room = record { room = λ ch. omega (arith, here.lost ch, all_spent_most, counted_most finished, few_frames) }

    -- a turn
    module _ (on : t < length turns) where
      abbrev m : ℕ
      m = get_or turns t 0

      named : m < 4
      named = needs.named t on

      pub turn_needs : TurnNeeds planned input output words (get_or processors m NoneLeft)
      turn_needs = record {
        ready = needs.ready;
        input_there = needs.input_there;
        output_there = omega (arith, needs.output_there, to.size);
        sound = to.sound;
        room = room;
        next = next_most m named;
        under_way = going m named;
      }

      module _ {output' variables' words' : List ℕ} {processor' : Processor} {finished' : Row} {turned : Turned}
          (did : TurnDone planned input output variables words (get_or processors m NoneLeft) finished output' variables' words' processor' finished' turned) where
        module _ (r : Run) (begun : FrameBegun r planned turns from input output₀ variables₀ words₀) where
          abbrev now : Turning r turns from processors finished working t output variables words
          now = to.each r begun

          stands : Standing r (turns_to r turns t) m processors planned input variables words (get_or processors m NoneLeft) finished
          stands = record {
            tables = begun.tables;
            in_frame = now.in_frame;
            named = named;
            here = refl;
            asked = rw now.same_frame begun.asked;
            samples = rw now.same_frame begun.samples;
          }

          stepped : Stepped r (turns_to r turns t) (turns_to r turns (suc t)) m processors output words (get_or processors m NoneLeft) finished output' variables' words' processor' finished' turned
          stepped =
              subst (λ d. Stepped r (turns_to r turns t) d m processors output words (get_or processors m NoneLeft) finished output' variables' words' processor' finished' turned)
              (sym (to_more r turns t on)) (did.step r (turns_to r turns t) m processors stands)

          next_worked : (turns_to r turns (suc t)).working ≡ (turns_to r turns from).working + (working + worked_of turned)
          next_worked = omega (arith, stepped.worked, now.worked)

          next_wrote : (turns_to r turns (suc t)).words
              ≡ put_mid (2 * ((turns_to r turns from).frames * job_count_of r.work)) (2 * job_count_of r.work) (turns_to r turns from).words output'
          next_wrote =
              let a : ℕ = 2 * ((turns_to r turns from).frames * job_count_of r.work) in
              let k : ℕ = 2 * job_count_of r.work in
              let whole : List ℕ = (turns_to r turns from).words in
              let w = stepped.wrote in
              let long : k ≤ length output = omega (arith, to.size, needs.output_there, begun.tables.tables.count) in
              w.in_whole
              ∙ ap (λ (f : ℕ). sets (turns_to r turns t).words (2 * (f * job_count_of r.work) + w.at) w.put) now.same_frame
              ∙ ap (λ (l : List ℕ). sets l (a + w.at) w.put) now.wrote
              ∙ sym (put_sets a k whole output w.at w.put (omega (arith, begun.room)) (omega (arith, w.fits)))
              ∙ ap (λ (l : List ℕ). put_mid a k whole l) (sym w.in_part)

        abbrev run : Run
        run = needs.run

        -- no more turns have worked than there were
        pub worked_most : working + worked_of turned ≤ length turns
        worked_most = omega (arith, next_worked run needs.begun, each_counted run turns (suc t) on)

        pub again : {working' : ℕ} → turned ≢ Ends → working' ≡ working + worked_of turned
            → FrameTo planned turns from input output₀ variables₀ words₀ (set processors m processor') finished' working' (t + 1) output' variables' words'
        again e same = rw (same, add-one t) (record {
          within = on;
          size = did.size ∙ to.size;
          sound = did.sound;
          each = λ r begun.
              let s = stepped r begun in
              let now = to.each r begun in
              record {
                in_frame = (s.on e).0;
                same_frame = (s.on e).1 ∙ now.same_frame;
                worked = next_worked r begun;
                wrote = next_wrote r begun;
                lost = λ ch. omega (arith, now.lost ch, s.lost ch, spent_set processors m processor' named now.in_frame.four);
              };
        })

        pub ends : turned ≡ Ends
            → FrameTurns planned turns from input output₀ variables₀ words₀ output' variables' words'
            (record { passed = t + 1; working = working + worked_of turned; jobs = None })
        ends e = rw (add-one t) (record {
          sound = did.sound;
          size = did.size ∙ to.size;
          done = λ r begun.
              let s = stepped r begun in
              let now = to.each r begun in
              let (begins, frames, none) = s.ended e in
              record {
                within = on;
                worked = next_worked r begun;
                wrote = next_wrote r begun;
                state = begins.state_is;
                ended = λ z. (
                  begins,
                  frames ∙ ap suc now.same_frame,
                  λ ch. omega (arith, now.lost ch, s.lost ch, none, all_spent_most, spent_one processors m named, counted_most finished'),
                );
                left = λ n z. cc;
              };
        })

    -- no turn is left
    pub stops : {n : ℕ} → n ≡ count_of finished → length turns ≤ t
        → FrameTurns planned turns from input output₀ variables₀ words₀ output variables words
        (record { passed = length turns; working = working; jobs = Some n })
    stops {n} e h = let z : t ≡ length turns = omega (arith, to.within) in rw (sym z) (record {
      sound = to.sound;
      size = to.size;
      done = λ r begun.
          let now = to.each r begun in
          record {
            within = to.within;
            worked = now.worked;
            wrote = now.wrote;
            state = now.in_frame.state_is;
            ended = λ z. cc;
            left = λ k some. (
              h,
              now.same_frame,
              how_many r (turns_to r turns t) finished now.in_frame.finished_is (omega (arith, begun.tables.tables.count, needs.ready.few)) now.in_frame.jobs_alone ∙ sym e ∙ some_same some,
            );
          };
    })
