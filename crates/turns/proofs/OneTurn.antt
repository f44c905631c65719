-- A turn of the code is a turn of the definition: nothing is left, the job under way does one action, the next job starts, or it is not ready.
use Prim.Native.Nat.{ℕ, suc, ◌+◌, ◌*◌, ◌≤◌, ◌<◌}
use mathlib.Core.Path.{◌≡◌, refl, sym, ap, ap₂, subst, ◌∙◌}
use mathlib.Core.Logic.{inr}
use mathlib.Core.Bool.{true, false}
use mathlib.Core.List.{List}
use native.Mathlib.Omega.{arith}
use lib.Dec.{leb}
use lib.ListN.{length, get_or, get_or-map}
use lib.Seq.{length-sets}
use borrow.Author.Tests.{lt-ltb}
use Rattle.reply.specs.Tests.{split}
use Rattle.marks.specs.Row.{no_marks, inside_of}
use Rattle.marks.specs.declared.Row.{Row}
use Rattle.network.specs.Net.{Net, four_at}
use Rattle.graph.specs.Work.{job_count_of, process_of}
use Rattle.machine.specs.State.{State, nothing}
use Rattle.machine.specs.Actions.{decode, effect, output_after, skipped}
use Rattle.machine.specs.WholeJob.{program_of, started, next_action, act_state, act_under}
use Rattle.machine.specs.Ledger.{action_loss}
use Rattle.machine.specs.Samples.{sample_at, sample_words}
use Rattle.machine.specs.Words.{state_by}
use Rattle.machine.specs.Acting.{kinds_in, Operands, Acted}
use Rattle.machine.specs.Jobs.{Goes}
use Rattle.machine.specs.declared.Action.{Action}
use Rattle.machine.specs.declared.Sample.{Sample}
use Rattle.machine.specs.declared.Under.{Under}
use Rattle.promises.specs.Turns.{Run, Stand, idle, Between, stand_of, comes_to, waits, next_job, starts, acts, turn_on, turn}
use Rattle.turns.specs.Lent.{stand_by, next_of, Standing, Stepped, TurnNeeds, TurnDone, loss_in, came_to, stands_at, marks_of, left_by}
use Rattle.turns.specs.declared.planned.Planned.{Planned}
use Rattle.turns.specs.declared.turning.Processor.{Processor}
use Rattle.turns.specs.declared.turning.Processor.TheVariants.{NoneLeft, Next, UnderWay}
use Rattle.turns.specs.declared.turning.Turned.{Turned}
use Rattle.turns.specs.declared.turning.Turned.TheVariants.{Waits}
use Rattle.turns.proofs.FrameMarks.{next_job_is, ready_is}
use Rattle.turns.proofs.Stepping.{waits_stepped, job_below, comes_stepped}

-- ---- which turn it is

module _ {r : Run} {c : Between} {m : ℕ} {processors : List Processor} {planned : Planned}
    {input variables words : List ℕ} {processor : Processor} {finished : Row} (few : planned.jobs ≤ 128)
    (stands : Standing r c m processors planned input variables words processor finished) where
  stand_here : stand_of c m ≡ stand_by processor
  stand_here =
      ap (λ (l : List Stand). get_or l m idle) stands.in_frame.processors_are
      ∙ get_or-map stand_by processors m NoneLeft
      ∙ ap stand_by stands.here

  turn_on_lem : turn r m c ≡ turn_on r m c (stand_by processor).job
  unfolding turn
  turn_on_lem = rw (lt-ltb c.frames r.asked stands.asked) (ap (λ (s : Stand). turn_on r m c s.job) stand_here)

  next_here : next_job r m c ≡ next_of processor
  next_here =
      next_job_is r c finished stands.in_frame.finished_is m
      ∙ sym (stands.in_frame.next_is m stands.named)
      ∙ ap next_of stands.here

  -- with no job under way
  turn_starts : stand_by processor ≡ idle → turn r m c ≡ starts r m c (next_of processor)
  unfolding turn_on
  turn_starts e =
      let none : (stand_by processor).job ≡ 0 = ap (λ (s : Stand). s.job) e in
      turn_on_lem ∙ ap (turn_on r m c) none ∙ ap (starts r m c) next_here

  pub turn_none : processor ≡ NoneLeft → turn r m c ≡ waits c
  unfolding starts
  turn_none e = turn_starts (ap stand_by e) ∙ ap (λ (p : Processor). starts r m c (next_of p)) e

  module _ (j : ℕ) where
    module _ (next : processor ≡ Next j) where
      below : j < job_count_of r.work
      below = job_below few stands j (ap next_of next) started variables words

      pub turn_unready : inside_of (get_or planned.before j no_marks) finished ≡ false → turn r m c ≡ waits c
      unfolding starts
      turn_unready e =
          turn_starts (ap stand_by next) ∙ ap (λ (p : Processor). starts r m c (next_of p)) next
          ∙ rw (sym (ready_is r c finished stands.in_frame.finished_is stands.tables few j below) ∙ e)

      pub turn_ready : inside_of (get_or planned.before j no_marks) finished ≡ true → turn r m c ≡ comes_to r m j started (state_by variables words) c
      unfolding starts
      turn_ready e =
          turn_starts (ap stand_by next) ∙ ap (λ (p : Processor). starts r m c (next_of p)) next
          ∙ rw (sym (ready_is r c finished stands.in_frame.finished_is stands.tables few j below) ∙ e)
          (ap (λ (s : State). comes_to r m j started s c) stands.in_frame.state_is)

    pub turn_acts : {under : Under} → processor ≡ UnderWay j under → turn r m c ≡ acts r m j under c
    unfolding turn_on
    turn_acts {under} e =
        let job : (stand_by processor).job ≡ suc j = ap (λ (p : Processor). (stand_by p).job) e in
        let keeps : (stand_of c m).under ≡ under = ap (λ (s : Stand). s.under) stand_here ∙ ap (λ (p : Processor). (stand_by p).under) e in
        turn_on_lem ∙ ap (turn_on r m c) job ∙ ap (λ (u : Under). acts r m j u c) keeps

-- ---- what it leaves

-- the process of the next job, and how many actions it has
module _ {planned : Planned} {input output words : List ℕ} {processor : Processor} (needs : TurnNeeds planned input output words processor) {j : ℕ} (next : next_of processor ≡ suc j) where
  pub job_within : j < planned.jobs
  job_within = omega (arith, needs.next)

  pub small_process : get_or planned.processes j 0 < 12
  small_process = rw (needs.ready.tables.process j job_within) (needs.ready.runnable j job_within).process

  pub small_count : get_or planned.tables.counts (get_or planned.processes j 0) 0 ≤ 24
  small_count = rw (needs.ready.tables.process j job_within) (needs.ready.runnable j job_within).most

module _ {planned : Planned} {input output : List ℕ} (variables : List ℕ) {words : List ℕ} {processor : Processor} (finished : Row)
    (needs : TurnNeeds planned input output words processor) where
  abbrev Done : List ℕ → List ℕ → List ℕ → Processor → Row → Turned → Type 0
  Done output' variables' words' processor' finished' turned =
      TurnDone planned input output variables words processor finished output' variables' words' processor' finished' turned

  pub none_done : processor ≡ NoneLeft → Done output variables words processor finished Waits
  none_done e = record {
    sound = needs.sound;
    size = refl;
    step = λ r c m processors stands.
        subst (λ d. Stepped r c d m processors output words processor finished output variables words processor finished Waits) (sym (turn_none needs.ready.few stands e))
        (waits_stepped needs.ready.few stands);
  }

  module _ (j : ℕ) where
    left_length : (count : ℕ) (u : Under) {output' : List ℕ} → output' ≡ left_by j count u output → length output' ≡ length output
    left_length count u e = ap length e ∙ split (leb count u.at)
        (λ t. rw t (length-sets output (2 * j) (sample_words u.output)))
        (λ t. rw t)

    pub unready_done : processor ≡ Next j → inside_of (get_or planned.before j no_marks) finished ≡ false → Done output variables words processor finished Waits
    unready_done next e = record {
      sound = needs.sound;
      size = refl;
      step = λ r c m processors stands.
          subst (λ d. Stepped r c d m processors output words processor finished output variables words processor finished Waits) (sym (turn_unready needs.ready.few stands j next e))
          (waits_stepped needs.ready.few stands);
    }

    abbrev p : ℕ
    p = get_or planned.processes j 0

    abbrev count : ℕ
    count = get_or planned.tables.counts p 0

    -- the job starts
    pub ready_done : {output' : List ℕ} {processor' : Processor} {finished' : Row} {turned : Turned} → processor ≡ Next j → inside_of (get_or planned.before j no_marks) finished ≡ true
        → turned ≡ came_to planned j count started finished → processor' ≡ stands_at planned j count started → finished' ≡ marks_of j count started finished
        → output' ≡ left_by j count started output → Done output' variables words processor' finished' turned
    ready_done {output'} {processor'} {finished'} {turned} next e came stood marks left = record {
      sound = needs.sound;
      size = left_length count started left;
      step = λ r c m processors stands.
          let t = stands.tables.tables in
          let below : j < planned.jobs = job_within needs (ap next_of next) in
          let size : length (program_of r.work.net (process_of r.work j)) ≡ count = (t.program_is j below).size ∙ ap (λ (q : ℕ). get_or planned.tables.counts q 0) (sym (t.process j below)) in
          subst (λ d. Stepped r c d m processors output words processor finished output' variables words processor' finished' turned) (sym (turn_ready needs.ready.few stands j next e))
          (comes_stepped needs.ready.few stands j (ap next_of next) started variables words output size came stood marks left (λ ch. rw next (omega arith)) (λ ch. rw next (omega arith)));
    }

    -- the job under way does one action
    module _ {under : Under} (busy : processor ≡ UnderWay j under) where
      abbrev action : Action
      action = decode (four_at planned.tables.program p under.at)

      on : under.at < count
      on = needs.under_way j under busy

      within : j < planned.jobs
      within = job_within needs (ap next_of busy)

      process_is : p ≡ process_of needs.ready.work j
      process_is = needs.ready.tables.process j within

      count_most : count ≤ 24
      count_most = rw process_is (needs.ready.runnable j within).most

      pub goes : Goes planned.tables.program p (under.at + 1) under (kinds_in planned.tables.channels) words
      goes = record {
        net = needs.ready.work.net;
        kinds_are = needs.ready.tables.kinds_are;
        runnable = record {
          process = rw process_is (needs.ready.runnable j within).process;
          most = omega (arith, on, count_most);
          operands = λ k l. subst (λ q. Operands (decode (four_at planned.tables.program q k))) (sym process_is) ((needs.ready.runnable j within).operands k (rw process_is at (still k l)));
        };
        capacities = needs.ready.capacities;
        sound = needs.sound;
        room = record { room = λ ch. omega (arith, needs.room.room ch) };
        how = inr refl;
      }
        where
          still : (k : ℕ) → k < under.at + 1 → k < count
          still k l = omega (arith, on)

      module _ {x : Sample} (sampled : x ≡ sample_at input j) {variables' words' : List ℕ} {u : Under}
          (acted : Acted (decode (four_at planned.tables.program p under.at)) p under x (kinds_in planned.tables.channels) variables words variables' words' u) where
        module _ (r : Run) (c : Between) (m : ℕ) (processors : List Processor)
            (stands : Standing r c m processors planned input variables words processor finished) where
          abbrev net : Net
          net = r.work.net

          abbrev q : ℕ
          q = process_of r.work j

          is_process : p ≡ process_of r.work j
          is_process = stands.tables.tables.process j within

          size : length (program_of r.work.net (process_of r.work j)) ≡ count
          size = (stands.tables.tables.program_is j within).size ∙ ap (λ (q : ℕ). get_or planned.tables.counts q 0) (sym is_process)

          which : decode (four_at planned.tables.program p under.at) ≡ next_action net q under
          which =
              ap (λ (q : ℕ). decode (four_at planned.tables.program q under.at)) is_process
              ∙ (stands.tables.tables.program_is j within).action under.at (rw is_process at on)

          keeps : u ≡ act_under net q under (state_by variables words)
          keeps =
              let s = state_by variables words in
              let at : u.at ≡ under.at + 1 + skipped q (next_action net q under) s =
              acted.at ∙ ap₂ (λ (k : ℕ) (a : Action). under.at + 1 + skipped k a s) is_process which in
              let output : u.output ≡ output_after q (next_action net q under) s under.output =
              acted.output ∙ ap₂ (λ (k : ℕ) (a : Action). output_after k a s under.output) is_process which in
              λ i. record { at = at i; output = output i }

          does : state_by variables' words' ≡ act_state net q (sample_at r.input (c.frames * job_count_of r.work + j)) under (state_by variables words)
          does =
              let s = state_by variables words in
              acted.state net stands.tables.tables.kinds_are
              ∙ ap (λ (y : Sample). effect net p y action s) (sampled ∙ stands.samples j within)
              ∙ ap₂ (λ (k : ℕ) (a : Action). effect net k (sample_at r.input (c.frames * job_count_of r.work + j)) a s) is_process which

          acts_is : turn r m c ≡ comes_to r m j u (state_by variables' words') c
          unfolding acts
          acts_is =
              turn_acts needs.ready.few stands j busy
              ∙ ap (λ (s : State). comes_to r m j (act_under net q under s) (act_state net q (sample_at r.input (c.frames * job_count_of r.work + j)) under s) c) stands.in_frame.state_is
              ∙ (ap₂ (λ (v : Under) (s : State). comes_to r m j v s c) (sym keeps) (sym does))

        loss : (ch : ℕ) → loss_in words' ch ≤ loss_in words ch + 1
        loss ch =
            let net = needs.ready.work.net in
            rw (ap (λ (s : State). (get_or s.channels ch nothing).loss) (acted.state net needs.ready.tables.kinds_are))
            (action_loss net p x action (state_by variables words) ch)

        pub acts_done : {output' : List ℕ} {processor' : Processor} {finished' : Row} {turned : Turned}
            → turned ≡ came_to planned j count u finished → processor' ≡ stands_at planned j count u → finished' ≡ marks_of j count u finished
            → output' ≡ left_by j count u output → Done output' variables' words' processor' finished' turned
        acts_done {output'} {processor'} {finished'} {turned} came stood marks left = record {
          sound = acted.sound;
          size = left_length count u left;
          step = λ r c m processors stands.
              subst (λ d. Stepped r c d m processors output words processor finished output' variables' words' processor' finished' turned) (sym (acts_is r c m processors stands))
              (comes_stepped needs.ready.few stands j (ap next_of busy) u variables' words' output (size r c m processors stands) came stood marks left
              (λ ch. rw busy (omega (arith, loss ch, acted.at))) (λ ch. rw busy (omega (arith, loss ch, on, count_most))));
        }
