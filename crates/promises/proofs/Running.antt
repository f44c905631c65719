-- What holds between any two turns of a run on a feasible plan.
use Prim.Native.Nat.{ℕ, zero, suc, ◌+◌, ◌*◌, ◌-◌, ◌≤◌, ◌<◌}
use Rattle.std.specs.Prelude.{◌≡◌, Bool, false, cond, not, ◌&&◌, length, replicate, eqb}
use Rattle.std.proofs.Math.Path.{refl, ap}
use Rattle.std.proofs.Common.{sym, ◌∙◌, mul_comm, mul-le-mul_right, arith, get_or-set_same, get_or-set_other, lt-ltb}
use Rattle.std.proofs.Math.Bool.{true}
use mathlib.Core.List.{List, [], ◌∷◌}
use Rattle.std.proofs.Math.Nat.{zero-mul, suc-mul}
use Rattle.std.proofs.Math.Decide.{dec_lt, ℕ_discrete}
use Rattle.std.proofs.lemmas.List.{length-replicate}
use Rattle.std.proofs.Math.Seq.{length-sets}
use Rattle.reply.specs.Tools.{all}
use Rattle.reply.specs.Tests.{split, clash}
use Rattle.reply.specs.AllAny.{all_true}
use Rattle.reply.specs.Pick.{Picked, pick_is}
use Rattle.graph.specs.Work.{Work, job_count_of, process_of, cost}
use Rattle.machine.specs.State.{State}
use Rattle.machine.specs.WholeJob.{blank, started, at_end}
use Rattle.machine.specs.Samples.{sample_at, sample_words}
use Rattle.machine.specs.Ledger.{ShortPrograms}
use Rattle.machine.specs.Places.{view}
use Rattle.machine.specs.declared.Under.{Under}
use Rattle.plan.specs.Plan.{processor_at, start_at}
use Rattle.plan.specs.Feasible.{Feasible}
use Rattle.zero_delay.specs.ZeroDelay.{ran_jobs}
use Rattle.promises.specs.Turns.{Between, Run, idle, is_finished, stand_of, next_frame, finishes, goes_on, comes_to, waits, next_job, is_ready, starts, acts, turn_on, turn, turns, at_start}
use Rattle.promises.specs.TurnLaws.{waits_last}
use Rattle.determinism.specs.Setup.{Lawful}
use Rattle.determinism.specs.Setup
use Rattle.determinism.proofs.Turns.{Ok, Sound, sound_turn, sound_fresh, final_state, finished_output}
use Rattle.promises.specs.SampleWords.{get_or_same, no_samples, put_other}
use Rattle.promises.specs.Jobs.{Ordered, same_state, machine, done_job, ran_none, ran_state, ran_output}
use Rattle.promises.specs.Kept.{setup, apart}

-- what a run needs, and has where its call is done
pub record Fit (r : Run) (processors : ℕ) : Type 0 where
  pub ordered : Ordered r.work
  pub feasible : Feasible r.work processors r.plan
  pub costs : (j : ℕ) → j < job_count_of r.work → 1 ≤ cost r.work j
  pub some : 0 < job_count_of r.work
  pub four : processors ≤ 4
  pub short : ShortPrograms r.work.net

-- all jobs of the present frame have finished
abbrev pub all_finished : Run → Between → Bool
all_finished r c = all (job_count_of r.work) (is_finished c)

module _ (r : Run) (processors : ℕ) (g : Fit r processors) where
  abbrev w : Work
  w = r.work

  abbrev J : ℕ
  J = job_count_of r.work

  -- the zero-delay run's state at the start of frame f
  abbrev pub base : ℕ → State
  base f = (ran_jobs r.work r.input (f * job_count_of r.work)).state

  abbrev pub lawful : (f : ℕ) → Lawful (setup r processors f)
  lawful f = record {
    machine = machine w r.input f g.ordered;
    apart = apart r processors f;
    checked = record {
      tested = g.ordered.tested;
      lower = λ i j h t. t.lower;
      on = g.feasible.processor;
      early = λ i j h p. omega (arith, g.feasible.ordered i j h p, g.costs i (g.ordered.forward.within i j p).0);
    };
  }

  -- ---- a turn, as `determinism` has it

  module _ (f m : ℕ) (c : Between) (here : c.frames ≡ f) (more : all_finished r c ≡ false) where
    comes_is : (j : ℕ) (u : Under) (s : State) → comes_to r m j u s c ≡ next_frame r (Setup.place (setup r processors f) m j u s c)
    unfolding comes_to finishes goes_on next_frame
    comes_is j u s = split (at_end w.net (process_of w j) u)
        (λ e. rw (e, here))
        (λ e. rw (e, more))

    starts_is : (x : ℕ) → starts r m c x ≡ cond (Setup.can (setup r processors f) c x) (next_frame r (Setup.starts (setup r processors f) m c x)) (waits c)
    unfolding starts is_ready
    starts_is zero = refl
    starts_is (suc j) = split (Setup.ready (setup r processors f) c j) (λ e. rw e (comes_is j started c.state)) (λ e. rw e)

    turn_on_is : (x : ℕ) → turn_on r m c x
        ≡ cond (Setup.works_at (setup r processors f) m c x) (next_frame r (Setup.goes_on (setup r processors f) m c x)) (waits c)
    unfolding turn_on next_job acts
    turn_on_is zero = starts_is (Setup.next (setup r processors f) m c)
    turn_on_is (suc j) = comes_is j _ _ ∙ rw here refl

    pub turn_is : f < r.asked → turn r m c ≡ cond (Setup.works (setup r processors f) m c) (next_frame r (Setup.turn (setup r processors f) m c)) (waits c)
    unfolding turn
    turn_is l = rw (lt-ltb c.frames r.asked (omega arith)) (turn_on_is (stand_of c m).job)

  -- ---- what a working turn does beside

  -- a job that has not finished, of this frame or a later one, has left nothing
  abbrev pub Rest : ℕ → Between → Type 0
  Rest f c = (j : ℕ) → is_finished c j ≡ false → sample_at c.words (f * J + j) ≡ blank

  pub record Moved (f : ℕ) (c c' : Between) : Type 0 where
    pub frames : c'.frames ≡ c.frames
    pub working : c'.working ≡ c.working + 1
    pub waiting : c'.waiting ≡ c.waiting
    pub long : length c'.words ≡ length c.words
    pub before : (k : ℕ) → k < f * J → sample_at c'.words k ≡ sample_at c.words k
    pub rest : Rest f c → Rest f c'

  module _ (f m : ℕ) (c : Between) where
    moved_place : (j : ℕ) (u : Under) (s : State) → j < length c.finished → Moved f c (Setup.place (setup r processors f) m j u s c)
    moved_place j u s jn = split (at_end w.net (process_of w j) u)
        (λ e. rw e (record {
          frames = refl;
          working = refl;
          waiting = refl;
          long = length-sets c.words (2 * (f * J + j)) (sample_words u.output);
          before = λ k h. put_other c.words (f * J + j) u.output k (omega arith);
          rest = λ old i h. elim (ℕ_discrete i j) [
            | yes z ↦ clash (get_or-set_same c.finished j true false jn) (rw z at h)
            | no z ↦ put_other c.words (f * J + j) u.output (f * J + i) (λ e. z (omega arith)) ∙ old i (sym (get_or-set_other c.finished j i true false z) ∙ h)
          ];
        }))
        (λ e. rw e (record { frames = refl; working = refl; waiting = refl; long = refl; before = λ k h. refl; rest = λ old. old }))

    abbrev candidate : ℕ → Bool
    candidate j = eqb (processor_at r.plan j) m && not (is_finished c j)

    module _ (s : Ok (setup r processors f) (lawful f) c) where
      moved_starts : (x : ℕ) → Picked candidate (start_at r.plan) J x → Setup.can (setup r processors f) c x ≡ true
          → Moved f c (Setup.starts (setup r processors f) m c x)
      moved_starts zero p e = clash e refl
      moved_starts (suc j) p e = rw e (moved_place j started c.state (omega (arith, p.below, s.room.finished_long)))

      moved_on : (x : ℕ) → (stand_of c m).job ≡ x → Setup.works_at (setup r processors f) m c x ≡ true → Moved f c (Setup.goes_on (setup r processors f) m c x)
      moved_on zero q e = moved_starts (Setup.next (setup r processors f) m c) (pick_is candidate (start_at r.plan) J) e
      moved_on (suc j) q e = moved_place j _ _ (omega (arith, (s.here m j q).0, s.room.finished_long))

      pub moved : Setup.works (setup r processors f) m c ≡ true → Moved f c (Setup.turn (setup r processors f) m c)
      moved e = moved_on (stand_of c m).job refl e

  -- ---- what holds between two turns

  pub record Holds (f : ℕ) (c : Between) : Type 0 where
    -- f frames have finished
    pub frames : c.frames ≡ f
    pub asked : f ≤ r.asked
    -- the present frame is an interleaving
    pub sound : f < r.asked → Sound (setup r processors f) (lawful f) (base f) c
    pub more : all_finished r c ≡ false
    -- after the last frame
    pub over : r.asked ≤ f → c.state ≡ base f
    pub none : r.asked ≤ f → (j : ℕ) → is_finished c j ≡ false
    pub idle_last : r.asked ≤ f → (p : ℕ) → (stand_of c p).job ≡ 0
    -- the words of the frames before, and of the jobs that have not finished
    pub before : (k : ℕ) → k < f * J → sample_at c.words k ≡ (done_job w r.input k).output
    pub rest : Rest f c
    pub long : length c.words ≡ 2 * (J * r.asked)

  abbrev pub Any : Between → Type 0
  Any c = (f : ℕ) × Holds f c

  fresh_more : (c : Between) → ((j : ℕ) → is_finished c j ≡ false) → all_finished r c ≡ false
  fresh_more c u = split (all_finished r c) (λ e. clash (all_true J (is_finished c) e 0 g.some) (u 0)) (λ e. e)

  room_words : (f : ℕ) (c : Between) → f < r.asked → length c.words ≡ 2 * (J * r.asked) → 2 * (f * J + J) ≤ length c.words
  room_words f c h l = let p : suc f * J ≤ r.asked * J = mul-le-mul_right J h in omega (arith, suc-mul f J, mul_comm J r.asked)

  -- a frame that begins: nothing has finished, nothing is under way
  module _ (f : ℕ) (c : Between) (frames : c.frames ≡ f) (asked : f ≤ r.asked) (state : c.state ≡ base f)
      (finished : c.finished ≡ replicate J false) (wide : processors ≤ length c.processors) (idle_all : (p : ℕ) → (stand_of c p).job ≡ 0)
      (before : (k : ℕ) → k < f * J → sample_at c.words k ≡ (done_job w r.input k).output)
      (rest : (j : ℕ) → sample_at c.words (f * J + j) ≡ blank) (long : length c.words ≡ 2 * (J * r.asked)) where
    none : (j : ℕ) → is_finished c j ≡ false
    none j = rw finished (get_or_same {A = Bool} J j false)

    begins : Holds f c
    begins = record {
      frames = frames;
      asked = asked;
      sound = λ h. sound_fresh (setup r processors f) (lawful f) (base f) c (record {
        room = record {
          finished_long = rw (finished, length-replicate J false) (omega arith);
          words_long = room_words f c h long;
          processors_long = wide;
        };
        unmarked = none;
        idle_all = idle_all;
        same = λ cell. ap (view cell) state;
      });
      more = fresh_more c none;
      over = λ h. state;
      none = λ h. none;
      idle_last = λ h. idle_all;
      before = before;
      rest = λ j h. rest j;
      long = long;
    }

  pub holds_start : Holds 0 (at_start r)
  unfolding at_start
  holds_start = begins 0 (at_start r) refl (omega arith)
      (sym (ap (λ k. (ran_jobs w r.input k).state) (zero-mul J) ∙ ran_none w r.input))
      refl (rw (length-replicate 4 idle) g.four) (λ p. rw (get_or_same 4 p idle))
      (λ k h. absurd (omega (arith, zero-mul J))) (λ j. no_samples (2 * (J * r.asked)) (0 * J + j)) (length-replicate {A = ℕ} (2 * (J * r.asked)) 0)

  pub holds_waits : (f : ℕ) (c : Between) → Holds f c → Holds f (waits c)
  unfolding waits
  holds_waits f c v = record {
    frames = v.frames;
    asked = v.asked;
    sound = λ h. let s = v.sound h in record {
      ok = record {
        room = record { finished_long = s.ok.room.finished_long; words_long = s.ok.room.words_long; processors_long = s.ok.room.processors_long };
        beyond = s.ok.beyond;
        here = s.ok.here;
      };
      inv = s.inv;
    };
    more = v.more;
    over = v.over;
    none = v.none;
    idle_last = v.idle_last;
    before = v.before;
    rest = v.rest;
    long = v.long;
  }

  -- frame f comes to c' by a working turn, and goes on or ends
  module _ (f : ℕ) (c c' : Between) (v : Holds f c) (l : f < r.asked) (d : Moved f c c') (s : Sound (setup r processors f) (lawful f) (base f) c') where
    pub goes_on_lem : all_finished r c' ≡ false → Holds f c'
    goes_on_lem e = record {
      frames = d.frames ∙ v.frames;
      asked = v.asked;
      sound = λ h. s;
      more = e;
      over = λ h. absurd (omega arith);
      none = λ h. absurd (omega arith);
      idle_last = λ h. absurd (omega arith);
      before = λ k h. d.before k h ∙ v.before k h;
      rest = d.rest v.rest;
      long = d.long ∙ v.long;
    }

    module _ (every : (j : ℕ) → j < J → is_finished c' j ≡ true) where
      state_then : c'.state ≡ base (suc f)
      state_then = same_state c'.state (base (suc f)) (λ cell.
          final_state (setup r processors f) (lawful f) (base f) c' s every cell
          ∙ ap (view cell) (sym (ran_state w r.input f J (omega arith)) ∙ ap (λ k. (ran_jobs w r.input k).state) (sym (suc-mul f J))))

      idle_then : (p : ℕ) → (stand_of c' p).job ≡ 0
      idle_then p = go (stand_of c' p).job refl
        where
          go : (x : ℕ) → (stand_of c' p).job ≡ x → (stand_of c' p).job ≡ 0
          go zero q = q
          go (suc j) q = let h = s.ok.here p j q in clash (every j h.0) h.2

      before_then : (k : ℕ) → k < suc f * J → sample_at c'.words k ≡ (done_job w r.input k).output
      before_then k h = elim (dec_lt k (f * J)) [
        | yes b ↦ d.before k b ∙ v.before k b
        | no b ↦
            let z : k ≡ f * J + (k - f * J) = omega arith in
            let jn : k - f * J < J = omega (arith, suc-mul f J) in
            rw z (finished_output (setup r processors f) (lawful f) (base f) c' s (k - f * J) (every (k - f * J) jn) ∙ ran_output w r.input f (k - f * J) jn)
      ]

    pub ends : all_finished r c' ≡ true → Holds (suc f) (next_frame r c')
    unfolding next_frame
    ends e =
        let every : (j : ℕ) → j < J → is_finished c' j ≡ true = all_true J (is_finished c') e in
        rw e (begins (suc f) _ (omega (arith, d.frames, v.frames)) l (state_then every) refl s.ok.room.processors_long (idle_then every) (before_then every)
        (λ j. ap (sample_at c'.words) (omega (arith, suc-mul f J)) ∙ d.rest v.rest (J + j) (s.ok.beyond (J + j) (omega arith)))
        (d.long ∙ v.long))

    pub stays : all_finished r c' ≡ false → Holds f (next_frame r c')
    unfolding next_frame
    stays e = rw e (goes_on_lem e)

    next_any : Any (next_frame r c')
    next_any = split (all_finished r c') (λ e. (suc f, ends e)) (λ e. (f, stays e))

  pub turn_any : (m : ℕ) (c : Between) → Any c → Any (turn r m c)
  turn_any m c (f, v) = elim (dec_lt f r.asked) [
    | no h ↦ rw (waits_last r m c (omega (arith, v.frames))) (f, holds_waits f c v)
    | yes h ↦ rw (turn_is f m c v.frames v.more h) (split (Setup.works (setup r processors f) m c)
        (λ t. rw t (next_any f c (Setup.turn (setup r processors f) m c) v h (moved f m c (v.sound h).ok t) (sound_turn (setup r processors f) (lawful f) (base f) m c (v.sound h))))
        (λ t. rw t (f, holds_waits f c v)))
  ]

  pub turns_any : (ms : List ℕ) (c : Between) → Any c → Any (turns r ms c)
  unfolding turns
  turns_any [] c v = v
  turns_any (m ∷ ms) c v = turns_any ms (turn r m c) (turn_any m c v)

  -- in all states of the run
  pub run_any : (ms : List ℕ) → Any (turns r ms (at_start r))
  run_any ms = turns_any ms (at_start r) (0, holds_start)

  -- a finished job of the present frame
  pub now_output : (f : ℕ) (c : Between) → Holds f c → (j : ℕ) → is_finished c j ≡ true
      → (j < J) × (f < r.asked) × (sample_at c.words (f * J + j) ≡ (done_job w r.input (f * J + j)).output)
  now_output f c v j e = elim (dec_lt f r.asked) [
    | no h ↦ clash e (v.none (omega arith) j)
    | yes h ↦ elim (dec_lt j J) [
      | no l ↦ clash e ((v.sound h).ok.beyond j (omega arith))
      | yes l ↦ (l, h, finished_output (setup r processors f) (lawful f) (base f) c (v.sound h) j e ∙ ran_output w r.input f j l)
    ]
  ]
