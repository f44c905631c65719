-- Which turns work, and how many: while a job is left, turns that name every processor have one that works; and a frame takes at most 25 working turns a job.
use Prim.Native.Nat.{ℕ, zero, suc, ◌+◌, ◌*◌, ◌≤◌, ◌<◌}
use Rattle.std.specs.Prelude.{◌≡◌, Bool, false, length, get_or}
use Rattle.std.proofs.Math.Path.{refl, ap, subst}
use Rattle.std.proofs.Common.{sym, ◌∙◌, suc-mul}
use Rattle.std.proofs.Math.Bool.{true}
use mathlib.Core.List.{List, [], ◌∷◌}
use Rattle.std.proofs.Math.Decide.{dec_lt}
use native.Mathlib.Omega.{arith}
use Rattle.reply.specs.Tests.{split}
use Rattle.reply.specs.AllAny.{all_false}
use Rattle.graph.specs.Work.{job_count_of, process_of}
use Rattle.machine.specs.declared.Sample.{Sample}
use Rattle.machine.specs.declared.Under.{Under}
use Rattle.promises.specs.Turns.{Between, Run, is_finished, stand_of, next_frame, waits, turn, turns, at_start}
use Rattle.promises.specs.TurnLaws.{waits_last}
use Rattle.determinism.specs.Interleaving.{Status, waiting, running, finished}
use Rattle.determinism.specs.Setup
use Rattle.determinism.proofs.Turns.{Sound, sound_turn}
use Rattle.determinism.specs.Runs.{sum_most}
use Rattle.determinism.proofs.Progress
use Rattle.promises.specs.Kept.{setup}
use Rattle.promises.proofs.Running.{Fit, Holds, Any, all_finished, lawful, base, turn_is, turn_any, Moved, moved, holds_waits, holds_start, ends, stays}

module _ (r : Run) (processors : ℕ) (g : Fit r processors) where
  abbrev J : ℕ
  J = job_count_of r.work

  -- in frame f, the turn of processor m works
  abbrev works : ℕ → ℕ → Between → Bool
  works f m c = Setup.works (setup r processors f) m c

  -- what it comes to, but for the end of the frame
  abbrev after : ℕ → ℕ → Between → Between
  after f m c = Setup.turn (setup r processors f) m c

  next_working : (c : Between) → (next_frame r c).working ≡ c.working
  unfolding next_frame
  next_working c = split (all_finished r c) (λ e. rw e) (λ e. rw e)

  next_frames : (c : Between) → c.frames ≤ (next_frame r c).frames
  unfolding next_frame
  next_frames c = split (all_finished r c) (λ e. rw e (omega arith)) (λ e. rw e (omega arith))

  -- a turn of a frame that is not the last's end
  module _ (f m : ℕ) (c : Between) (v : Holds r processors g f c) (h : f < r.asked) where
    pub turn_works : works f m c ≡ true → turn r m c ≡ next_frame r (after f m c)
    turn_works t = turn_is r processors g f m c v.frames v.more h ∙ rw t refl

    pub turn_waits : works f m c ≡ false → turn r m c ≡ waits c
    turn_waits t = turn_is r processors g f m c v.frames v.more h ∙ rw t refl

    moves : works f m c ≡ true → Moved r processors g f c (after f m c)
    moves t = moved r processors g f m c (v.sound h).ok t

    pub works_more : works f m c ≡ true → (turn r m c).working ≡ c.working + 1
    works_more t = ap (λ (x : Between). x.working) (turn_works t) ∙ next_working (after f m c) ∙ (moves t).working

  -- a turn that does not work changes nothing but its count
  pub waits_only : (m : ℕ) (c : Between) → Any r processors g c → (turn r m c).working ≡ c.working → turn r m c ≡ waits c
  waits_only m c (f, v) e = elim (dec_lt f r.asked) [
    | no h ↦ waits_last r m c (omega (arith, v.frames))
    | yes h ↦ split (works f m c) (λ t. absurd (omega (arith, works_more f m c v h t))) (λ t. turn_waits f m c v h t)
  ]

  -- ---- working turns and frames are never fewer

  pub record Grows (c c' : Between) : Type 0 where
    pub working : c.working ≤ c'.working
    pub frames : c.frames ≤ c'.frames

  turn_grows : (m : ℕ) (c : Between) → Any r processors g c → Grows c (turn r m c)
  unfolding waits
  turn_grows m c (f, v) = elim (dec_lt f r.asked) [
    | no h ↦ rw (waits_last r m c (omega (arith, v.frames))) (record { working = omega arith; frames = omega arith })
    | yes h ↦ split (works f m c)
        (λ t. record {
          working = omega (arith, works_more f m c v h t);
          frames = rw (turn_works f m c v h t) (omega (arith, (moves f m c v h t).frames, next_frames (after f m c)));
        })
        (λ t. rw (turn_waits f m c v h t) (record { working = omega arith; frames = omega arith }))
  ]

  pub turns_grow : (ms : List ℕ) (c : Between) → Any r processors g c → Grows c (turns r ms c)
  unfolding turns
  turns_grow [] c v = record { working = omega arith; frames = omega arith }
  turns_grow (m ∷ ms) c v =
      let a : Grows c (turn r m c) = turn_grows m c v in
      let b : Grows (turn r m c) (turns r ms (turn r m c)) = turns_grow ms (turn r m c) (turn_any r processors g m c v) in
      record { working = omega (arith, a.working, b.working); frames = omega (arith, a.frames, b.frames) }

  -- ---- one that works

  can_waits : (f : ℕ) (c : Between) (x : ℕ) → Setup.can (setup r processors f) (waits c) x ≡ Setup.can (setup r processors f) c x
  unfolding waits
  can_waits f c zero = refl
  can_waits f c (suc j) = refl

  works_waits : (f q : ℕ) (c : Between) (x : ℕ) → Setup.works_at (setup r processors f) q (waits c) x ≡ Setup.works_at (setup r processors f) q c x
  unfolding waits
  works_waits f q c zero = can_waits f c (Setup.next (setup r processors f) q c)
  works_waits f q c (suc j) = refl

  -- turns that name a processor whose turn works
  once : (ms : List ℕ) (f : ℕ) (c : Between) → Holds r processors g f c → f < r.asked → (q k : ℕ) → k < length ms → get_or ms k 0 ≡ q → works f q c ≡ true
      → c.working < (turns r ms c).working
  unfolding turns waits
  once [] f c v h q k l e t = absurd (omega arith)
  once (m ∷ ms) f c v h q zero l e t =
      let u : works f m c ≡ true = subst (λ x. works f x c ≡ true) (sym e) t in
      omega (arith, works_more f m c v h u, (turns_grow ms (turn r m c) (turn_any r processors g m c (f, v))).working)
  once (m ∷ ms) f c v h q (suc k) l e t = split (works f m c)
      (λ u. omega (arith, works_more f m c v h u, (turns_grow ms (turn r m c) (turn_any r processors g m c (f, v))).working))
      (λ u. subst (λ x. c.working < (turns r ms x).working) (sym (turn_waits f m c v h u))
      (once ms f (waits c) (holds_waits r processors g f c v) h q k (omega arith) e (works_waits f q c (stand_of c q).job ∙ t)))

  -- turns that name every processor, with a job left at their end
  pub stretch_works : (ms : List ℕ) (c : Between) → Any r processors g c → ((q : ℕ) → q < processors → (k : ℕ) × (k < length ms) × (get_or ms k 0 ≡ q))
      → (turns r ms c).frames < r.asked → c.working < (turns r ms c).working
  stretch_works ms c (f, v) every left =
      let h : f < r.asked = omega (arith, v.frames, (turns_grow ms c (f, v)).frames) in
      let (j, l, u) = all_false J (is_finished c) v.more in
      let (q, b, t) = Progress.live (setup r processors f) (lawful r processors g f) c j l u in
      let (k, n, e) = every q b in
      once ms f c v h q k n e t

  -- ---- how many

  -- the working turns that a frame has left, at most
  abbrev size : ℕ → Between → ℕ
  size f c = Progress.size (setup r processors f) (lawful r processors g f) c

  size_most : (f : ℕ) (c : Between) → size f c ≤ J * 25
  size_most f c = sum_most J _ 25 (λ j h. go j (Setup.status (setup r processors f) c j))
    where
      go : (j : ℕ) (t : Status Under Sample) → Progress.weight (setup r processors f) (lawful r processors g f) j t ≤ 25
      go j waiting = omega (arith, g.short.most (process_of r.work j))
      go j (running u) = omega (arith, g.short.most (process_of r.work j))
      go j (finished o) = omega arith

  size_waits : (f : ℕ) (c : Between) → size f (waits c) ≡ size f c
  unfolding waits
  size_waits f c = refl

  -- what a turn of frame f does
  data Turned (f : ℕ) (c x : Between) : Type 0 where
    waited : x ≡ waits c → Turned f c x
    went : Holds r processors g f x → x.working ≡ c.working + 1 → size f x < size f c → Turned f c x
    ended : Holds r processors g (suc f) x → x.working ≡ c.working + 1 → 0 < size f c → Turned f c x

  turned : (f m : ℕ) (c : Between) → Holds r processors g f c → f < r.asked → Turned f c (turn r m c)
  unfolding next_frame
  turned f m c v h = split (works f m c)
      (λ t.
      let c' : Between = after f m c in
      let d : Moved r processors g f c c' = moves f m c v h t in
      let s : Sound (setup r processors f) (lawful r processors g f) (base r processors g f) c' = sound_turn (setup r processors f) (lawful r processors g f) (base r processors g f) m c (v.sound h) in
      let l : size f c' < size f c = Progress.size_less (setup r processors f) (lawful r processors g f) (base r processors g f) c (v.sound h) m t in
      rw (turn_works f m c v h t) (split (all_finished r c')
      (λ e. ended (ends r processors g f c c' v h d s e) (next_working c' ∙ d.working) (omega (arith, l)))
      (λ e. went (stays r processors g f c c' v h d s e) (next_working c' ∙ d.working) (rw e l))))
      (λ t. waited (turn_waits f m c v h t))

  -- turns that stay within frame f
  abbrev Within : ℕ → Between → Between → Type 0
  Within f c x = Holds r processors g f x × (x.working + size f x ≤ c.working + size f c)

  within_frame : (ms : List ℕ) (f : ℕ) (c : Between) → Holds r processors g f c → f < r.asked → (turns r ms c).frames ≡ f → Within f c (turns r ms c)
  unfolding turns waits
  within_frame [] f c v h e = (v, omega arith)
  within_frame (m ∷ ms) f c v h e = go (turn r m c) (turned f m c v h) e (λ x v. within_frame ms f x v h)
    where
      go : (x : Between) → Turned f c x → (turns r ms x).frames ≡ f
          → ((x : Between) → Holds r processors g f x → (turns r ms x).frames ≡ f → Within f x (turns r ms x)) → Within f c (turns r ms x)
      go x (waited z) e ih =
          subst (λ x. Within f c (turns r ms x)) (sym z)
          (ih (waits c) (holds_waits r processors g f c v) (sym (ap (λ x. (turns r ms x).frames) z) ∙ e))
      go x (went v' k l) e ih = let q = ih x v' e in (q.0, omega (arith, q.1))
      go x (ended v' k l) e ih = absurd (omega (arith, v'.frames, (turns_grow ms x (suc f, v')).frames))

  -- from any state of a frame on: turns that stay in it, and one more, which may finish it
  pub frame_turns : (ms : List ℕ) (m : ℕ) (c : Between) → Any r processors g c → c.frames < r.asked → (turns r ms c).frames ≡ c.frames
      → (turn r m (turns r ms c)).working ≤ c.working + J * 25
  unfolding waits
  frame_turns ms m c (f, v) h e =
      let h' : f < r.asked = omega (arith, v.frames) in
      let q : Within f c (turns r ms c) = within_frame ms f c v h' (e ∙ v.frames) in
      go (turn r m (turns r ms c)) (turned f m (turns r ms c) q.0 h') q.1 (size_most f c)
    where
      go : (x : Between) → Turned f (turns r ms c) x → (turns r ms c).working + size f (turns r ms c) ≤ c.working + size f c → size f c ≤ J * 25
          → x.working ≤ c.working + J * 25
      go x (waited z) a b = omega (arith, ap (λ (y : Between). y.working) z)
      go x (went v' k l) a b = omega arith
      go x (ended v' k l) a b = omega arith

  -- all frames together
  record Spent (f : ℕ) (c : Between) : Type 0 where
    holds : Holds r processors g f c
    under : f < r.asked → c.working + size f c ≤ f * (J * 25) + J * 25
    over : r.asked ≤ f → c.working ≤ f * (J * 25)

  spent_waits : (f : ℕ) (c : Between) → Spent f c → Spent f (waits c)
  unfolding waits
  spent_waits f c v = record { holds = holds_waits r processors g f c v.holds; under = v.under; over = v.over }

  spent_turn : (f m : ℕ) (c : Between) → Spent f c → (e : ℕ) × Spent e (turn r m c)
  spent_turn f m c v = elim (dec_lt f r.asked) [
    | no h ↦ rw (waits_last r m c (omega (arith, v.holds.frames))) (f, spent_waits f c v)
    | yes h ↦ go (turn r m c) (turned f m c v.holds h) h
  ]
    where
      go : (x : Between) → Turned f c x → f < r.asked → (e : ℕ) × Spent e x
      go x (waited z) h = rw z (f, spent_waits f c v)
      go x (went v' k l) h = (f, record { holds = v'; under = λ q. omega (arith, v.under h); over = λ q. absurd (omega arith) })
      go x (ended v' k l) h = (
        suc f,
        record {
          holds = v';
          under = λ q. omega (arith, v.under h, suc-mul f (J * 25), size_most (suc f) x);
          over = λ q. omega (arith, v.under h, suc-mul f (J * 25));
        },
      )

  spent_turns : (ms : List ℕ) (f : ℕ) (c : Between) → Spent f c → (e : ℕ) × Spent e (turns r ms c)
  unfolding turns
  spent_turns [] f c v = (f, v)
  spent_turns (m ∷ ms) f c v = let q = spent_turn f m c v in spent_turns ms q.0 (turn r m c) q.1

  at_start_lem : Spent 0 (at_start r)
  unfolding at_start
  at_start_lem = record {
    holds = holds_start r processors g;
    under = λ h. omega (arith, size_most 0 (at_start r));
    over = λ h. omega arith;
  }

  -- a run that has finished all its frames
  pub all_turns : (ms : List ℕ) → r.asked ≤ (turns r ms (at_start r)).frames → (turns r ms (at_start r)).working ≤ r.asked * (J * 25)
  all_turns ms h =
      let (f, s) = spent_turns ms 0 (at_start r) at_start_lem in
      let z : f ≡ r.asked = omega (arith, s.holds.frames, s.holds.asked) in
      subst (λ x. (turns r ms (at_start r)).working ≤ x * (J * 25)) z (s.over (omega arith))
