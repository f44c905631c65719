-- Laws of turns: one more, how many there were, and that all of them wait after the last frame.
use Prim.Native.Nat.{ℕ, zero, suc, ◌+◌, ◌≤◌, ◌<◌}
use Rattle.std.specs.Prelude.{◌≡◌, ltb, length, get_or, take, drop}
use Rattle.std.proofs.Math.Path.{refl, ap, subst}
use Rattle.std.proofs.Common.{◌∙◌, take-append-drop, take_all, le-ltb}
use mathlib.Core.List.{List, [], ◌∷◌, ◌++◌}
use native.Mathlib.Omega.{arith}
use Rattle.reply.specs.Tests.{split}
use Rattle.reply.specs.Tools.{all}
use Rattle.graph.specs.Work.{job_count_of, process_of}
use Rattle.machine.specs.State.{State}
use Rattle.machine.specs.WholeJob.{at_end}
use Rattle.machine.specs.declared.Under.{Under}
use Rattle.promises.specs.Turns.{Run, Between, stand_of, is_finished, next_frame, finishes, goes_on, comes_to, waits, next_job, is_ready, starts, acts, turn_on, turn, turns, at_start}

-- after the first t turns
unfoldable pub turns_to : Run → List ℕ → ℕ → Between
turns_to r list t = turns r (take t list) (at_start r)

module _ (r : Run) where
  one_more : (list : List ℕ) (t : ℕ) (c : Between) → t < length list → turns r (take (suc t) list) c ≡ turn r (get_or list t 0) (turns r (take t list) c)
  unfolding turns
  one_more [] t c h = absurd (omega arith)
  one_more (m ∷ ms) zero c h = refl
  one_more (m ∷ ms) (suc t) c h = one_more ms t (turn r m c) (omega arith)

  pub to_start : (list : List ℕ) → turns_to r list 0 ≡ at_start r
  unfolding turns_to turns
  to_start list = refl

  pub to_more : (list : List ℕ) (t : ℕ) → t < length list → turns_to r list (suc t) ≡ turn r (get_or list t 0) (turns_to r list t)
  unfolding turns_to
  to_more list t h = one_more list t (at_start r) h

  pub to_all : (list : List ℕ) (t : ℕ) → length list ≤ t → turns_to r list t ≡ turns r list (at_start r)
  unfolding turns_to
  to_all list t h = ap (λ (l : List ℕ). turns r l (at_start r)) (take_all t list h)

  -- ---- how many turns there were

  abbrev counted : Between → ℕ
  counted c = c.working + c.waiting

  counted_frame : (c : Between) → counted (next_frame r c) ≡ counted c
  unfolding next_frame
  counted_frame c = split (all (job_count_of r.work) (is_finished c)) (λ e. rw e) (λ e. rw e)

  counted_comes : (m j : ℕ) (u : Under) (s : State) (c : Between) → counted (comes_to r m j u s c) ≡ suc (counted c)
  unfolding comes_to finishes goes_on
  counted_comes m j u s c = split (at_end r.work.net (process_of r.work j) u) (λ e. rw e (counted_frame _ ∙ omega arith)) (λ e. rw e (omega arith))

  counted_starts : (m : ℕ) (c : Between) (next : ℕ) → counted (starts r m c next) ≡ suc (counted c)
  unfolding starts waits
  counted_starts m c zero = omega arith
  counted_starts m c (suc j) = split (is_ready r c j) (λ e. rw e (counted_comes m j _ _ c)) (λ e. rw e (omega arith))

  counted_on : (m : ℕ) (c : Between) (job : ℕ) → counted (turn_on r m c job) ≡ suc (counted c)
  unfolding turn_on acts
  counted_on m c zero = counted_starts m c (next_job r m c)
  counted_on m c (suc j) = counted_comes m j _ _ c

  counted_turn : (m : ℕ) (c : Between) → counted (turn r m c) ≡ suc (counted c)
  unfolding turn waits
  counted_turn m c = split (ltb c.frames r.asked) (λ e. rw e (counted_on m c (stand_of c m).job)) (λ e. rw e (omega arith))

  pub each_counted : (list : List ℕ) (t : ℕ) → t ≤ length list → (turns_to r list t).working + (turns_to r list t).waiting ≡ t
  unfolding at_start
  each_counted list zero h = rw (to_start list) refl
  each_counted list (suc t) h = rw (to_more list t h) (counted_turn (get_or list t 0) (turns_to r list t) ∙ ap suc (each_counted list t (omega arith)))

  -- ---- after the last frame

  -- the same but for waiting turns
  pub record Waited (c d : Between) : Type 0 where
    pub frames : d.frames ≡ c.frames
    pub finished : d.finished ≡ c.finished
    pub state : d.state ≡ c.state
    pub words : d.words ≡ c.words
    pub working : d.working ≡ c.working

  pub waits_last : (m : ℕ) (c : Between) → r.asked ≤ c.frames → turn r m c ≡ waits c
  unfolding turn
  waits_last m c h = rw (le-ltb c.frames r.asked h)

  all_wait : (list : List ℕ) (c : Between) → r.asked ≤ c.frames → Waited c (turns r list c)
  unfolding turns waits
  all_wait [] c h = record { frames = refl; finished = refl; state = refl; words = refl; working = refl }
  all_wait (m ∷ ms) c h =
      let w : Waited (waits c) (turns r ms (waits c)) = all_wait ms (waits c) h in
      rw (waits_last m c h) (record { frames = w.frames; finished = w.finished; state = w.state; words = w.words; working = w.working })

  pub more_turns : (list more : List ℕ) (c : Between) → turns r (list ++ more) c ≡ turns r more (turns r list c)
  unfolding turns
  more_turns [] more c = refl
  more_turns (m ∷ ms) more c = more_turns ms more (turn r m c)

  pub last_waits : (list : List ℕ) (t : ℕ) → r.asked ≤ (turns_to r list t).frames → Waited (turns_to r list t) (turns r list (at_start r))
  unfolding turns_to
  last_waits list t h =
      subst (λ l. Waited (turns r (take t list) (at_start r)) (turns r l (at_start r))) (take-append-drop t list)
      (rw (more_turns (take t list) (drop t list) (at_start r)) (all_wait (drop t list) (turns r (take t list) (at_start r)) h))
