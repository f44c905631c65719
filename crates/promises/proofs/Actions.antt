-- What a turn does to the job under way on a processor: another processor's turn leaves it, and its own turn does one action of it.
use Prim.Native.Nat.{ℕ, zero, suc, ◌<◌}
use Rattle.std.specs.Prelude.{◌≡◌, ◌≢◌, true, false, length, get_or, set, ltb}
use Rattle.std.proofs.Math.Path.{refl}
use Rattle.std.proofs.Common.{sym, ap, ◌∙◌, inl, inr, arith, get_or-set_other, lt-ltb}
use Rattle.std.proofs.Math.Decide.{dec_lt}
use Rattle.std.proofs.Math.Seq.{get_or-set_same}
use Rattle.reply.specs.Tests.{split}
use Rattle.graph.specs.Work.{job_count_of, process_of}
use Rattle.machine.specs.State.{State}
use Rattle.machine.specs.WholeJob.{at_end, act_state}
use Rattle.machine.specs.Samples.{sample_at}
use Rattle.machine.specs.declared.Under.{Under}
use Rattle.plan.specs.Plan.{processor_at}
use Rattle.promises.specs.Turns.{Between, Run, idle, is_finished, stand_of, index_of, next_frame, finishes, goes_on, comes_to, waits, next_job, is_ready, starts, acts, turn_on, turn}
use Rattle.promises.proofs.Running.{Fit, Any, all_finished}
use Rattle.promises.specs.Actions.{next_under, OneAction}

module _ (r : Run) where
  next_stands : (c : Between) (p : ℕ) → stand_of (next_frame r c) p ≡ stand_of c p
  unfolding next_frame
  next_stands c p = split (all_finished r c) (λ e. rw e) (λ e. rw e)

  next_state_lem : (c : Between) → (next_frame r c).state ≡ c.state
  unfolding next_frame
  next_state_lem c = split (all_finished r c) (λ e. rw e) (λ e. rw e)

  -- ---- another processor's turn

  module _ (p m : ℕ) (apart : m ≢ p) where
    other : (c : Between) (x : _) → get_or (set c.processors m x) p idle ≡ stand_of c p
    other c x = get_or-set_other c.processors m p x idle (λ e. apart (sym e))

    kept_comes : (j : ℕ) (u : Under) (s : State) (c : Between) → stand_of (comes_to r m j u s c) p ≡ stand_of c p
    unfolding comes_to finishes goes_on
    kept_comes j u s c = split (at_end r.work.net (process_of r.work j) u)
        (λ e. rw e (next_stands _ p ∙ other c idle))
        (λ e. rw e (other c (record { job = suc j; under = u })))

    kept_starts : (c : Between) (x : ℕ) → stand_of (starts r m c x) p ≡ stand_of c p
    unfolding starts waits
    kept_starts c zero = refl
    kept_starts c (suc j) = split (is_ready r c j) (λ e. rw e (kept_comes j _ _ c)) (λ e. rw e)

    kept_on : (c : Between) (x : ℕ) → stand_of (turn_on r m c x) p ≡ stand_of c p
    unfolding turn_on acts
    kept_on c zero = kept_starts c (next_job r m c)
    kept_on c (suc j) = kept_comes j _ _ c

    pub kept : (c : Between) → stand_of (turn r m c) p ≡ stand_of c p
    unfolding turn waits
    kept c = split (ltb c.frames r.asked) (λ e. rw e (kept_on c (stand_of c m).job)) (λ e. rw e)

-- ---- its own turn

module _ (r : Run) (p j : ℕ) (u : Under) (s : State) (c : Between) where
  comes_state : (comes_to r p j u s c).state ≡ s
  unfolding comes_to finishes goes_on
  comes_state = split (at_end r.work.net (process_of r.work j) u) (λ e. rw e (next_state_lem r _)) (λ e. rw e)

  module _ (there : p < length c.processors) where
    comes_on : at_end r.work.net (process_of r.work j) u ≡ false → stand_of (comes_to r p j u s c) p ≡ record { job = suc j; under = u }
    unfolding comes_to goes_on
    comes_on e = rw e (get_or-set_same c.processors p (record { job = suc j; under = u }) idle there)

    comes_off : at_end r.work.net (process_of r.work j) u ≡ true → (stand_of (comes_to r p j u s c) p).job ≡ 0
    unfolding comes_to finishes
    comes_off e = rw e (ap (λ x. x.job) (next_stands r _ p ∙ get_or-set_same c.processors p idle idle there))

module _ (r : Run) (processors : ℕ) (g : Fit r processors) where
  -- a job under way: it is one of the frame's, on its planned processor, and has not finished; and the frame is not past the last
  pub record UnderWay (c : Between) (p j : ℕ) : Type 0 where
    pub job : j < job_count_of r.work
    pub planned : processor_at r.plan j ≡ p
    pub unfinished : is_finished c j ≡ false
    pub frame : c.frames < r.asked
    pub processor : p < length c.processors

  pub under_way : (c : Between) → Any r processors g c → (p j : ℕ) → (stand_of c p).job ≡ suc j → UnderWay c p j
  under_way c (f, v) p j e = elim (dec_lt f r.asked) [
    | no h ↦ absurd (omega (arith, v.idle_last (omega arith) p))
    | yes h ↦
        let o = (v.sound h).ok in
        let (b, q, u) = o.here p j e in
        record {
          job = b;
          planned = q;
          unfinished = u;
          frame = omega (arith, v.frames);
          processor = omega (arith, o.room.processors_long, g.feasible.processor j b, q);
        }
  ]

  own_is : (c : Between) (p j : ℕ) → c.frames < r.asked → (stand_of c p).job ≡ suc j
      → turn r p c ≡ comes_to r p j (next_under r p j c) (act_state r.work.net (process_of r.work j) (sample_at r.input (index_of r c j)) (stand_of c p).under c.state) c
  unfolding turn turn_on acts
  own_is c p j h e = rw (lt-ltb c.frames r.asked h, e)

  pub own_turn : (c : Between) → Any r processors g c → (p j : ℕ) → (stand_of c p).job ≡ suc j → OneAction r p j c (turn r p c)
  own_turn c v p j e =
      let k : UnderWay c p j = under_way c v p j e in
      rw (own_is c p j k.frame e) (record {
        state = comes_state r p j _ _ c;
        then = split (at_end r.work.net (process_of r.work j) (next_under r p j c))
            (λ t. inr (t, comes_off r p j _ _ c k.processor t))
            (λ t. inl (t, comes_on r p j _ _ c k.processor t));
      })
