-- By whose turn a job finishes: by one of the processor that the plan names for it.
use Rattle.std.specs.Prelude.{ℕ, zero, suc, ◌+◌, ◌<◌, ◌≡◌, refl, ◌≢◌, ◌⊎◌, Bool, true, false, not, ◌&&◌, eqb, get_or, replicate}
use Rattle.std.proofs.Math.Path.{sym}
use Rattle.std.proofs.Common.{ap, ◌∙◌, arith, get_or-set_other, eqb-true}
use Rattle.std.proofs.Math.Logic.{inl, inr}
use Rattle.std.proofs.Math.Decide.{dec_lt, ℕ_discrete}
use Rattle.reply.specs.Tests.{split, clash, both}
use Rattle.reply.specs.AllAny.{all_true}
use Rattle.reply.specs.Pick.{Picked, pick_is}
use Rattle.graph.specs.Work.{job_count_of, process_of}
use Rattle.machine.specs.State.{State}
use Rattle.machine.specs.WholeJob.{started, at_end}
use Rattle.machine.specs.declared.Under.{Under}
use Rattle.plan.specs.Plan.{processor_at, start_at}
use Rattle.promises.specs.Turns.{Between, Run, is_finished, stand_of, next_frame, waits, turn}
use Rattle.promises.specs.TurnLaws.{waits_last}
use Rattle.determinism.specs.Setup
use Rattle.determinism.proofs.Turns.{Ok}
use Rattle.promises.specs.SampleWords.{get_or_same}
use Rattle.promises.specs.Kept.{setup}
use Rattle.promises.proofs.Running.{Fit, Any, all_finished, lawful, moved}
use Rattle.promises.specs.Outputs.{HasFinished}
use Rattle.promises.proofs.Working.{turn_works, turn_waits}

module _ (r : Run) (processors : ℕ) (g : Fit r processors) (m i : ℕ) (apart : processor_at r.plan i ≢ m) where
  abbrev J : ℕ
  J = job_count_of r.work

  -- ---- a working turn of m, but for the end of the frame

  module _ (f : ℕ) (c : Between) where
    kept_place : (j : ℕ) (u : Under) (s : State) → processor_at r.plan j ≡ m → is_finished (Setup.place (setup r processors f) m j u s c) i ≡ is_finished c i
    kept_place j u s here = split (at_end r.work.net (process_of r.work j) u)
        (λ e. rw e (get_or-set_other c.finished j i true false (λ z. apart (ap (processor_at r.plan) z ∙ here))))
        (λ e. rw e)

    abbrev candidate : ℕ → Bool
    candidate j = eqb (processor_at r.plan j) m && not (is_finished c j)

    kept_starts : (x : ℕ) → Picked candidate (start_at r.plan) J x → Setup.can (setup r processors f) c x ≡ true
        → is_finished (Setup.starts (setup r processors f) m c x) i ≡ is_finished c i
    kept_starts zero p e = refl
    kept_starts (suc j) p e = rw e (kept_place j started c.state (eqb-true _ m (both (eqb (processor_at r.plan j) m) _ p.passes).0))

    kept_on : Ok (setup r processors f) (lawful r processors g f) c → (x : ℕ) → (stand_of c m).job ≡ x → Setup.works_at (setup r processors f) m c x ≡ true
        → is_finished (Setup.goes_on (setup r processors f) m c x) i ≡ is_finished c i
    kept_on o zero q e = kept_starts (Setup.next (setup r processors f) m c) (pick_is candidate (start_at r.plan) J) e
    kept_on o (suc j) q e = kept_place j _ _ (o.here m j q).1

  -- ---- and with it

  -- c' comes from c, with no other finished job but those of m
  module _ (c c' : Between) (frames : c'.frames ≡ c.frames) (same : is_finished c' i ≡ is_finished c i) where
    next_finished : (f : ℕ) → HasFinished J (next_frame r c') f i → HasFinished J c f i
    unfolding next_frame
    next_finished f = split (all_finished r c') (λ e. rw e (ended e)) (λ e. rw e on)
      where
        on : HasFinished J c' f i → HasFinished J c f i
        on (l, inl h) = (l, inl (omega arith))
        on (l, inr (z, t)) = (l, inr (z ∙ frames, sym same ∙ t))

        ended : all_finished r c' ≡ true → (i < J) × ((f < c'.frames + 1) ⊎ ((f ≡ c'.frames + 1) × (get_or (replicate J false) i false ≡ true))) → HasFinished J c f i
        ended e (l, inl h) = elim (dec_lt f c.frames) [
          | yes b ↦ (l, inl b)
          | no b ↦ (l, inr (omega arith, sym same ∙ all_true J (is_finished c') e i l))
        ]
        ended e (l, inr (z, t)) = clash t (get_or_same {A = Bool} J i false)

  waits_finished : (c : Between) (f : ℕ) → HasFinished J (waits c) f i → HasFinished J c f i
  unfolding waits
  waits_finished c f h = h

  turn_finished : (c : Between) → Any r processors g c → (f : ℕ) → HasFinished J (turn r m c) f i → HasFinished J c f i
  turn_finished c (e, v) f = elim (dec_lt e r.asked) [
    | no h ↦ rw (waits_last r m c (omega (arith, v.frames))) (waits_finished c f)
    | yes h ↦ split (Setup.works (setup r processors e) m c)
        (λ t. rw (turn_works r processors g e m c v h t) (next_finished c (Setup.turn (setup r processors e) m c)
        (moved r processors g e m c (v.sound h).ok t).frames (kept_on e c (v.sound h).ok (stand_of c m).job refl t) f))
        (λ t. rw (turn_waits r processors g e m c v h t) (waits_finished c f))
  ]

-- a job that has not finished before a turn, and has after it, is of the turn's processor
pub finishes_there : (r : Run) (processors : ℕ) (g : Fit r processors) (m : ℕ) (c : Between) → Any r processors g c → (f i : ℕ)
    → ¬ (HasFinished (job_count_of r.work) c f i) → HasFinished (job_count_of r.work) (turn r m c) f i → processor_at r.plan i ≡ m
finishes_there r processors g m c v f i n h = elim (ℕ_discrete (processor_at r.plan i) m) [
  | yes e ↦ e
  | no d ↦ absurd (n (turn_finished r processors g m i d c v f h))
]
