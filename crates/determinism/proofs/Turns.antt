-- The turns of a frame make an interleaving, so its finished jobs and its end are those of the zero-delay run.
use Rattle.std.specs.Prelude.{ℕ, zero, suc, ◌≤◌, ◌<◌, ◌≡◌, refl, ◌≢◌, true, false, cond, not, ◌&&◌, eqb}
use Rattle.std.proofs.Common.{sym, ap, ◌∙◌, arith, eqb-true, eq-eqb, ne_eqb}
use Rattle.std.proofs.Math.Decide.{ℕ_discrete}
use Rattle.std.proofs.lemmas.Bool.{not-true}
use Rattle.reply.specs.Tests.{split, clash, both, implies}
use Rattle.reply.specs.AllAny.{all_true}
use Rattle.reply.specs.Pick.{Picked, pick_is}
use Rattle.determinism.specs.Interleaving.{Shape, waiting, running, finished, is_wait, is_fin}
use Rattle.determinism.specs.Interleaving
use Rattle.determinism.proofs.Interleaving.{inv_start, inv_begin, inv_act, inv_determined}
use Rattle.determinism.specs.Jobs.{system, zero_delay_state, zero_output}
use Rattle.determinism.specs.Setup.{Setup, Lawful, past, ready, place, order, next, starts, goes_on, turn, can, works_at, works, idle, busy, status, seen}

module _ {K : Shape} (U : Setup K) (G : Lawful U) where
  open K use {State, Own, Output, Place, view}
  open U.steps use {first, ended, output, next_own, next_state, left}
  open U.plan use {n, processors, ordered, processor, start}
  open U.store use {C, shared, is_finished, output_of, job, own, finish, keep}

  busy_none : (x : ℕ) (l : Own) (i : ℕ) → x ≢ suc i → busy U x l i ≡ waiting
  busy_none x l i d = rw (ne_eqb x (suc i) d)

  pub record Ok (c : C) : Type 0 where
    pub room : G.apart.Room c
    pub beyond : (j : ℕ) → n ≤ j → is_finished c j ≡ false
    pub here : (p j : ℕ) → job c p ≡ suc j → (j < n) × (processor j ≡ p) × (is_finished c j ≡ false)

  -- job j is placed: it had not finished, it is of processor p, and p does nothing else
  module _ (c : C) (k : Ok c) (p j : ℕ) (l : Own) (s : State) (jn : j < n) (jp : processor j ≡ p) (jm : is_finished c j ≡ false)
      (free : (i : ℕ) → i ≢ j → job c p ≢ suc i) where
    there : p < processors
    there = omega (arith, G.checked.on j jn, jp)

    -- a job but j is on its processor what it was
    busy_other : (c' : C) (x : ℕ) → job c' p ≡ x → ((i : ℕ) → i ≢ j → x ≢ suc i)
        → ((q : ℕ) → q ≢ p → job c' q ≡ job c q) → ((q : ℕ) → q ≢ p → own c' q ≡ own c q)
        → (i : ℕ) → i ≢ j → busy U (job c' (processor i)) (own c' (processor i)) i ≡ busy U (job c (processor i)) (own c (processor i)) i
    busy_other c' x e f g h i d = elim (ℕ_discrete (processor i) p) [
      | no a ↦ rw (g (processor i) a, h (processor i) a)
      | yes a ↦ rw (a, e) (busy_none x (own c' p) i (f i d) ∙ sym (busy_none (job c p) (own c p) i (free i d)))
    ]

    place_others : (i : ℕ) → i ≢ j → status U (place U p j l s c) i ≡ status U c i
    place_others i d = split (ended j l)
        (λ e. rw (
          e,
          G.apart.finish_others p j (output j l) s c i d,
          G.apart.finish_outputs p j (output j l) s c i d,
          busy_other (finish p j (output j l) s c) 0 (G.apart.finish_job p j (output j l) s c there k.room) (λ a b x. omega arith)
              (G.apart.finish_jobs p j (output j l) s c) (G.apart.finish_owns p j (output j l) s c) i d,
        ))
        (λ e. rw (
          e,
          G.apart.keep_finished p j l s c i,
          G.apart.keep_outputs p j l s c i,
          busy_other (keep p j l s c) (suc j) (G.apart.keep_job p j l s c there k.room) (λ a b x. b (omega arith))
              (G.apart.keep_jobs p j l s c) (G.apart.keep_owns p j l s c) i d,
        ))

    place_becomes : status U (place U p j l s c) j ≡ cond (ended j l) (finished (output j l)) (running l)
    place_becomes = split (ended j l)
        (λ e. rw (e, G.apart.finish_this p j (output j l) s c jn k.room, G.apart.finish_output p j (output j l) s c jn k.room))
        (λ e. rw (
          e,
          G.apart.keep_finished p j l s c j,
          jm,
          jp,
          G.apart.keep_job p j l s c there k.room,
          eq-eqb (suc j) (suc j) refl,
          G.apart.keep_own p j l s c there k.room,
        ))

    place_shared : shared (place U p j l s c) ≡ s
    place_shared = split (ended j l) (λ e. rw (e, G.apart.finish_shared p j (output j l) s c)) (λ e. rw (e, G.apart.keep_shared p j l s c))

    place_ok : Ok (place U p j l s c)
    place_ok = split (ended j l)
        (λ e. rw e (record {
          room = G.apart.finish_room p j (output j l) s c k.room;
          beyond = λ i h. G.apart.finish_others p j (output j l) s c i (omega arith) ∙ k.beyond i h;
          here = λ q i x. elim (ℕ_discrete q p) [
            | yes y ↦ absurd (omega (arith, G.apart.finish_job p j (output j l) s c there k.room, rw y at x))
            | no y ↦
                let old : (i < n) × (processor i ≡ q) × (is_finished c i ≡ false) = k.here q i (sym (G.apart.finish_jobs p j (output j l) s c q y) ∙ x) in
                (old.0, old.1, G.apart.finish_others p j (output j l) s c i (λ z. y (sym old.1 ∙ ap processor z ∙ jp)) ∙ old.2)
          ];
        }))
        (λ e. rw e (record {
          room = G.apart.keep_room p j l s c k.room;
          beyond = λ i h. G.apart.keep_finished p j l s c i ∙ k.beyond i h;
          here = λ q i x. elim (ℕ_discrete q p) [
            | yes y ↦
                let z : i ≡ j = omega (arith, G.apart.keep_job p j l s c there k.room, rw y at x) in
                rw (z, y) (jn, jp, G.apart.keep_finished p j l s c j ∙ jm)
            | no y ↦
                let old : (i < n) × (processor i ≡ q) × (is_finished c i ≡ false) = k.here q i (sym (G.apart.keep_jobs p j l s c q y) ∙ x) in
                (old.0, old.1, G.apart.keep_finished p j l s c i ∙ old.2)
          ];
        }))

  is_finished_fin : (c : C) (j : ℕ) → is_finished c j ≡ true → is_fin (status U c j) ≡ true
  is_finished_fin c j e = rw e

  ready_all : (c : C) (j : ℕ) → j < n → ready U c j ≡ true → (i : ℕ) → G.machine.precedes i j → is_finished c i ≡ true
  ready_all c j h e i p = implies (ordered i j) (is_finished c i) (all_true n (past U c j) e i (omega (arith, G.checked.lower i j h p))) (G.checked.tested i j h p)

  next_passes : (p : ℕ) (c : C) (j : ℕ) → (eqb (processor j) p && not (is_finished c j)) ≡ true → (processor j ≡ p) × (is_finished c j ≡ false)
  next_passes p c j e =
      (eqb-true (processor j) p (both (eqb (processor j) p) (not (is_finished c j)) e).0, not-true (is_finished c j) (both (eqb (processor j) p) (not (is_finished c j)) e).1)

  -- the frame starts U from the shared state s₀, or from one that looks the same
  module _ (s₀ : State) where
    -- what a turn that works does, as `Interleaving` has it
    pub data Did (c c' : C) : Type 0 where
      began : (j : ℕ) → j < n → Interleaving.Begin (system G.machine s₀) (seen U c) (seen U c') j → Did c c'
      acted : (j : ℕ) (l : Own) → j < n → Interleaving.Act (system G.machine s₀) (seen U c) (seen U c') j l → Did c c'

    module _ (c : C) (k : Ok c) (p : ℕ) where
      did_start : job c p ≡ 0 → (x : ℕ) → Picked (λ j. eqb (processor j) p && not (is_finished c j)) (order U) n x → can U c x ≡ true
          → Did c (starts U p c x) × Ok (starts U p c x)
      did_start e zero q t = clash t refl
      did_start e (suc j) q t =
          let h : (processor j ≡ p) × (is_finished c j ≡ false) = next_passes p c j q.passes in
          let free : (i : ℕ) → i ≢ j → job c p ≢ suc i = λ i d z. omega arith in
          rw t (
            began j q.below (record {
              idle = rw (h.1, h.0) (busy_none (job c p) (own c p) j (λ z. omega arith));
              ready = λ i r. is_finished_fin c i (ready_all c j q.below t i r);
              others = place_others c k p j (first j) (shared c) q.below h.0 h.1 free;
              becomes = place_becomes c k p j (first j) (shared c) q.below h.0 h.1 free;
              same = place_shared c k p j (first j) (shared c) q.below h.0 h.1 free;
            }),
            place_ok c k p j (first j) (shared c) q.below h.0 h.1 free,
          )

      did_turn : (x : ℕ) → job c p ≡ x → works_at U p c x ≡ true → Did c (goes_on U p c x) × Ok (goes_on U p c x)
      did_turn zero e t = did_start e (next U p c) (pick_is (λ j. eqb (processor j) p && not (is_finished c j)) (order U) n) t
      did_turn (suc j) e t =
          let h : (j < n) × (processor j ≡ p) × (is_finished c j ≡ false) = k.here p j e in
          let l : Own = own c p in
          let l' : Own = next_own j l (shared c) in
          let s' : State = next_state j l (shared c) in
          let free : (i : ℕ) → i ≢ j → job c p ≢ suc i = λ i d z. omega arith in (
            acted j l h.0 (record {
              under = rw (h.2, h.1, e, eq-eqb (suc j) (suc j) refl);
              others = place_others c k p j l' s' h.0 h.1 h.2 free;
              becomes = place_becomes c k p j l' s' h.0 h.1 h.2 free;
              moved = place_shared c k p j l' s' h.0 h.1 h.2 free;
            }),
            place_ok c k p j l' s' h.0 h.1 h.2 free,
          )

    pub did : (c : C) → Ok c → (p : ℕ) → works U p c ≡ true → Did c (turn U p c) × Ok (turn U p c)
    did c k p t = did_turn c k p (job c p) refl t

    -- what holds in every state of a frame
    pub record Sound (c : C) : Type 0 where
      pub ok : Ok c
      pub inv : Interleaving.Inv (system G.machine s₀) (seen U c)

    sound_did : (c c' : C) → Sound c → Did c c' → Ok c' → Sound c'
    sound_did c c' v (began j h b) k = record { ok = k; inv = inv_begin (system G.machine s₀) (seen U c) (seen U c') j b v.inv }
    sound_did c c' v (acted j l h a) k = record { ok = k; inv = inv_act (system G.machine s₀) (seen U c) (seen U c') j l a v.inv }

    pub sound_turn : (p : ℕ) (c : C) → Sound c → Sound (turn U p c)
    sound_turn p c v = split (works U p c)
        (λ t. sound_did c (turn U p c) v (did c v.ok p t).0 (did c v.ok p t).1)
        (λ t. rw (idle U p c t) v)

    -- the start of a frame
    pub record Fresh (c : C) : Type 0 where
      pub room : G.apart.Room c
      pub unmarked : (j : ℕ) → is_finished c j ≡ false
      pub idle_all : (p : ℕ) → job c p ≡ 0
      pub same : (r : Place) → view r (shared c) ≡ view r s₀

    pub fresh_waits : (c : C) → Fresh c → (j : ℕ) → status U c j ≡ waiting
    fresh_waits c f j = rw (f.unmarked j, f.idle_all (processor j)) (busy_none 0 (own c (processor j)) j (λ z. omega arith))

    pub sound_fresh : (c : C) → Fresh c → Sound c
    sound_fresh c f = record {
      ok = record {
        room = f.room;
        beyond = λ j h. f.unmarked j;
        here = λ p j e. absurd (omega (arith, f.idle_all p));
      };
      inv = inv_start (system G.machine s₀) (seen U c) (fresh_waits c f) f.same;
    }

    -- a finished job's output is the one that the zero-delay run gives
    pub finished_output : (c : C) → Sound c → (j : ℕ) → is_finished c j ≡ true → output_of c j ≡ zero_output U.steps s₀ j
    finished_output c v j e = (inv_determined (system G.machine s₀) (seen U c) v.inv).outputs j (output_of c j) (rw e)

    -- when all jobs have finished, every place is as the zero-delay run leaves it
    pub final_state : (c : C) → Sound c → ((j : ℕ) → j < n → is_finished c j ≡ true) → (r : Place) → view r (shared c) ≡ view r (zero_delay_state U.steps s₀ n)
    final_state c v f = (inv_determined (system G.machine s₀) (seen U c) v.inv).final n (λ j h. is_finished_fin c j (f j h))
        (λ j h. rw (v.ok.beyond j h) (ap is_wait (busy_none (job c (processor j)) (own c (processor j)) j (λ z. omega (arith, (v.ok.here (processor j) j z).0)))))
