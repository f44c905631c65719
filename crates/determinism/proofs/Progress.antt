-- Progress of a frame run in turns: while a job is left, some processor's turn works; and the turns that work are bounded.
use Rattle.std.specs.Prelude.{ℕ, zero, suc, ◌*◌, ◌≤◌, ◌<◌, ◌≡◌, refl, Bool, true, false, cond, not, ◌&&◌, eqb}
use Rattle.std.proofs.Common.{ap, subst, arith, eq-eqb}
use mathlib.Core.List.{List, Memᴰ}
use Rattle.std.proofs.Math.Decide.{dec_lt}
use Rattle.reply.specs.Tools.{sum}
use Rattle.reply.specs.Tests.{split, clash}
use Rattle.reply.specs.AllAny.{all_make}
use Rattle.reply.specs.Pick.{Picked, Lowest, pick_is, picked, some_picked}
use Rattle.determinism.specs.Interleaving.{Shape, Status, waiting, running, finished}
use Rattle.determinism.specs.Interleaving
use Rattle.determinism.specs.Jobs.{system}
use Rattle.determinism.specs.Setup.{Setup, Lawful, past, order, next, turn, can, works_at, works, idle, status}
use Rattle.determinism.proofs.Turns.{Sound, Fresh, Did, began, acted, did, sound_turn, sound_fresh, fresh_waits}
use Rattle.determinism.specs.Runs.{run, worked, unchanged, works_once, bounded, sum_less, sum_most}

module _ {K : Shape} (U : Setup K) (G : Lawful U) where
  open K use {State, Own, Output}
  open U.steps use {first, ended, output, next_own, left}
  open U.plan use {n, processors, ordered, processor, start}
  open U.store use {C, shared, is_finished, job}

  -- of the jobs that have not finished, m has the least planned start: its processor's turn works
  module _ (c : C) (m : ℕ) (b : Lowest (λ i. not (is_finished c i)) start n m) where
    abbrev candidate : ℕ → Bool
    candidate j = eqb (processor j) (processor m) && not (is_finished c j)

    itself : candidate m ≡ true
    itself = rw (eq-eqb (processor m) (processor m) refl, b.passes)

    live_next : (x : ℕ) → Picked candidate (order U) n x → can U c x ≡ true
    live_next zero f = clash itself (f m b.below)
    live_next (suc j) q = all_make n (past U c j) (λ i h. split (ordered i j)
        (λ t. rw t (split (is_finished c i) (λ u. u)
        (λ u. absurd (omega (arith, G.checked.early i j q.below t, q.least m b.below itself, b.least i h (ap not u))))))
        (λ t. rw t))

    live_at : (x : ℕ) → works_at U (processor m) c x ≡ true
    live_at zero = live_next (next U (processor m) c) (pick_is candidate (order U) n)
    live_at (suc j) = refl

  -- while a job is left, some processor's turn works
  pub live : (c : C) (j : ℕ) → j < n → is_finished c j ≡ false → (q : ℕ) × (q < processors) × (works U q c ≡ true)
  live c j h u =
      let (m, e) = some_picked (λ i. not (is_finished c i)) start n j h (ap not u) in
      let b : Lowest (λ i. not (is_finished c i)) start n m = picked (λ i. not (is_finished c i)) start n m e in
      (processor m, G.checked.on m b.below, live_at c m b (job c (processor m)))

  -- turns that name every processor, with a job left at their end
  pub stretch : (ps : List ℕ) (c : C) → ((q : ℕ) → q < processors → Memᴰ q ps)
      → (j : ℕ) → j < n → is_finished (run (turn U) (works U) (idle U) ps c) j ≡ false → 0 < worked (turn U) (works U) (idle U) ps c
  stretch ps c every j h u = elim (dec_lt 0 (worked (turn U) (works U) (idle U) ps c)) [
    | yes w ↦ w
    | no w ↦
        let e : run (turn U) (works U) (idle U) ps c ≡ c = unchanged (turn U) (works U) (idle U) ps c (omega arith) in
        let (q, b, t) = live c j h (subst (λ x. is_finished x j ≡ false) e u) in
        works_once (turn U) (works U) (idle U) ps c q (every q b) t
  ]

  -- a job works once when it starts, and once for each step: the working turns that it has left
  abbrev pub weight : ℕ → Status Own Output → ℕ
  weight j waiting = suc (left j (first j))
  weight j (running l) = left j l
  weight j (finished o) = 0

  abbrev pub size : C → ℕ
  size c = sum n (λ j. weight j (status U c j))

  weight_settle : (j : ℕ) (l : Own) → weight j (cond (ended j l) (finished (output j l)) (running l)) ≤ left j l
  weight_settle j l = split (ended j l) (λ e. rw e (omega arith)) (λ e. rw e (omega arith))

  module _ (s₀ : State) where
    pub size_did : (c c' : C) → Sound U G s₀ c → Did U G s₀ c c' → size c' < size c
    size_did c c' v (began j h b) =
        sum_less n (λ i. weight i (status U c i)) (λ i. weight i (status U c' i)) j h (λ i d. ap (weight i) (b.others i d))
        (rw (b.becomes, b.idle) (omega (arith, weight_settle j (first j))))
    size_did c c' v (acted j l h a) =
        let more : ended j l ≡ false = (subst (λ t. Interleaving.Fine (system G.machine s₀) j t (shared c)) a.under (v.inv.fine j)).0 in
        sum_less n (λ i. weight i (status U c i)) (λ i. weight i (status U c' i)) j h (λ i d. ap (weight i) (a.others i d))
        (rw (a.becomes, a.under) (omega (arith, weight_settle j (next_own j l (shared c)), G.machine.left_step j l (shared c) more)))

    pub size_less : (c : C) → Sound U G s₀ c → (p : ℕ) → works U p c ≡ true → size (turn U p c) < size c
    size_less c v p t = size_did c (turn U p c) v (did U G s₀ c v.ok p t).0

    -- jobs of at most b steps: a frame takes at most b + 1 working turns for each
    pub at_most : (b : ℕ) → ((j : ℕ) → j < n → left j (first j) ≤ b) → (c : C) → Fresh U G s₀ c → (ps : List ℕ)
        → worked (turn U) (works U) (idle U) ps c ≤ n * suc b
    at_most b h c f ps =
        let most : size c ≤ n * suc b = sum_most n (λ j. weight j (status U c j)) (suc b) (λ j a. rw (fresh_waits U G s₀ c f j) (omega (arith, h j a))) in
        omega (
          arith,
          most,
          bounded (turn U) (works U) (idle U) (Sound U G s₀) size (λ p a v. sound_turn U G s₀ p a v) (λ p a v w. size_less a v p w) ps c (sound_fresh U G s₀ c f),
        )
