-- Of the processes released together: while any is pending one of them is free, so that none is left over; and what comes before another is taken first.
-- Besides, what a loop that takes the jobs needs: where nothing is pending it stops, and more steps would take no more.
use Rattle.std.specs.Prelude.{ℕ, zero, suc, ◌+◌, ◌-◌, ◌<◌, ◌≡◌, refl, ◌≢◌, Bool, true, false, cond, ◌&&◌, List, [], ◌∷◌, eqb, length, get_or}
use Rattle.std.proofs.Common.{sym, ap, subst, ◌∙◌, arith, length-set, get_or-set_same, get_or-set_other}
use Rattle.std.proofs.Math.Decide.{dec_lt, ℕ_discrete}
use Rattle.std.proofs.Math.ListN.{get_or-eq_default}
use borrow.Author.Tests.{ltb-true, lt-ltb, le-ltb, not-true, eq-eqb, ne_eqb}
use Rattle.reply.specs.Tools.{any}
use Rattle.reply.specs.Tests.{split, clash, both, both_true}
use Rattle.reply.specs.AllAny.{any_make, any_none}
use Rattle.reply.specs.Counts.{sum_each, sum_some, sum_one_less}
use Rattle.reply.specs.First.{first_is, first_found, first_past}
use Rattle.reply.specs.Pick.{Lowest, picked, some_picked}
use Rattle.network.specs.Chains.{Relation, holds}
use Rattle.graph.specs.Sequence.{is_pending, is_free, next_free, taken, take_jobs, pending_count}
use Rattle.graph.specs.OrderLaws.{Ranked}
use Rattle.graph.specs.Elements.{Each, Two, each_none, each_cons, two_none, two_cons, tally, tally_nil, tally_cons}

-- ---- what is pending

module _ (pending : List ℕ) where
  -- a process with jobs pending is one of the list
  pub pending_below : (p : ℕ) → 0 < get_or pending p 0 → p < length pending
  pending_below p h = elim (dec_lt p (length pending)) [
    | yes k ↦ k
    | no k ↦ absurd (omega (arith, get_or-eq_default pending 0 {n = p} (omega arith)))
  ]

  -- none in all is none of each
  pub none_pending : pending_count pending ≡ 0 → (p : ℕ) → get_or pending p 0 ≡ 0
  none_pending e p = elim (dec_lt p (length pending)) [
    | yes h ↦ omega (arith, sum_each (length pending) (λ p. get_or pending p 0) p h)
    | no h ↦ get_or-eq_default pending 0 {n = p} (omega arith)
  ]

  -- one job of p is taken: p has one less, and every other process as many
  module _ (p : ℕ) (some : 0 < get_or pending p 0) where
    taken_own : get_or (taken pending p) p 0 ≡ get_or pending p 0 - 1
    taken_own = get_or-set_same pending p (get_or pending p 0 - 1) 0 (pending_below p some)

    taken_other : (x : ℕ) → x ≢ p → get_or (taken pending p) x 0 ≡ get_or pending x 0
    taken_other x d = get_or-set_other pending p x (get_or pending p 0 - 1) 0 d

    pub taken_at : (x : ℕ) → cond (eqb p x) 1 0 + get_or (taken pending p) x 0 ≡ get_or pending x 0
    taken_at x = elim (ℕ_discrete p x) [
      | yes z ↦ subst (λ y. cond (eqb p y) 1 0 + get_or (taken pending p) y 0 ≡ get_or pending y 0) z (rw (eq-eqb p p refl) (omega (arith, taken_own)))
      | no d ↦ rw (ne_eqb p x d) (omega (arith, taken_other x (λ y. d (sym y))))
    ]

    pub taken_count : pending_count pending ≡ pending_count (taken pending p) + 1
    taken_count =
        rw (length-set pending p (get_or pending p 0 - 1))
        (sum_one_less (length pending) (λ q. get_or pending q 0) (λ q. get_or (taken pending p) q 0) p (pending_below p some) (omega (arith, taken_own)) taken_other)

    -- what is pending then was pending before
    pub still_pending : (x : ℕ) → 0 < get_or (taken pending p) x 0 → 0 < get_or pending x 0
    still_pending x h = omega (arith, taken_at x)

-- ---- what is free

module _ (ahead : Relation) (pending : List ℕ) where
  abbrev waits : ℕ → ℕ → Bool
  waits p q = is_pending pending q && holds ahead q p

  free_make : (p : ℕ) → is_pending pending p ≡ true → ((q : ℕ) → q < length pending → is_pending pending q ≡ true → holds ahead q p ≡ false)
      → is_free ahead pending p ≡ true
  unfolding is_free
  free_make p t f = rw (t, any_none (length pending) (waits p) (λ q h. split (is_pending pending q) (λ u. rw (u, f q h u)) (λ u. rw u)))

  pub free_pending : (p : ℕ) → is_free ahead pending p ≡ true → 0 < get_or pending p 0
  unfolding is_free
  free_pending p e = ltb-true 0 (get_or pending p 0) (both (is_pending pending p) _ e).0

  -- no pending process comes before a free one
  pub free_first : (p : ℕ) → is_free ahead pending p ≡ true → (q : ℕ) → 0 < get_or pending q 0 → holds ahead q p ≡ false
  unfolding is_free
  free_first p e q h = split (holds ahead q p)
      (λ t. clash
      (any_make (length pending) (waits p) q (pending_below pending q h) (both_true _ _ (lt-ltb 0 (get_or pending q 0) h) t))
      (not-true (any (length pending) (waits p)) (both (is_pending pending p) _ e).1))
      (λ t. t)

  -- where nothing is pending, nothing is free
  pub none_free : pending_count pending ≡ 0 → (p : ℕ) → is_free ahead pending p ≡ false
  unfolding is_free
  none_free e p = rw (le-ltb 0 (get_or pending p 0) (omega (arith, none_pending pending e p)))

  pub none_first : pending_count pending ≡ 0 → next_free ahead pending ≡ length pending
  unfolding next_free
  none_first e = first_past (length pending) (is_free ahead pending) (λ p h. none_free e p)

  pub next_found : (p : ℕ) → p < length pending → is_free ahead pending p ≡ true
      → (next_free ahead pending < length pending) × (is_free ahead pending (next_free ahead pending) ≡ true)
  unfolding next_free
  next_found p h e = first_found (length pending) (is_free ahead pending) p h e

  pub next_smallest : (i : ℕ) → i < next_free ahead pending → is_free ahead pending i ≡ false
  unfolding next_free
  next_smallest i h = (first_is (length pending) (is_free ahead pending)).before i (omega arith) h

  -- the first step, where a process is free
  pub take_more : (fuel : ℕ) → next_free ahead pending < length pending
      → take_jobs (suc fuel) ahead pending ≡ next_free ahead pending ∷ take_jobs fuel ahead (taken pending (next_free ahead pending))
  unfolding take_jobs
  take_more fuel h = rw (lt-ltb (next_free ahead pending) (length pending) h)

-- what the next step takes, with `left` jobs pending after it
pub record Next (ahead : Relation) (pending : List ℕ) (left : ℕ) : Type 0 where
  pub below : next_free ahead pending < length pending
  pub free : is_free ahead pending (next_free ahead pending) ≡ true
  pub smallest : (i : ℕ) → i < next_free ahead pending → is_free ahead pending i ≡ false
  pub some : 0 < get_or pending (next_free ahead pending) 0
  pub rest : pending_count (taken pending (next_free ahead pending)) ≡ left
  pub is : (fuel : ℕ) → take_jobs (suc fuel) ahead pending ≡ next_free ahead pending ∷ take_jobs fuel ahead (taken pending (next_free ahead pending))

-- where nothing is pending, nothing is taken, however many steps are left
pub take_none : (fuel : ℕ) (ahead : Relation) (pending : List ℕ) → pending_count pending ≡ 0 → take_jobs fuel ahead pending ≡ []
unfolding take_jobs
take_none zero ahead pending e = refl
take_none (suc fuel) ahead pending e = rw (none_first ahead pending e, le-ltb (length pending) (length pending) (omega arith))

module _ (ahead : Relation) (R : Ranked ahead) where
  -- where a process is pending, one of them is free: the one of lowest rank
  pub some_free : (pending : List ℕ) (i : ℕ) → 0 < get_or pending i 0 → (p : ℕ) × (p < length pending) × (is_free ahead pending p ≡ true)
  some_free pending i h =
      let (p, e) = some_picked (is_pending pending) R.rank (length pending) i (pending_below pending i h) (lt-ltb 0 (get_or pending i 0) h) in
      let L : Lowest (is_pending pending) R.rank (length pending) p = picked (is_pending pending) R.rank (length pending) p e in (
        p,
        L.below,
        free_make ahead pending p L.passes (λ q hq t. split (holds ahead q p)
            (λ u. absurd (omega (arith, R.rises q p u, L.least q hq t)))
            (λ u. u)),
      )

  pub take_step : (left : ℕ) (pending : List ℕ) → pending_count pending ≡ suc left → Next ahead pending left
  take_step left pending e =
      let (i, h, l) = sum_some (length pending) (λ p. get_or pending p 0) (omega arith) in
      let (p, hp, f) = some_free pending i l in
      let (lower, free) = next_found ahead pending p hp f in
      let some : 0 < get_or pending (next_free ahead pending) 0 = free_pending ahead pending (next_free ahead pending) free in
      record {
        below = lower;
        free = free;
        smallest = next_smallest ahead pending;
        some = some;
        rest = omega (arith, taken_count pending (next_free ahead pending) some);
        is = λ fuel. take_more ahead pending fuel lower;
      }

  -- none is left over: as many jobs are taken as are pending
  pub take_length : (left : ℕ) (pending : List ℕ) → pending_count pending ≡ left → length (take_jobs left ahead pending) ≡ left
  take_length zero pending e = rw (take_none 0 ahead pending e)
  take_length (suc left) pending e =
      let t : Next ahead pending left = take_step left pending e in
      rw (t.is left) (ap suc (take_length left (taken pending (next_free ahead pending)) t.rest))

  -- each process is taken as often as it has jobs pending
  pub take_occurs : (left : ℕ) (pending : List ℕ) → pending_count pending ≡ left → (x : ℕ) → tally (λ y. eqb y x) (take_jobs left ahead pending) ≡ get_or pending x 0
  take_occurs zero pending e x = rw (take_none 0 ahead pending e) (tally_nil (λ y. eqb y x) ∙ sym (none_pending pending e x))
  take_occurs (suc left) pending e x =
      let t : Next ahead pending left = take_step left pending e in
      let p : ℕ = next_free ahead pending in
      rw (t.is left)
      (tally_cons (λ y. eqb y x) p (take_jobs left ahead (taken pending p))
      ∙ rw (take_occurs left (taken pending p) t.rest x) (taken_at pending p t.some x))

  -- only pending processes are taken
  pub take_pending : (left : ℕ) (pending : List ℕ) → pending_count pending ≡ left → Each (λ x. 0 < get_or pending x 0) 0 (take_jobs left ahead pending)
  take_pending zero pending e = rw (take_none 0 ahead pending e) (each_none (λ x. 0 < get_or pending x 0) 0)
  take_pending (suc left) pending e =
      let t : Next ahead pending left = take_step left pending e in
      let p : ℕ = next_free ahead pending in
      let later : Each (λ x. 0 < get_or (taken pending p) x 0) 0 (take_jobs left ahead (taken pending p)) = take_pending left (taken pending p) t.rest in
      rw (t.is left) (each_cons (λ x. 0 < get_or pending x 0) 0 p _ t.some (record { at = λ i l. still_pending pending p t.some _ (later.at i l) }))

  -- what comes before another is taken first
  pub take_ordered : (left : ℕ) (pending : List ℕ) → pending_count pending ≡ left → Two (λ x y. holds ahead y x ≡ false) 0 (take_jobs left ahead pending)
  take_ordered zero pending e = rw (take_none 0 ahead pending e) (two_none (λ x y. holds ahead y x ≡ false) 0)
  take_ordered (suc left) pending e =
      let t : Next ahead pending left = take_step left pending e in
      let p : ℕ = next_free ahead pending in
      let later : Each (λ x. 0 < get_or (taken pending p) x 0) 0 (take_jobs left ahead (taken pending p)) = take_pending left (taken pending p) t.rest in
      rw (t.is left) (two_cons (λ x y. holds ahead y x ≡ false) 0 p _
      (record { at = λ i l. free_first ahead pending p t.free _ (still_pending pending p t.some _ (later.at i l)) })
      (take_ordered left (taken pending p) t.rest))

  -- more steps than jobs pending take no more
  pub take_fuel : (left more : ℕ) (pending : List ℕ) → pending_count pending ≡ left → take_jobs (left + more) ahead pending ≡ take_jobs left ahead pending
  take_fuel zero more pending e = take_none (0 + more) ahead pending e ∙ sym (take_none 0 ahead pending e)
  take_fuel (suc left) more pending e =
      let z : suc left + more ≡ suc (left + more) = omega arith in
      let t : Next ahead pending left = take_step left pending e in
      let p : ℕ = next_free ahead pending in
      rw z (t.is (left + more) ∙ ap (λ (l : List ℕ). p ∷ l) (take_fuel left more (taken pending p) t.rest) ∙ sym (t.is left))
