-- Taking the jobs of one time: as often as jobs are pending is often enough, whatever the relation.
use Prim.Native.Nat.{ℕ, zero, suc, ◌+◌, ◌-◌, ◌≤◌, ◌<◌}
use mathlib.Core.Path.{◌≡◌, refl, sym, ap, subst, ◌∙◌}
use mathlib.Core.Bool.{Bool, true, not, ◌&&◌}
use mathlib.Core.List.{List, [], ◌∷◌}
use native.Mathlib.Decide.{ℕ_discrete}
use native.Mathlib.Omega.{arith}
use lib.ListN.{length, get_or, length-set}
use lib.Seq.{get_or-set_same, get_or-set_other}
use lib.Dec.{ltb}
use borrow.Author.Tests.{ltb-true, lt-ltb, le-ltb}
use Rattle.reply.specs.Tests.{both}
use Rattle.reply.specs.AllAny.{any_same}
use Rattle.reply.specs.Counts.{sum_one_less}
use Rattle.reply.specs.First.{First, first_is, first_only}
use Rattle.network.specs.Chains.{Relation, holds}
use Rattle.graph.specs.Sequence.{is_pending, is_free, next_free, taken, take_jobs, pending_count}

first_next : (ahead : Relation) (pending : List ℕ) → First (is_free ahead pending) 0 (0 + length pending) (next_free ahead pending)
unfolding next_free
first_next ahead pending = first_is (length pending) (is_free ahead pending)

-- where the same processes are pending, the same are free
free_cong : (ahead : Relation) (a b : List ℕ) → length a ≡ length b → ((q : ℕ) → is_pending a q ≡ is_pending b q) → (p : ℕ) → is_free ahead a p ≡ is_free ahead b p
unfolding is_free
free_cong ahead a b size same p =
    rw (same p, size)
    (ap (λ (t : Bool). is_pending b p && not t)
    (any_same (length b) (λ q. is_pending a q && holds ahead q p) (λ q. is_pending b q && holds ahead q p) (λ q l. rw (same q))))

module _ (ahead : Relation) (pending : List ℕ) where
  pub next_is : First (is_free ahead pending) 0 (0 + length pending) (next_free ahead pending)
  next_is = first_next ahead pending

  free_pending : (p : ℕ) → is_free ahead pending p ≡ true → 0 < get_or pending p 0
  unfolding is_free
  free_pending p e = ltb-true 0 (get_or pending p 0) (both (is_pending pending p) _ e).0

  -- a free process is pending
  pub next_pending : (p : ℕ) → p ≡ next_free ahead pending → p < length pending → 0 < get_or pending p 0
  next_pending p e h = free_pending p (subst (λ x. is_free ahead pending x ≡ true) (sym e) (next_is.passes (omega arith)))

  -- with a job taken, one job less is pending
  pub taken_less : (p : ℕ) → p < length pending → 0 < get_or pending p 0 → pending_count pending ≡ suc (pending_count (taken pending p))
  taken_less p h l =
      let own : get_or (taken pending p) p 0 ≡ get_or pending p 0 - 1 = get_or-set_same pending p (get_or pending p 0 - 1) 0 h in
      let size : length (taken pending p) ≡ length pending = length-set pending p (get_or pending p 0 - 1) in
      rw size (omega (
        arith,
        sum_one_less (length pending) (λ q. get_or pending q 0) (λ q. get_or (taken pending p) q 0) p h (omega arith)
            (λ q d. get_or-set_other pending p q (get_or pending p 0 - 1) 0 d),
      ))

  -- where a process is free, the smallest is taken
  pub take_next : (p : ℕ) → p ≡ next_free ahead pending → p < length pending
      → take_jobs (pending_count pending) ahead pending ≡ p ∷ take_jobs (pending_count (taken pending p)) ahead (taken pending p)
  unfolding take_jobs
  take_next p e h =
      let less : pending_count pending ≡ suc (pending_count (taken pending p)) = taken_less p h (next_pending p e h) in
      ap (λ (k : ℕ). take_jobs k ahead pending) less ∙ rw (sym e, lt-ltb p (length pending) h)

  -- where none is free, none is taken
  pub take_none : length pending ≤ next_free ahead pending → (left : ℕ) → take_jobs left ahead pending ≡ []
  unfolding take_jobs
  take_none h zero = refl
  take_none h (suc left) = rw (le-ltb (next_free ahead pending) (length pending) h)

  -- as long as it has more jobs, the process that is taken stays the next
  pub next_stays : (p : ℕ) → p ≡ next_free ahead pending → p < length pending → 1 < get_or pending p 0 → p ≡ next_free ahead (taken pending p)
  next_stays p e h more =
      first_only (is_free ahead (taken pending p)) 0 (0 + length (taken pending p)) p (next_free ahead (taken pending p))
      (subst (λ x. First (is_free ahead (taken pending p)) 0 x p) (ap (λ (k : ℕ). 0 + k) (sym size)) (record {
        from = omega arith;
        to = omega arith;
        before = λ k a b. same k ∙ next_is.before k a (omega arith);
        passes = λ l. same p ∙ subst (λ x. is_free ahead pending x ≡ true) (sym e) (next_is.passes (omega arith));
      }))
      (first_next ahead (taken pending p))
    where
      size : length (taken pending p) ≡ length pending
      size = length-set pending p (get_or pending p 0 - 1)

      still : (q : ℕ) → is_pending (taken pending p) q ≡ is_pending pending q
      still q = elim (ℕ_discrete q p) [
        | yes z ↦
            subst (λ x. is_pending (taken pending p) x ≡ is_pending pending x) (sym z)
            (ap (λ (k : ℕ). ltb 0 k) (get_or-set_same pending p (get_or pending p 0 - 1) 0 h)
            ∙ lt-ltb 0 (get_or pending p 0 - 1) (omega arith) ∙ sym (lt-ltb 0 (get_or pending p 0) (omega arith)))
        | no d ↦ ap (λ (k : ℕ). ltb 0 k) (get_or-set_other pending p q (get_or pending p 0 - 1) 0 d)
      ]

      same : (q : ℕ) → is_free ahead (taken pending p) q ≡ is_free ahead pending q
      same q = free_cong ahead (taken pending p) pending size still q
