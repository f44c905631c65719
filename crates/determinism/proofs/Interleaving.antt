-- The proofs about interleaved jobs: what holds at the start holds after every step, and so every interleaving is determined.
use Rattle.std.specs.Prelude.{ℕ, zero, suc, ◌≤◌, ◌<◌, ◌≡◌, refl, ◌≢◌, Bool, true, false, cond}
use Rattle.std.proofs.Common.{sym, ap, subst, ◌∙◌, arith}
use Rattle.std.proofs.Math.Decide.{ℕ_discrete, dec_lt}
use Rattle.reply.specs.Tests.{split, clash}
use Rattle.determinism.specs.Interleaving.{Shape, System, Turn, Status, waiting, running, finished, is_wait, is_fin, settle, Begin, Act, Good, Fine, Inv, Reach, stay, begin, act, Determined}

module _ {K : Shape} (Y : System K) where
  open K use {State, Own, Output, Place, view}
  open Y use {touches, precedes, first, ended, output, next_own, next_state, rest, rest_output, before}

  -- a resource stays as it is through jobs that do not touch it
  still : (r : Place) (a b : ℕ) → a ≤ b → ((i : ℕ) → a ≤ i → i < b → touches i r ≡ false) → view r (before a) ≡ view r (before b)
  still r a zero h f = ap (λ k. view r (before k)) (omega arith)
  still r a (suc b) h f = elim (dec_lt b a) [
    | yes h' ↦ ap (λ k. view r (before k)) (omega arith)
    | no h' ↦ still r a b (omega arith) (λ i p q. f i p (omega arith)) ∙ sym (ap (view r) (Y.before_next b) ∙ Y.rest_frame b (first b) (before b) r (f b (omega arith) (omega arith)))
  ]

  fine_settle : (j : ℕ) (l : Own) (s : State) → Good Y j l s → Fine Y j (settle Y j l) s
  fine_settle j l s g = go (ended j l) refl
    where
      go : (b : Bool) → ended j l ≡ b → Fine Y j (cond b (finished (output j l)) (running l)) s
      go true e = sym (Y.rest_output_ended j l s e) ∙ g.output
      go false e = (e, g)

  wait_settle : (j : ℕ) (l : Own) → is_wait (settle Y j l) ≡ false
  wait_settle j l = go (ended j l)
    where
      go : (b : Bool) → is_wait {Own = Own} {Output = Output} (cond b (finished (output j l)) (running l)) ≡ false
      go true = refl
      go false = refl

  fin_settle : (j : ℕ) (l : Own) → is_fin (settle Y j l) ≡ true → ended j l ≡ true
  fin_settle j l = go (ended j l)
    where
      go : (b : Bool) → is_fin {Own = Own} {Output = Output} (cond b (finished (output j l)) (running l)) ≡ true → b ≡ true
      go true e = refl
      go false e = e

  fin_wait : (t : Status Own Output) → is_fin t ≡ true → is_wait t ≡ false
  fin_wait waiting e = sym e
  fin_wait (running l) e = refl
  fin_wait (finished o) e = refl

  -- job k goes on to l', in a state that differs only where it touches
  module _ (σ σ' : Turn K) (v : Inv Y σ) (k : ℕ) (l' : Own)
      (others : (i : ℕ) → i ≢ k → σ'.status i ≡ σ.status i)
      (becomes : σ'.status k ≡ settle Y k l')
      (ready : (i : ℕ) → precedes i k → is_fin (σ.status i) ≡ true)
      (unfinished : is_fin (σ.status k) ≡ false)
      (frame : (r : Place) → touches k r ≡ false → view r σ'.shared ≡ view r σ.shared)
      (good : Good Y k l' σ'.shared) where
    keeps : (i : ℕ) → is_fin (σ.status i) ≡ true → is_fin (σ'.status i) ≡ true
    keeps i f = elim (ℕ_discrete i k) [
      | yes e ↦ clash f (rw e unfinished)
      | no n ↦ ap is_fin (others i n) ∙ f
    ]

    -- a job that has started, and is not k, touches nothing of k's unless it has finished before
    apart : (i : ℕ) (r : Place) → i ≢ k → is_wait (σ.status i) ≡ false → is_fin (σ.status i) ≡ false → touches i r ≡ true → touches k r ≡ false
    apart i r n w f t = split (touches k r)
        (λ t'. absurd (elim (dec_lt i k) [
          | yes h ↦ clash (ready i (Y.conflict i k r h t t')) f
          | no h ↦ clash (v.order k i (Y.conflict k i r (omega arith) t' t) w) unfinished
        ]))
        (λ t'. t')

    fine_other : (i : ℕ) → i ≢ k → (t : Status Own Output) → σ.status i ≡ t → Fine Y i t σ.shared → Fine Y i t σ'.shared
    fine_other i n waiting e f = tt
    fine_other i n (finished o) e f = f
    fine_other i n (running l) e f =
        let same : (r : Place) → touches i r ≡ true → view r σ'.shared ≡ view r σ.shared = λ r t. frame r (apart i r n (ap is_wait e) (ap is_fin e) t) in (
          f.0,
          record {
            output = Y.rest_output_local i l σ'.shared σ.shared same ∙ f.1.output;
            states = λ r t. Y.rest_local i l σ'.shared σ.shared same r t ∙ f.1.states r t;
          },
        )

    here_other : (r : Place) (j : ℕ) → touches k r ≡ false
        → ((i : ℕ) → i < j → touches i r ≡ true → is_fin (σ'.status i) ≡ true)
        → ((i : ℕ) → j ≤ i → touches i r ≡ true → is_wait (σ'.status i) ≡ true)
        → view r σ'.shared ≡ view r (before j)
    here_other r j u p q =
        let old : (i : ℕ) → touches i r ≡ true → σ'.status i ≡ σ.status i = λ i t. others i (λ e. clash (rw e at t) u) in
        frame r u ∙ v.here r j (λ i h t. sym (ap is_fin (old i t)) ∙ p i h t) (λ i h t. sym (ap is_wait (old i t)) ∙ q i h t)

    here_own : (r : Place) (j : ℕ) → touches k r ≡ true
        → ((i : ℕ) → i < j → touches i r ≡ true → is_fin (σ'.status i) ≡ true)
        → ((i : ℕ) → j ≤ i → touches i r ≡ true → is_wait (σ'.status i) ≡ true)
        → view r σ'.shared ≡ view r (before j)
    here_own r j u p q = elim (dec_lt k j) [
      | no h ↦ clash (q k (omega arith) u) (ap is_wait becomes ∙ wait_settle k l')
      | yes h ↦
          ap (view r) (sym (Y.rest_ended k l' σ'.shared (fin_settle k l' (sym (ap is_fin becomes) ∙ p k h u))))
          ∙ good.states r u
          ∙ still r (suc k) j h (λ i a b. split (touches i r)
          (λ t. clash (v.order k i (Y.conflict k i r a u t)
          (fin_wait (σ.status i) (sym (ap is_fin (others i (omega arith))) ∙ p i b t))) unfinished)
          (λ t. t))
    ]

    inv_move : Inv Y σ'
    inv_move = record {
      order = λ i j p w. elim (ℕ_discrete j k) [
        | yes e ↦ keeps i (ready i (rw e at p))
        | no n ↦ keeps i (v.order i j p (sym (ap is_wait (others j n)) ∙ w))
      ];
      fine = λ j. elim (ℕ_discrete j k) [
        | yes e ↦ rw (e, becomes) (fine_settle k l' σ'.shared good)
        | no n ↦ rw (others j n) (fine_other j n (σ.status j) refl (v.fine j))
      ];
      here = λ r j p q. split (touches k r) (λ u. here_own r j u p q) (λ u. here_other r j u p q);
    }

  -- the start: nothing has begun, and every resource is as the zero-delay run finds it
  pub inv_start : (σ : Turn K) → ((j : ℕ) → σ.status j ≡ waiting) → ((r : Place) → view r σ.shared ≡ view r (before 0)) → Inv Y σ
  inv_start σ w e = record {
    order = λ i j p n. clash (ap is_wait (w j)) n;
    fine = λ j. rw (w j) tt;
    here = λ r j p q. e r ∙ still r 0 j (omega arith) (λ i a b. split (touches i r)
        (λ t. clash (p i b t) (ap is_fin (w i))) (λ t. t));
  }

  pub inv_begin : (σ σ' : Turn K) (j : ℕ) → Begin Y σ σ' j → Inv Y σ → Inv Y σ'
  inv_begin σ σ' j b v =
      let wf : is_fin (σ.status j) ≡ false = ap is_fin b.idle in
      let agree : (r : Place) → touches j r ≡ true → view r σ'.shared ≡ view r (before j) =
      λ r t. ap (view r) b.same ∙ v.here r j (λ i h u. b.ready i (Y.conflict i j r h u t))
      (λ i h u. elim (ℕ_discrete i j) [
        | yes e ↦ rw e (ap is_wait b.idle)
        | no n ↦ split (is_wait (σ.status i)) (λ x. x)
            (λ x. clash (v.order j i (Y.conflict j i r (omega arith) t u) x) wf)
      ]) in
      inv_move σ σ' v j (first j) b.others b.becomes b.ready wf (λ r u. ap (view r) b.same)
      (record {
        output = Y.rest_output_local j (first j) σ'.shared (before j) agree;
        states = λ r t. Y.rest_local j (first j) σ'.shared (before j) agree r t ∙ sym (ap (view r) (Y.before_next j));
      })

  pub inv_act : (σ σ' : Turn K) (j : ℕ) (l : Own) → Act Y σ σ' j l → Inv Y σ → Inv Y σ'
  inv_act σ σ' j l a v =
      let f : Fine Y j (running l) σ.shared = subst (λ t. Fine Y j t σ.shared) a.under (v.fine j) in
      inv_move σ σ' v j (next_own j l σ.shared) a.others a.becomes (λ i p. v.order i j p (ap is_wait a.under)) (ap is_fin a.under)
      (λ r u. ap (view r) a.moved ∙ Y.step_frame j l σ.shared r u)
      (rw a.moved (record {
        output = Y.rest_output_step j l σ.shared f.0 ∙ f.1.output;
        states = λ r t. ap (view r) (Y.rest_step j l σ.shared f.0) ∙ f.1.states r t;
      }))

  -- ---- the theorem

  inv_reach : {σ σ' : Turn K} → Reach Y σ σ' → Inv Y σ → Inv Y σ'
  inv_reach stay v = v
  inv_reach (begin {σ₁ = τ} {σ₂ = τ'} j p b) v = inv_begin τ τ' j b (inv_reach p v)
  inv_reach (act {σ₁ = τ} {σ₂ = τ'} j l p a) v = inv_act τ τ' j l a (inv_reach p v)

  pub inv_determined : (σ : Turn K) → Inv Y σ → Determined Y σ
  inv_determined σ v = record {
    outputs = λ j o e. subst (λ t. Fine Y j t σ.shared) e (v.fine j);
    final = λ n f w r. v.here r n (λ i h t. f i h) (λ i h t. w i h);
  }

  -- every interleaving that starts where the zero-delay run does is determined
  pub determined : {σ σ' : Turn K} → Reach Y σ σ' → ((j : ℕ) → σ.status j ≡ waiting) → ((r : Place) → view r σ.shared ≡ view r (before 0)) → Determined Y σ'
  determined {σ} {σ'} p w e = inv_determined σ' (inv_reach p (inv_start σ w e))
