-- Jobs from their steps: a job goes on until it has ended, and a bound on the steps to go says that it does end.
use Rattle.std.specs.Prelude.{ℕ, zero, suc, ◌≤◌, ◌<◌, ◌≡◌, refl, Bool, true, false, cond}
use Rattle.std.proofs.Common.{sym, ap, ◌∙◌, arith}
use Rattle.reply.specs.Tests.{split}
use Rattle.determinism.specs.Interleaving.{Shape, System}

-- the steps of numbered jobs: what a job keeps at its start, whether it has ended, its output, and one step of it
pub record Steps (K : Shape) : Type 0 where
  pub first : ℕ → K.Own
  pub ended : ℕ → K.Own → Bool
  pub output : ℕ → K.Own → K.Output
  pub next_own : ℕ → K.Own → K.State → K.Own
  pub next_state : ℕ → K.Own → K.State → K.State
  -- a bound on the steps to go
  pub left : ℕ → K.Own → ℕ

module _ {K : Shape} (D : Steps K) where
  -- job j from (l, s), at most k steps
  abbrev pub goes : ℕ → ℕ → K.Own → K.State → K.Own × K.State
  goes zero j l s = (l, s)
  goes (suc k) j l s = cond (D.ended j l) (l, s) (goes k j (D.next_own j l s) (D.next_state j l s))

  -- to its end
  abbrev pub rest : ℕ → K.Own → K.State → K.Own × K.State
  rest j l s = goes (D.left j l) j l s

  -- the zero-delay run: the state before job j, and job j's output
  abbrev pub zero_delay_state : K.State → ℕ → K.State
  zero_delay_state s zero = s
  zero_delay_state s (suc j) = (rest j (D.first j) (zero_delay_state s j)).1

  abbrev pub zero_output : K.State → ℕ → K.Output
  zero_output s j = D.output j (rest j (D.first j) (zero_delay_state s j)).0

-- the laws of such jobs
pub record Machine {K : Shape} (D : Steps K) : Type 1 where
  -- the places that a job touches, and which job has to finish before which begins
  pub touches : ℕ → K.Place → Bool
  pub precedes : ℕ → ℕ → Type 0
  -- each step leaves fewer
  pub left_step : (j : ℕ) (l : K.Own) (s : K.State) → D.ended j l ≡ false → D.left j (D.next_own j l s) < D.left j l
  -- a step changes no place that its job does not touch
  pub step_frame : (j : ℕ) (l : K.Own) (s : K.State) (r : K.Place) → touches j r ≡ false → K.view r (D.next_state j l s) ≡ K.view r s
  -- and depends on those that it touches alone
  pub local_own : (j : ℕ) (l : K.Own) (s t : K.State) → ((r : K.Place) → touches j r ≡ true → K.view r s ≡ K.view r t)
      → D.next_own j l s ≡ D.next_own j l t
  pub local_state : (j : ℕ) (l : K.Own) (s t : K.State) → ((r : K.Place) → touches j r ≡ true → K.view r s ≡ K.view r t)
      → (r : K.Place) → touches j r ≡ true → K.view r (D.next_state j l s) ≡ K.view r (D.next_state j l t)
  -- two jobs that touch one place are in order
  pub conflict : (i j : ℕ) (r : K.Place) → i < j → touches i r ≡ true → touches j r ≡ true → precedes i j

module _ {K : Shape} {D : Steps K} (M : Machine D) where
  open K use {State, Own, Output, Place, view}
  open D use {first, ended, output, next_own, next_state, left}
  open M use {touches, precedes}

  -- ---- how far a job goes

  pub goes_ended : (k j : ℕ) (l : Own) (s : State) → ended j l ≡ true → goes D k j l s ≡ (l, s)
  goes_ended zero j l s e = refl
  goes_ended (suc k) j l s e = rw (e, goes)

  goes_on : (k j : ℕ) (l : Own) (s : State) → ended j l ≡ false → goes D (suc k) j l s ≡ goes D k j (next_own j l s) (next_state j l s)
  goes_on k j l s e = rw (e, goes)

  -- with nothing left, a job is done
  end : (j : ℕ) (l : Own) (s : State) → left j l ≤ 0 → ended j l ≡ true
  end j l s h = split (ended j l) (λ e. e) (λ e. absurd (omega (arith, M.left_step j l s e)))

  goes_fuel : (k m j : ℕ) (l : Own) (s : State) → left j l ≤ k → left j l ≤ m → goes D k j l s ≡ goes D m j l s
  goes_fuel zero m j l s a b = sym (goes_ended m j l s (end j l s a))
  goes_fuel (suc k) zero j l s a b = goes_ended (suc k) j l s (end j l s b)
  goes_fuel (suc k) (suc m) j l s a b = split (ended j l)
      (λ e. goes_ended (suc k) j l s e ∙ sym (goes_ended (suc m) j l s e))
      (λ e. let h : left j (next_own j l s) < left j l = M.left_step j l s e in
      goes_on k j l s e
      ∙ goes_fuel k m j (next_own j l s) (next_state j l s) (omega arith) (omega arith)
      ∙ sym (goes_on m j l s e))

  pub rest_on : (j : ℕ) (l : Own) (s : State) → ended j l ≡ false → rest D j (next_own j l s) (next_state j l s) ≡ rest D j l s
  rest_on j l s e =
      let h : left j (next_own j l s) < left j l = M.left_step j l s e in
      goes_fuel (left j (next_own j l s)) (left j l) j (next_own j l s) (next_state j l s) (omega arith) (omega arith)
      ∙ sym (goes_on (left j l) j l s e)
      ∙ goes_fuel (suc (left j l)) (left j l) j l s (omega arith) (omega arith)

  -- ---- what it touches

  pub goes_frame : (k j : ℕ) (l : Own) (s : State) (r : Place) → touches j r ≡ false → view r (goes D k j l s).1 ≡ view r s
  goes_frame zero j l s r u = refl
  goes_frame (suc k) j l s r u = split (ended j l)
      (λ e. rw e)
      (λ e. rw e (goes_frame k j (next_own j l s) (next_state j l s) r u ∙ M.step_frame j l s r u))

  pub goes_local : (k j : ℕ) (l : Own) (s t : State) → ((r : Place) → touches j r ≡ true → view r s ≡ view r t)
      → ((goes D k j l s).0 ≡ (goes D k j l t).0) ×
      ((r : Place) → touches j r ≡ true → view r (goes D k j l s).1 ≡ view r (goes D k j l t).1)
  goes_local zero j l s t a = (refl, a)
  goes_local (suc k) j l s t a = split (ended j l)
      (λ e. rw e (refl, a))
      (λ e. rw (e, M.local_own j l s t a) (goes_local k j (next_own j l t) (next_state j l s) (next_state j l t) (M.local_state j l s t a)))

  -- ---- the jobs as they are interleaved, from a state on

  abbrev pub system : State → System K
  system s₀ = record {
    touches = touches;
    precedes = precedes;
    first = first;
    ended = ended;
    output = output;
    next_own = next_own;
    next_state = next_state;
    rest = λ j l s. (rest D j l s).1;
    rest_output = λ j l s. output j (rest D j l s).0;
    before = zero_delay_state D s₀;
    before_next = λ j. refl;
    rest_ended = λ j l s e. ap (λ x. x.1) (goes_ended (left j l) j l s e);
    rest_output_ended = λ j l s e. ap (λ x. output j x.0) (goes_ended (left j l) j l s e);
    rest_step = λ j l s e. ap (λ x. x.1) (rest_on j l s e);
    rest_output_step = λ j l s e. ap (λ x. output j x.0) (rest_on j l s e);
    step_frame = M.step_frame;
    rest_frame = λ j l s r u. goes_frame (left j l) j l s r u;
    rest_local = λ j l s t a. (goes_local (left j l) j l s t a).1;
    rest_output_local = λ j l s t a. ap (output j) (goes_local (left j l) j l s t a).0;
    conflict = M.conflict;
  }
