-- Jobs that are interleaved give what they give when they are done whole and in order: if any two jobs that touch one place are ordered, and a job begins only
-- when those ordered before it have finished. Nothing is assumed: the jobs, what they touch and their order are parameters.
use Rattle.std.specs.Prelude.{ℕ, suc, ◌≤◌, ◌<◌, ◌≡◌, ◌≢◌, Bool, true, false, cond}

-- a job has not begun, or it is under way and keeps something of its own, or it has finished with an output
pub data Status (Own Output : Type 0) : Type 0 where
  waiting : Status Own Output
  running : Own → Status Own Output
  finished : Output → Status Own Output

abbrev pub is_wait : {Own Output : Type 0} → Status Own Output → Bool
is_wait waiting = true
is_wait (running l) = false
is_wait (finished o) = false

abbrev pub is_fin : {Own Output : Type 0} → Status Own Output → Bool
is_fin waiting = false
is_fin (running l) = false
is_fin (finished o) = true

-- the types: what the jobs share, what a job keeps for itself, and what it outputs; the places that a shared state is made of, and what stands at them
pub record Shape : Type 1 where
  pub State : Type 0
  pub Own : Type 0
  pub Output : Type 0
  pub Place : Type 0
  pub At : Place → Type 0
  pub view : (r : Place) → State → At r

-- the jobs at some moment: the state that they share, and how far each has come
pub record Turn (K : Shape) : Type 0 where
  pub shared : K.State
  pub status : ℕ → Status K.Own K.Output

-- jobs that are numbered, and their laws
pub record System (K : Shape) : Type 1 where
  -- the places that a job touches, and which job has to finish before which begins
  pub touches : ℕ → K.Place → Bool
  pub precedes : ℕ → ℕ → Type 0
  -- what a job keeps when it begins, whether it has come to its end, and what it has output
  pub first : ℕ → K.Own
  pub ended : ℕ → K.Own → Bool
  pub output : ℕ → K.Own → K.Output
  -- one step
  pub next_own : ℕ → K.Own → K.State → K.Own
  pub next_state : ℕ → K.Own → K.State → K.State
  -- all steps from here to its end: the state, and the output
  pub rest : ℕ → K.Own → K.State → K.State
  pub rest_output : ℕ → K.Own → K.State → K.Output
  -- the zero-delay run: the state before job j
  pub before : ℕ → K.State
  -- it does the jobs whole, one after another
  pub before_next : (j : ℕ) → before (suc j) ≡ rest j (first j) (before j)
  -- what is left of a job that has ended, and of one that has not
  pub rest_ended : (j : ℕ) (l : K.Own) (s : K.State) → ended j l ≡ true → rest j l s ≡ s
  pub rest_output_ended : (j : ℕ) (l : K.Own) (s : K.State) → ended j l ≡ true → rest_output j l s ≡ output j l
  pub rest_step : (j : ℕ) (l : K.Own) (s : K.State) → ended j l ≡ false → rest j (next_own j l s) (next_state j l s) ≡ rest j l s
  pub rest_output_step : (j : ℕ) (l : K.Own) (s : K.State) → ended j l ≡ false → rest_output j (next_own j l s) (next_state j l s) ≡ rest_output j l s
  -- a job changes no place that it does not touch
  pub step_frame : (j : ℕ) (l : K.Own) (s : K.State) (r : K.Place) → touches j r ≡ false → K.view r (next_state j l s) ≡ K.view r s
  pub rest_frame : (j : ℕ) (l : K.Own) (s : K.State) (r : K.Place) → touches j r ≡ false → K.view r (rest j l s) ≡ K.view r s
  -- and what it does depends on the places that it touches alone
  pub rest_local : (j : ℕ) (l : K.Own) (s t : K.State) → ((r : K.Place) → touches j r ≡ true → K.view r s ≡ K.view r t)
      → (r : K.Place) → touches j r ≡ true → K.view r (rest j l s) ≡ K.view r (rest j l t)
  pub rest_output_local : (j : ℕ) (l : K.Own) (s t : K.State) → ((r : K.Place) → touches j r ≡ true → K.view r s ≡ K.view r t)
      → rest_output j l s ≡ rest_output j l t
  -- two jobs that touch one place are in order
  pub conflict : (i j : ℕ) (r : K.Place) → i < j → touches i r ≡ true → touches j r ≡ true → precedes i j

module _ {K : Shape} (Y : System K) where
  open K use {State, Own, Output, Place, view}
  open Y use {touches, precedes, first, ended, output, next_own, next_state, rest, rest_output, before}

  -- the output of job j in the zero-delay run
  abbrev pub due : ℕ → Output
  due j = rest_output j (first j) (before j)

  -- a job that comes to l has finished, or it is under way
  abbrev pub settle : ℕ → Own → Status Own Output
  settle j l = cond (ended j l) (finished (output j l)) (running l)

  -- job j begins: all that precede it have finished
  pub record Begin (σ σ' : Turn K) (j : ℕ) : Type 0 where
    pub idle : σ.status j ≡ waiting
    pub ready : (i : ℕ) → precedes i j → is_fin (σ.status i) ≡ true
    pub others : (i : ℕ) → i ≢ j → σ'.status i ≡ σ.status i
    pub becomes : σ'.status j ≡ settle j (first j)
    pub same : σ'.shared ≡ σ.shared

  -- job j does one step
  pub record Act (σ σ' : Turn K) (j : ℕ) (l : Own) : Type 0 where
    pub under : σ.status j ≡ running l
    pub others : (i : ℕ) → i ≢ j → σ'.status i ≡ σ.status i
    pub becomes : σ'.status j ≡ settle j (next_own j l σ.shared)
    pub moved : σ'.shared ≡ next_state j l σ.shared

  -- to complete job j from here gives what the zero-delay run gives
  pub record Good (j : ℕ) (l : Own) (s : State) : Type 0 where
    pub output : rest_output j l s ≡ due j
    pub states : (r : Place) → touches j r ≡ true → view r (rest j l s) ≡ view r (before (suc j))

  -- how far job j has come is right
  abbrev pub Fine : ℕ → Status Own Output → State → Type 0
  Fine j waiting s = Unit {0}
  Fine j (running l) s = (ended j l ≡ false) × Good j l s
  Fine j (finished o) s = o ≡ due j

  -- what holds at every moment
  pub record Inv (σ : Turn K) : Type 0 where
    -- what precedes a job that has begun has finished
    pub order : (i j : ℕ) → precedes i j → is_wait (σ.status j) ≡ false → is_fin (σ.status i) ≡ true
    pub fine : (j : ℕ) → Fine j (σ.status j) σ.shared
    -- a place of which the jobs below j that touch it have finished, and no other has begun, is as the zero-delay run has it before job j
    pub here : (r : Place) (j : ℕ)
        → ((i : ℕ) → i < j → touches i r ≡ true → is_fin (σ.status i) ≡ true)
        → ((i : ℕ) → j ≤ i → touches i r ≡ true → is_wait (σ.status i) ≡ true)
        → view r σ.shared ≡ view r (before j)

  -- an interleaving: one job at a time begins, or does a step
  pub data Reach (σ : Turn K) : Turn K → Type 0 where
    stay : Reach σ σ
    begin : {σ₁ σ₂ : Turn K} (j : ℕ) → Reach σ σ₁ → Begin σ₁ σ₂ j → Reach σ σ₂
    act : {σ₁ σ₂ : Turn K} (j : ℕ) (l : Own) → Reach σ σ₁ → Act σ₁ σ₂ j l → Reach σ σ₂

  pub record Determined (σ : Turn K) : Type 0 where
    -- a finished job's output is the zero-delay run's
    pub outputs : (j : ℕ) (o : Output) → σ.status j ≡ finished o → o ≡ due j
    -- when the first n jobs have finished, and no other has begun, every place is as the zero-delay run leaves it
    pub final : (n : ℕ) → ((j : ℕ) → j < n → is_fin (σ.status j) ≡ true) → ((j : ℕ) → n ≤ j → is_wait (σ.status j) ≡ true)
        → (r : Place) → view r σ.shared ≡ view r (before n)
