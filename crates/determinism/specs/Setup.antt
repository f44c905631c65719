-- A frame run in turns, over any state that keeps its parts apart: what a turn does, and the laws that it needs of machine, store and plan.
use Rattle.std.specs.Prelude.{ℕ, zero, suc, ◌<◌, ◌≡◌, refl, ◌≢◌, Bool, true, false, cond, not, ◌&&◌, ◌||◌, eqb}
use Rattle.reply.specs.Tools.{all, pick}
use Rattle.reply.specs.Tests.{clash}
use Rattle.determinism.specs.Interleaving.{Shape, Turn, Status, waiting, running, finished}
use Rattle.determinism.specs.Jobs.{Steps, Machine}

-- where a run keeps its parts: the state, which jobs have finished and with what output
pub record Store (K : Shape) : Type 1 where
  pub C : Type 0
  pub shared : C → K.State
  pub is_finished : C → ℕ → Bool
  pub output_of : C → ℕ → K.Output
  -- of a processor: 0, or one more than the job under way there; and what that job keeps
  pub job : C → ℕ → ℕ
  pub own : C → ℕ → K.Own
  -- on a processor a job finishes with an output, or goes on
  pub finish : ℕ → ℕ → K.Output → K.State → C → C
  pub keep : ℕ → ℕ → K.Own → K.State → C → C

-- n jobs on so many processors; which job precedes which; each job's processor and planned start
pub record Plan : Type 0 where
  pub n : ℕ
  pub processors : ℕ
  pub ordered : ℕ → ℕ → Bool
  pub processor : ℕ → ℕ
  pub start : ℕ → ℕ

-- what a run in turns is of
pub record Setup (K : Shape) : Type 1 where
  pub steps : Steps K
  pub store : Store K
  pub plan : Plan

-- ---- a turn

module _ {K : Shape} (U : Setup K) where
  open K use {State, Own, Output}
  open U.steps use {first, ended, output, next_own, next_state}
  open U.plan use {n, ordered, processor, start}
  open U.store use {C, shared, is_finished, output_of, job, own, finish, keep}

  -- job i, if it precedes job j, has finished
  abbrev pub past : C → ℕ → ℕ → Bool
  past c j i = not (ordered i j) || is_finished c i

  -- all that precede job j have finished
  abbrev pub ready : C → ℕ → Bool
  ready c j = all n (past c j)

  -- job j comes to l, and the state to s, on processor p: the job finishes, or goes on
  abbrev pub place : ℕ → ℕ → Own → State → C → C
  place p j l s c = cond (ended j l) (finish p j (output j l) s c) (keep p j l s c)

  -- planned order goes by planned start
  abbrev pub order : ℕ → ℕ
  order j = start j

  -- one more than the next job of processor p in planned order; 0 if there is none
  abbrev pub next : ℕ → C → ℕ
  next p c = pick (λ j. eqb (processor j) p && not (is_finished c j)) order n

  -- with no job under way the processor starts its next job, if that is ready
  abbrev pub starts : ℕ → C → ℕ → C
  starts p c zero = c
  starts p c (suc j) = cond (ready c j) (place p j (first j) (shared c) c) c

  -- with a job under way it does one step
  abbrev pub goes_on : ℕ → C → ℕ → C
  goes_on p c zero = starts p c (next p c)
  goes_on p c (suc j) = place p j (next_own j (own c p) (shared c)) (next_state j (own c p) (shared c)) c

  abbrev pub turn : ℕ → C → C
  turn p c = goes_on p c (job c p)

  -- whether a turn works; it changes nothing if it does not
  abbrev pub can : C → ℕ → Bool
  can c zero = false
  can c (suc j) = ready c j

  abbrev pub works_at : ℕ → C → ℕ → Bool
  works_at p c zero = can c (next p c)
  works_at p c (suc j) = true

  abbrev pub works : ℕ → C → Bool
  works p c = works_at p c (job c p)

  idle_start : (p : ℕ) (c : C) (x : ℕ) → can c x ≡ false → starts p c x ≡ c
  idle_start p c zero e = refl
  idle_start p c (suc j) e = rw e

  idle_at_lem : (p : ℕ) (c : C) (x : ℕ) → works_at p c x ≡ false → goes_on p c x ≡ c
  idle_at_lem p c zero e = idle_start p c (next p c) e
  idle_at_lem p c (suc j) e = clash refl e

  pub idle : (p : ℕ) (c : C) → works p c ≡ false → turn p c ≡ c
  idle p c e = idle_at_lem p c (job c p) e

  -- the state as `Interleaving` has it
  abbrev pub busy : ℕ → Own → ℕ → Status Own Output
  busy x l j = cond (eqb x (suc j)) (running l) waiting

  abbrev pub status : C → ℕ → Status Own Output
  status c j = cond (is_finished c j) (finished (output_of c j)) (busy (job c (processor j)) (own c (processor j)) j)

  abbrev pub seen : C → Turn K
  seen c = record { shared = shared c; status = status c }

-- ---- the laws

-- where there is room, the parts of the store are apart: what a job that finishes changes, and what one that goes on does
pub record Apart {K : Shape} (n processors : ℕ) (X : Store K) : Type 1 where
  pub Room : X.C → Type 0
  pub finish_room : (p j : ℕ) (o : K.Output) (s : K.State) (c : X.C) → Room c → Room (X.finish p j o s c)
  pub finish_shared : (p j : ℕ) (o : K.Output) (s : K.State) (c : X.C) → X.shared (X.finish p j o s c) ≡ s
  pub finish_this : (p j : ℕ) (o : K.Output) (s : K.State) (c : X.C) → j < n → Room c → X.is_finished (X.finish p j o s c) j ≡ true
  pub finish_others : (p j : ℕ) (o : K.Output) (s : K.State) (c : X.C) (i : ℕ) → i ≢ j → X.is_finished (X.finish p j o s c) i ≡ X.is_finished c i
  pub finish_output : (p j : ℕ) (o : K.Output) (s : K.State) (c : X.C) → j < n → Room c → X.output_of (X.finish p j o s c) j ≡ o
  pub finish_outputs : (p j : ℕ) (o : K.Output) (s : K.State) (c : X.C) (i : ℕ) → i ≢ j → X.output_of (X.finish p j o s c) i ≡ X.output_of c i
  pub finish_job : (p j : ℕ) (o : K.Output) (s : K.State) (c : X.C) → p < processors → Room c → X.job (X.finish p j o s c) p ≡ 0
  pub finish_jobs : (p j : ℕ) (o : K.Output) (s : K.State) (c : X.C) (q : ℕ) → q ≢ p → X.job (X.finish p j o s c) q ≡ X.job c q
  pub finish_owns : (p j : ℕ) (o : K.Output) (s : K.State) (c : X.C) (q : ℕ) → q ≢ p → X.own (X.finish p j o s c) q ≡ X.own c q
  pub keep_room : (p j : ℕ) (l : K.Own) (s : K.State) (c : X.C) → Room c → Room (X.keep p j l s c)
  pub keep_shared : (p j : ℕ) (l : K.Own) (s : K.State) (c : X.C) → X.shared (X.keep p j l s c) ≡ s
  pub keep_finished : (p j : ℕ) (l : K.Own) (s : K.State) (c : X.C) (i : ℕ) → X.is_finished (X.keep p j l s c) i ≡ X.is_finished c i
  pub keep_outputs : (p j : ℕ) (l : K.Own) (s : K.State) (c : X.C) (i : ℕ) → X.output_of (X.keep p j l s c) i ≡ X.output_of c i
  pub keep_job : (p j : ℕ) (l : K.Own) (s : K.State) (c : X.C) → p < processors → Room c → X.job (X.keep p j l s c) p ≡ suc j
  pub keep_jobs : (p j : ℕ) (l : K.Own) (s : K.State) (c : X.C) (q : ℕ) → q ≢ p → X.job (X.keep p j l s c) q ≡ X.job c q
  pub keep_own : (p j : ℕ) (l : K.Own) (s : K.State) (c : X.C) → p < processors → Room c → X.own (X.keep p j l s c) p ≡ l
  pub keep_owns : (p j : ℕ) (l : K.Own) (s : K.State) (c : X.C) (q : ℕ) → q ≢ p → X.own (X.keep p j l s c) q ≡ X.own c q

-- what has been checked of a plan
pub record Checked (precedes : ℕ → ℕ → Type 0) (P : Plan) : Type 0 where
  -- what has to come before is told
  pub tested : (i j : ℕ) → j < P.n → precedes i j → P.ordered i j ≡ true
  -- it goes from lower to higher numbers
  pub lower : (i j : ℕ) → j < P.n → precedes i j → i < j
  -- every job is on a processor that there is
  pub on : (j : ℕ) → j < P.n → P.processor j < P.processors
  -- and what precedes it is planned earlier
  pub early : (i j : ℕ) → j < P.n → P.ordered i j ≡ true → P.start i < P.start j

pub record Lawful {K : Shape} (U : Setup K) : Type 1 where
  pub machine : Machine U.steps
  pub apart : Apart U.plan.n U.plan.processors U.store
  pub checked : Checked machine.precedes U.plan
