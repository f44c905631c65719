-- What one action, and the rest of a job, do to a channel: the writes tried, the values taken, the values held and the writes lost.
use Rattle.std.specs.Prelude.{◌≡◌, ℕ, zero, suc, ◌+◌, ◌<◌, ◌≤◌, cond, ◌≢◌, List, [], ◌∷◌, length, ◌==◌, nat_lt, slice_index_or, slice_set}
use Rattle.std.proofs.Math.Path.{refl, subst}
use Rattle.std.proofs.Common.{sym, ap, ◌∙◌, arith, length-set}
use Rattle.std.proofs.Math.Decide.{dec_lt, ℕ_discrete}
use Rattle.std.proofs.Math.ListN.{length-append, get_or-eq_default}
use Rattle.std.proofs.lemmas.List.{length-map}
use Rattle.std.proofs.Math.Seq.{get_or-set_same, get_or-set_other}
use borrow.Author.Tests.{eq-eqb, ne_eqb, ltb-true}
use Rattle.reply.specs.Tests.{split}
use Rattle.network.specs.Net.{Net}
use Rattle.network.specs.Valid.{Valid}
use Rattle.machine.specs.State.{Contents, State, nothing, var, contents_of, flag, rest, after_read, after_write}
use Rattle.machine.specs.Actions.{decode, channel_of, effect}
use Rattle.machine.specs.WholeJob.{program_of, started, next_action, act_state, act_under, at_end, go_on, whole_job}
use Rattle.machine.specs.declared.Sample.{Sample}
use Rattle.machine.specs.declared.Under.{Under}
use Rattle.machine.specs.declared.Action.{Action}
use Rattle.machine.specs.declared.Action.TheVariants.{Set, Add, Subtract, Read, Write, Input, Output, Skip, Unknown}

-- ---- what is counted

-- writes that an action tries on channel c
unfoldable pub tries : ℕ → Action → ℕ
tries c (Set a n) = 0
tries c (Add a b d) = 0
tries c (Subtract a b d) = 0
tries c (Read ch b d) = 0
tries c (Write ch b) = cond (ch == c) 1 0
tries c (Input a b) = 0
tries c (Output a) = 0
tries c (Skip a n) = 0
tries c Unknown = 0

-- values that an action takes from queue c
unfoldable pub takes : ℕ → Action → State → ℕ
takes c (Set a n) s = 0
takes c (Add a b d) s = 0
takes c (Subtract a b d) s = 0
takes c (Read ch b d) s = cond (ch == c) (flag (contents_of c s).held) 0
takes c (Write ch b) s = 0
takes c (Input a b) s = 0
takes c (Output a) s = 0
takes c (Skip a n) s = 0
takes c Unknown s = 0

-- over the rest of a job
unfoldable pub tried_on : ℕ → ℕ → Net → ℕ → Sample → Under → State → ℕ
tried_on c zero net p x u s = 0
tried_on c (suc most) net p x u s =
    let on = tries c (next_action net p u) + tried_on c most net p x (act_under net p u s) (act_state net p x u s) in
    cond (at_end net p u) 0 on

unfoldable pub taken_on : ℕ → ℕ → Net → ℕ → Sample → Under → State → ℕ
taken_on c zero net p x u s = 0
taken_on c (suc most) net p x u s =
    let on = takes c (next_action net p u) s + taken_on c most net p x (act_under net p u s) (act_state net p x u s) in
    cond (at_end net p u) 0 on

-- over a whole job
abbrev pub tried_by : ℕ → Net → ℕ → Sample → State → ℕ
tried_by c net p x s = tried_on c (length (program_of net p)) net p x started s

abbrev pub taken_by : ℕ → Net → ℕ → Sample → State → ℕ
taken_by c net p x s = taken_on c (length (program_of net p)) net p x started s

-- ---- what an action does to a channel

-- after an element was put in place i: element j is what it was, or it is the new one
one_set : (P : Contents → Type 0) (l : List Contents) (i j : ℕ) (new : Contents)
    → P (slice_index_or l j nothing) → (i ≡ j → P new) → P (slice_index_or (slice_set l i new) j nothing)
one_set P [] i j new h k = h
one_set P (x ∷ l) zero zero new h k = k refl
one_set P (x ∷ l) zero (suc j) new h k = h
one_set P (x ∷ l) (suc i) zero new h k = h
one_set P (x ∷ l) (suc i) (suc j) new h k = one_set P l i j new h (λ e. k (ap suc e))

module _ (net : Net) (c : ℕ) where
  -- it stays, or it is read, or it is written
  action_cases : (P : Contents → Type 0) (p : ℕ) (x : Sample) (a : Action) (s : State)
      → P (contents_of c s)
      → P (after_read (channel_of net c).kind (contents_of c s))
      → ((v : ℕ) → P (after_write (channel_of net c).kind (channel_of net c).capacity v (contents_of c s)))
      → P (contents_of c (effect net p x a s))
  unfolding effect
  action_cases P p x (Set a n) s h r w = h
  action_cases P p x (Add a b d) s h r w = h
  action_cases P p x (Subtract a b d) s h r w = h
  action_cases P p x (Read ch b d) s h r w =
      one_set P s.channels ch c _ h (λ e. subst (λ k. P (after_read (channel_of net k).kind (contents_of k s))) (sym e) r)
  action_cases P p x (Write ch b) s h r w =
      one_set P s.channels ch c _ h
      (λ e. subst (λ k. P (after_write (channel_of net k).kind (channel_of net k).capacity (var p b s) (contents_of k s))) (sym e) (w (var p b s)))
  action_cases P p x (Input a b) s h r w = h
  action_cases P p x (Output a) s h r w = h
  action_cases P p x (Skip a n) s h r w = h
  action_cases P p x Unknown s h r w = h

  -- what every action keeps, the rest of a job keeps
  go_on_keeps : (P : Contents → Type 0) → ((p : ℕ) (x : Sample) (a : Action) (s : State) → P (contents_of c s) → P (contents_of c (effect net p x a s)))
      → (most p : ℕ) (x : Sample) (u : Under) (s : State) → P (contents_of c s) → P (contents_of c (go_on most net p x u s).state)
  unfolding go_on
  go_on_keeps P keep zero p x u s h = h
  go_on_keeps P keep (suc most) p x u s h = split (at_end net p u)
      (λ t. rw t h)
      (λ t. rw t (go_on_keeps P keep most p x (act_under net p u s) (act_state net p x u s) (keep p x (next_action net p u) s h)))

-- ---- losses

-- a write loses at most one value
write_loss : (kind capacity v : ℕ) (x : Contents) → (after_write kind capacity v x).loss ≤ x.loss + 1
unfolding after_write
write_loss kind capacity v x = split (kind == 1)
    (λ t. rw t (omega arith))
    (λ t. split (nat_lt (length x.held) capacity) (λ l. rw (t, l) (omega arith)) (λ l. rw (t, l) (omega arith)))

-- a read loses none
read_loss : (kind : ℕ) (x : Contents) → (after_read kind x).loss ≡ x.loss
unfolding after_read
read_loss kind x = split (kind == 1) (λ t. rw t) (λ t. rw t)

-- an action loses at most one value of a channel
pub action_loss : (net : Net) (p : ℕ) (x : Sample) (a : Action) (s : State) (c : ℕ) → (contents_of c (effect net p x a s)).loss ≤ (contents_of c s).loss + 1
action_loss net p x a s c =
    action_cases net c (λ y. y.loss ≤ (contents_of c s).loss + 1) p x a s (omega arith) (omega (arith, read_loss (channel_of net c).kind (contents_of c s)))
    (λ v. write_loss (channel_of net c).kind (channel_of net c).capacity v (contents_of c s))

-- so many actions lose at most so many
pub go_on_loss : (net : Net) (c most p : ℕ) (x : Sample) (u : Under) (s : State) → (contents_of c (go_on most net p x u s).state).loss ≤ (contents_of c s).loss + most
unfolding go_on
go_on_loss net c zero p x u s = omega arith
go_on_loss net c (suc most) p x u s = split (at_end net p u)
    (λ t. rw t (omega arith))
    (λ t. rw t (omega (arith, go_on_loss net c most p x (act_under net p u s) (act_state net p x u s), action_loss net p x (next_action net p u) s c)))

-- programs of at most 24 actions
pub record ShortPrograms (net : Net) : Type 0 where
  pub most : (p : ℕ) → length (program_of net p) ≤ 24

-- those of a valid network are so
pub valid_short : (net : Net) → Valid net → ShortPrograms net
valid_short net ok = record {
  most = λ p. rw (length-map (slice_index_or net.programs p []) decode) (elim (dec_lt p (length net.programs)) [
    | yes h ↦ ok.action_count p h
    | no h ↦ rw (get_or-eq_default net.programs [] {n = p} (omega arith)) (omega arith)
  ]);
}

-- a whole job loses at most 24
pub job_loss : (net : Net) → ShortPrograms net → (c p : ℕ) (x : Sample) (s : State) → (contents_of c (whole_job net p x s).state).loss ≤ (contents_of c s).loss + 24
unfolding whole_job
job_loss net short c p x s = omega (arith, short.most p, go_on_loss net c (length (program_of net p)) p x started s)

-- ---- boards

module _ (net : Net) (c : ℕ) (board : (channel_of net c).kind ≡ 1) where
  -- a board loses nothing: one action, and the rest of a job
  pub board_loss : (p : ℕ) (x : Sample) (a : Action) (s : State) → (contents_of c (effect net p x a s)).loss ≡ (contents_of c s).loss
  unfolding after_write
  board_loss p x a s =
      action_cases net c (λ y. y.loss ≡ (contents_of c s).loss) p x a s refl (read_loss (channel_of net c).kind (contents_of c s)) (λ v. rw (eq-eqb _ 1 board))

  pub board_go_on_loss : (most p : ℕ) (x : Sample) (u : Under) (s : State) → (contents_of c (go_on most net p x u s).state).loss ≡ (contents_of c s).loss
  board_go_on_loss most p x u s = go_on_keeps net c (λ y. y.loss ≡ (contents_of c s).loss) (λ p x a t e. board_loss p x a t ∙ e) most p x u s refl

  -- a board holds at most one value: kept by an action, and by the rest of a job
  pub board_held : (p : ℕ) (x : Sample) (a : Action) (s : State) → length (contents_of c s).held ≤ 1 → length (contents_of c (effect net p x a s)).held ≤ 1
  unfolding after_read after_write
  board_held p x a s h = action_cases net c (λ y. length y.held ≤ 1) p x a s h (rw (eq-eqb _ 1 board) h) (λ v. rw (eq-eqb _ 1 board) (omega arith))

  pub board_go_on_held : (most p : ℕ) (x : Sample) (u : Under) (s : State) → length (contents_of c s).held ≤ 1 → length (contents_of c (go_on most net p x u s).state).held ≤ 1
  board_go_on_held = go_on_keeps net c (λ y. length y.held ≤ 1) board_held

-- ---- queues

rest_length : (l : List ℕ) → length (rest l) + flag l ≡ length l
rest_length [] = refl
rest_length (v ∷ l) = omega arith

-- what a queue holds, and what it has lost
abbrev pub held_and_lost : Contents → ℕ
held_and_lost y = length y.held + y.loss

module _ (net : Net) (c : ℕ) (queue : (channel_of net c).kind ≢ 1) where
  -- a read takes what its flag says
  pub read_law : (y : Contents) → held_and_lost (after_read (channel_of net c).kind y) + flag y.held ≡ held_and_lost y
  unfolding after_read
  read_law y = rw (ne_eqb _ 1 queue) (omega (arith, rest_length y.held))

  -- a write adds one value, or one loss
  pub write_law : (y : Contents) (v : ℕ) → held_and_lost (after_write (channel_of net c).kind (channel_of net c).capacity v y) ≡ held_and_lost y + 1
  unfolding after_write
  write_law y v = rw (ne_eqb _ 1 queue) (split (nat_lt (length y.held) (channel_of net c).capacity)
      (λ t. rw t (omega (arith, length-append y.held (v ∷ []))))
      (λ t. rw t (omega arith)))

  -- a queue never holds more than its capacity: kept by an action, and by the rest of a job
  pub queue_held : (p : ℕ) (x : Sample) (a : Action) (s : State) → length (contents_of c s).held ≤ (channel_of net c).capacity
      → length (contents_of c (effect net p x a s)).held ≤ (channel_of net c).capacity
  unfolding after_read after_write
  queue_held p x a s h =
      let l : List ℕ = (contents_of c s).held in
      action_cases net c (λ y. length y.held ≤ (channel_of net c).capacity) p x a s h (rw (ne_eqb _ 1 queue) (omega (arith, rest_length l)))
      (λ v. rw (ne_eqb _ 1 queue) (split (nat_lt (length l) (channel_of net c).capacity)
      (λ t. rw t (omega (arith, length-append l (v ∷ []), ltb-true)))
      (λ t. rw t h)))

  pub queue_go_on_held : (most p : ℕ) (x : Sample) (u : Under) (s : State) → length (contents_of c s).held ≤ (channel_of net c).capacity
      → length (contents_of c (go_on most net p x u s).state).held ≤ (channel_of net c).capacity
  queue_go_on_held = go_on_keeps net c (λ y. length y.held ≤ (channel_of net c).capacity) queue_held

  -- held, lost and taken are what was held, lost and tried: one action
  pub action_law : (p : ℕ) (x : Sample) (a : Action) (s : State) → c < length s.channels
      → held_and_lost (contents_of c (effect net p x a s)) + takes c a s ≡ held_and_lost (contents_of c s) + tries c a
  unfolding effect takes tries
  action_law p x (Set a n) s h = refl
  action_law p x (Add a b d) s h = refl
  action_law p x (Subtract a b d) s h = refl
  action_law p x (Read ch b d) s h = elim (ℕ_discrete ch c) [
    | yes e ↦ rw (e, eq-eqb c c refl, get_or-set_same s.channels c (after_read (channel_of net c).kind (contents_of c s)) nothing h) (omega (arith, read_law (contents_of c s)))
    | no e ↦ rw (ne_eqb ch c e, get_or-set_other s.channels ch c (after_read (channel_of net ch).kind (contents_of ch s)) nothing (λ z. e (sym z)))
  ]
  action_law p x (Write ch b) s h = elim (ℕ_discrete ch c) [
    | yes e ↦ rw (
      e,
      eq-eqb c c refl,
      get_or-set_same s.channels c (after_write (channel_of net c).kind (channel_of net c).capacity (var p b s) (contents_of c s)) nothing h,
    ) (omega (arith, write_law (contents_of c s) (var p b s)))
    | no e ↦ rw (
      ne_eqb ch c e,
      get_or-set_other s.channels ch c (after_write (channel_of net ch).kind (channel_of net ch).capacity (var p b s) (contents_of ch s)) nothing (λ z. e (sym z)),
    )
  ]
  action_law p x (Input a b) s h = refl
  action_law p x (Output a) s h = refl
  action_law p x (Skip a n) s h = refl
  action_law p x Unknown s h = refl

-- an action leaves as many channels as there were
pub action_size : (net : Net) (p : ℕ) (x : Sample) (a : Action) (s : State) → length (effect net p x a s).channels ≡ length s.channels
unfolding effect
action_size net p x (Set a n) s = refl
action_size net p x (Add a b d) s = refl
action_size net p x (Subtract a b d) s = refl
action_size net p x (Read ch b d) s = length-set s.channels ch _
action_size net p x (Write ch b) s = length-set s.channels ch _
action_size net p x (Input a b) s = refl
action_size net p x (Output a) s = refl
action_size net p x (Skip a n) s = refl
action_size net p x Unknown s = refl

-- and so does the rest of a job
pub go_on_size : (net : Net) (most p : ℕ) (x : Sample) (u : Under) (s : State) → length (go_on most net p x u s).state.channels ≡ length s.channels
unfolding go_on
go_on_size net zero p x u s = refl
go_on_size net (suc most) p x u s = split (at_end net p u)
    (λ t. rw t)
    (λ t. rw t (go_on_size net most p x (act_under net p u s) (act_state net p x u s) ∙ action_size net p x (next_action net p u) s))

-- held, lost and taken are what was held, lost and tried: the rest of a job
pub job_law : (net : Net) (c : ℕ) → (channel_of net c).kind ≢ 1 → (most p : ℕ) (x : Sample) (u : Under) (s : State) → c < length s.channels
    → held_and_lost (contents_of c (go_on most net p x u s).state) + taken_on c most net p x u s ≡ held_and_lost (contents_of c s) + tried_on c most net p x u s
unfolding go_on taken_on tried_on
job_law net c queue zero p x u s h = refl
job_law net c queue (suc most) p x u s h = split (at_end net p u)
    (λ t. rw t)
    (λ t. rw t (omega (
      arith,
      job_law net c queue most p x (act_under net p u s) (act_state net p x u s) (omega (arith, action_size net p x (next_action net p u) s)),
      action_law net c queue p x (next_action net p u) s h,
    )))
