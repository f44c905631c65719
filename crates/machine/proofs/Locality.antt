-- The actions of a valid network are local: they touch the variables of their own process, the channels of which it is an end, and nothing else.
use Rattle.std.specs.Prelude.{◌≡◌, ℕ, ◌+◌, ◌*◌, ◌/◌, ◌<◌, true, false, ◌⊎◌, [], length, ◌==◌, nat_lt}
use Rattle.std.proofs.Math.Path.{refl}
use Rattle.std.proofs.Common.{sym, ap, ◌∙◌, inl, inr, arith}
use Rattle.std.proofs.Math.Decide.{dec_lt}
use Rattle.std.proofs.Math.ListN.{get_or-eq_default}
use borrow.Author.Tests.{ltb-true, eqb-true, lt-ltb, eq-eqb}
use Rattle.reply.specs.Tests.{clash, both, either, both_true, either_true}
use Rattle.network.specs.Net.{Net}
use Rattle.network.specs.Valid.{Valid}
use Rattle.machine.specs.State.{State, Contents, nothing, var, set_var, contents_of, set_contents, oldest, flag, after_read}
use Rattle.machine.specs.Actions.{channel_of, effect, output_after, skipped}
use Rattle.machine.specs.WholeJob.{program_of, next_action}
use Rattle.machine.specs.Elements.{get_or_agree, nth_set_other, nth_set_both}
use Rattle.machine.specs.GoodActions.{GoodFor, net_good}
use Rattle.machine.specs.Locality.{Ends}
use Rattle.machine.specs.Places.{Place, variable, channel, view, touches, Agree, Local}
use Rattle.machine.specs.declared.Sample.{Sample}
use Rattle.machine.specs.declared.Under.{Under}
use Rattle.machine.specs.declared.Action.{Action}
use Rattle.machine.specs.declared.Action.TheVariants.{Set, Add, Subtract, Read, Write, Input, Output, Skip, Unknown}

module _ (net : Net) (p : ℕ) where
  -- ---- what a process touches

  -- its variables
  own : (a : ℕ) → a < 8 → touches net p (variable (8 * p + a)) ≡ true
  unfolding touches
  own a h = eq-eqb ((8 * p + a) / 8) p (omega arith)

  -- the channels that it reads
  reads : (c : ℕ) → (c < length net.channels) × ((channel_of net c).reader ≡ p) → touches net p (channel c) ≡ true
  unfolding touches
  reads c h = both_true _ _ (lt-ltb c _ h.0) (either_true ((channel_of net c).writer == p) _ (inr (eq-eqb _ p h.1)))

  -- the channels that it writes
  writes : (c : ℕ) → (c < length net.channels) × ((channel_of net c).writer ≡ p) → touches net p (channel c) ≡ true
  unfolding touches
  writes c h = both_true _ _ (lt-ltb c _ h.0) (either_true _ ((channel_of net c).reader == p) (inl (eq-eqb _ p h.1)))

  -- ---- one variable, one channel

  -- states that agree for p have the same in each of its variables
  var_agree : (a : ℕ) (s t : State) → a < 8 → Agree net p s t → var p a s ≡ var p a t
  var_agree a s t h g = get_or_agree s.variables t.variables (8 * p + a) 0 (g.same (variable (8 * p + a)) (own a h))

  -- and in each of its channels
  contents_agree : (c : ℕ) (s t : State) → touches net p (channel c) ≡ true → Agree net p s t → contents_of c s ≡ contents_of c t
  contents_agree c s t h g = get_or_agree s.channels t.channels c nothing (g.same (channel c) h)

  -- they agree still when the same variable is set to the same
  set_agree : (a v w : ℕ) (s t : State) → v ≡ w → Agree net p s t → Agree net p (set_var p a v s) (set_var p a w t)
  set_agree a v w s t e g = record {
    same = λ r. elim r as (λ k. touches net p k ≡ true → view k (set_var p a v s) ≡ view k (set_var p a w t)) [
      | variable i ↦ λ h. nth_set_both s.variables t.variables (8 * p + a) i v w (g.same (variable i) h) e
      | channel c ↦ λ h. g.same (channel c) h
    ];
  }

  -- and when the same channel is
  put_agree : (c : ℕ) (x y : Contents) (s t : State) → x ≡ y → Agree net p s t → Agree net p (set_contents c x s) (set_contents c y t)
  put_agree c x y s t e g = record {
    same = λ r. elim r as (λ k. touches net p k ≡ true → view k (set_contents c x s) ≡ view k (set_contents c y t)) [
      | variable i ↦ λ h. g.same (variable i) h
      | channel d ↦ λ h. nth_set_both s.channels t.channels c d x y (g.same (channel d) h) e
    ];
  }

  -- a variable of p that is set changes no place that p does not touch
  set_frame : (a v : ℕ) (s : State) (r : Place) → a < 8 → touches net p r ≡ false → view r (set_var p a v s) ≡ view r s
  set_frame a v s (variable i) h u = nth_set_other s.variables (8 * p + a) i v (λ e. clash (own a h) (rw e at u))
  set_frame a v s (channel c) h u = refl

  -- nor does a channel of p
  put_frame : (c : ℕ) (x : Contents) (s : State) (r : Place) → touches net p (channel c) ≡ true → touches net p r ≡ false
      → view r (set_contents c x s) ≡ view r s
  put_frame c x s (variable i) h u = refl
  put_frame c x s (channel d) h u = nth_set_other s.channels c d x (λ e. clash h (rw e at u))

  -- ---- one good action

  -- what a job under way keeps after an action
  abbrev kept : Action → Under → State → Under
  kept action u s = record { at = u.at + 1 + skipped p action s; output = output_after p action s u.output }

  module _ (n k : ℕ) where
    abbrev Good : Action → Type 0
    Good action = GoodFor net.channels p n k action

    -- it changes no place that p does not touch
    effect_frame : (x : Sample) (action : Action) (s : State) (r : Place) → Good action → touches net p r ≡ false → view r (effect net p x action s) ≡ view r s
    unfolding effect GoodFor
    effect_frame x (Set a m) s r g u = set_frame a _ s r g u
    effect_frame x (Add a b c) s r g u = set_frame a _ s r g.0 u
    effect_frame x (Subtract a b c) s r g u = set_frame a _ s r g.0 u
    effect_frame x (Read ch b c) s r g u = set_frame c _ _ r g.2 u ∙ set_frame b _ _ r g.1 u ∙ put_frame ch _ s r (reads ch g.0) u
    effect_frame x (Write ch b) s r g u = put_frame ch _ s r (writes ch g.0) u
    effect_frame x (Input a b) s r g u = set_frame b _ _ r g.1 u ∙ set_frame a _ s r g.0 u
    effect_frame x (Output a) s r g u = refl
    effect_frame x (Skip a m) s r g u = refl
    effect_frame x Unknown s r g u = refl

    -- states that agree for p agree after it
    effect_agree : (x : Sample) (action : Action) (s t : State) → Good action → Agree net p s t
        → Agree net p (effect net p x action s) (effect net p x action t)
    unfolding effect GoodFor
    effect_agree x (Set a m) s t g h = set_agree a m m s t refl h
    effect_agree x (Add a b c) s t g h = set_agree a _ _ s t (rw (var_agree b s t g.1 h, var_agree c s t g.2 h)) h
    effect_agree x (Subtract a b c) s t g h = set_agree a _ _ s t (rw (var_agree b s t g.1 h, var_agree c s t g.2 h)) h
    effect_agree x (Read ch b c) s t g h =
        let e : contents_of ch s ≡ contents_of ch t = contents_agree ch s t (reads ch g.0) h in
        set_agree c _ _ _ _ (ap (λ y. flag y.held) e)
        (set_agree b _ _ _ _ (ap (λ y. oldest y.held) e)
        (put_agree ch _ _ s t (ap (after_read (channel_of net ch).kind) e) h))
    effect_agree x (Write ch b) s t g h = put_agree ch _ _ s t (rw (var_agree b s t g.1 h, contents_agree ch s t (writes ch g.0) h)) h
    effect_agree x (Input a b) s t g h = set_agree b _ _ _ _ refl (set_agree a _ _ s t refl h)
    effect_agree x (Output a) s t g h = h
    effect_agree x (Skip a m) s t g h = h
    effect_agree x Unknown s t g h = h

    -- and its job keeps the same
    kept_agree : (action : Action) (u : Under) (s t : State) → Good action → Agree net p s t → kept action u s ≡ kept action u t
    unfolding output_after skipped GoodFor
    kept_agree (Set a m) u s t g h = refl
    kept_agree (Add a b c) u s t g h = refl
    kept_agree (Subtract a b c) u s t g h = refl
    kept_agree (Read ch b c) u s t g h = refl
    kept_agree (Write ch b) u s t g h = refl
    kept_agree (Input a b) u s t g h = refl
    kept_agree (Output a) u s t g h = rw (var_agree a s t g h)
    kept_agree (Skip a m) u s t g h = rw (var_agree a s t g.0 h)
    kept_agree Unknown u s t g h = refl

  -- ---- the next action of a job

  -- it is good, or there is none: past the programs, and past the end of one
  at_next : Valid net → (u : Under) (P : Action → Type 0) → P Unknown
      → ((n : ℕ) (action : Action) → GoodFor net.channels p n u.at action → P action) → P (next_action net p u)
  at_next ok u P past good = elim (dec_lt p (length net.programs)) [
    | yes h ↦ elim (dec_lt u.at (length (program_of net p))) [
      | yes l ↦ good (length (program_of net p)) (next_action net p u) (net_good net ok p u.at h l)
      | no l ↦ rw (get_or-eq_default (program_of net p) Unknown {n = u.at} (omega arith)) past
    ]
    | no h ↦ rw (get_or-eq_default net.programs [] {n = p} (omega arith)) past
  ]

-- the actions of a valid network are local
pub valid_local : (net : Net) → Valid net → (p : ℕ) → Local net p
unfolding effect output_after skipped
valid_local net ok p = record {
  frame = λ x u s r e. at_next net p ok u (λ action. view r (effect net p x action s) ≡ view r s)
      refl
      (λ n action g. effect_frame net p n u.at x action s r g e);
  state = λ x u s t h. at_next net p ok u (λ action. Agree net p (effect net p x action s) (effect net p x action t))
      h
      (λ n action g. effect_agree net p n u.at x action s t g h);
  under = λ u s t h. at_next net p ok u (λ action. kept net p action u s ≡ kept net p action u t)
      refl
      (λ n action g. kept_agree net p n u.at action u s t g h);
  forward = λ u s. omega arith;
}

-- ---- two processes

-- processes that touch one place are one process, or the two ends of a channel
pub meets : (net : Net) → (p q : ℕ) (r : Place) → touches net p r ≡ true → touches net q r ≡ true → (p ≡ q) ⊎ Ends net p q
unfolding touches
meets net p q (variable i) a b = inl (sym (eqb-true (i / 8) p a) ∙ eqb-true (i / 8) q b)
meets net p q (channel c) a b = go (either _ _ (both (nat_lt c _) _ a).1) (either _ _ (both (nat_lt c _) _ b).1)
  where
    go : (((channel_of net c).writer == p) ≡ true) ⊎ (((channel_of net c).reader == p) ≡ true)
        → (((channel_of net c).writer == q) ≡ true) ⊎ (((channel_of net c).reader == q) ≡ true) → (p ≡ q) ⊎ Ends net p q
    go (inl s) (inl t) = inl (sym (eqb-true _ p s) ∙ eqb-true _ q t)
    go (inl s) (inr t) = inr (c, ltb-true c _ (both _ _ a).0, inl (eqb-true _ p s, eqb-true _ q t))
    go (inr s) (inl t) = inr (c, ltb-true c _ (both _ _ a).0, inr (eqb-true _ p s, eqb-true _ q t))
    go (inr s) (inr t) = inl (sym (eqb-true _ p s) ∙ eqb-true _ q t)
