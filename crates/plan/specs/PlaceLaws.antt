-- What is placed is as the checker wants it, and stays so when one more job is placed.
use Rattle.std.specs.Prelude.{ℕ, ◌+◌, ◌*◌, ◌≤◌, ◌<◌, ◌≡◌, refl, ◌≢◌, ◌⊎◌, ◌||◌, length, set}
use Rattle.std.proofs.Common.{sym, ◌∙◌, inl, inr, arith}
use Rattle.std.proofs.Math.Path.{ap, subst}
use Rattle.std.proofs.Math.Bool.{true, false, not}
use Rattle.std.proofs.Math.Decide.{ℕ_discrete}
use Rattle.std.proofs.Math.ListN.{length-set}
use Rattle.std.proofs.lemmas.List.{length-replicate}
use Rattle.std.proofs.Math.Seq.{get_or-set_same, get_or-set_other}
use borrow.Author.Tests.{not-true}
use Rattle.reply.specs.Tools.{count}
use Rattle.reply.specs.Tests.{clash, both, implies}
use Rattle.reply.specs.AllAny.{all_true}
use Rattle.reply.specs.Counts.{count_none, count_one_more}
use Rattle.network.specs.ListLaws.{get_or_replicated}
use Rattle.graph.specs.Work.{Work, job_count_of, precedes, release, deadline, cost}
use Rattle.graph.specs.WorkLaws.{Forward}
use Rattle.plan.specs.Plan.{processor_at, start_at, end_at, Planning, is_placed, last_end, nothing_placed, can_place, start_on, place_at}
use Rattle.plan.specs.Feasible.{Apart}
use Rattle.plan.specs.CheckLaws.{apart_turned}
use Rattle.plan.specs.StartLaws.{start_release, start_last, start_ready, start_least}

-- what the planner needs of a work: what precedes another has the lower number, and releases and deadlines lie within the frame
pub record Plannable (w : Work) : Type 0 where
  pub forward : Forward w
  pub early : (j : ℕ) → j < job_count_of w → release w j ≤ w.frame
  pub due : (j : ℕ) → j < job_count_of w → deadline w j ≤ w.frame

-- n jobs are placed, and as the checker wants them
pub record Sound (w : Work) (m n : ℕ) (s : Planning) : Type 0 where
  pub words_size : length s.words ≡ 2 * job_count_of w
  pub placed_size : length s.placed ≡ job_count_of w
  pub ends_size : length s.ends ≡ m
  pub number : count (job_count_of w) (is_placed s) ≡ n
  -- what precedes a placed job is placed
  pub down : (i j : ℕ) → precedes w i j ≡ true → is_placed s j ≡ true → is_placed s i ≡ true
  pub processor : (j : ℕ) → is_placed s j ≡ true → processor_at s.words j < m
  pub released : (j : ℕ) → is_placed s j ≡ true → release w j ≤ start_at s.words j
  pub in_time : (j : ℕ) → is_placed s j ≡ true → end_at w s.words j ≤ deadline w j
  pub apart : (i j : ℕ) → i ≢ j → is_placed s i ≡ true → is_placed s j ≡ true → Apart w s.words i j
  pub ordered : (i j : ℕ) → precedes w i j ≡ true → is_placed s j ≡ true → end_at w s.words i ≤ start_at s.words j
  -- no job on a processor ends after its last
  pub last : (j : ℕ) → is_placed s j ≡ true → end_at w s.words j ≤ last_end s (processor_at s.words j)
  pub in_frame : (p : ℕ) → last_end s p ≤ w.frame

-- ---- nothing is placed yet

none_placed : (w : Work) (m j : ℕ) → is_placed (nothing_placed w m) j ≡ false
unfolding nothing_placed
none_placed w m j = get_or_replicated (job_count_of w) j false

pub nothing_sound : (w : Work) (m : ℕ) → Sound w m 0 (nothing_placed w m)
unfolding nothing_placed
nothing_sound w m = record {
  words_size = length-replicate _ _;
  placed_size = length-replicate _ _;
  ends_size = length-replicate _ _;
  number = count_none (job_count_of w) (is_placed (nothing_placed w m)) (λ i h. none_placed w m i);
  down = λ i j p e. clash e (none_placed w m j);
  processor = λ j e. clash e (none_placed w m j);
  released = λ j e. clash e (none_placed w m j);
  in_time = λ j e. clash e (none_placed w m j);
  apart = λ i j d e. clash e (none_placed w m i);
  ordered = λ i j p e. clash e (none_placed w m j);
  last = λ j e. clash e (none_placed w m j);
  in_frame = λ p. omega (arith, get_or_replicated {A = ℕ} m p 0);
}

-- ---- what can be placed

module _ (w : Work) (s : Planning) (j : ℕ) (can : can_place w s j ≡ true) where
  -- a job that can be placed is not placed yet
  pub can_unplaced : is_placed s j ≡ false
  unfolding can_place
  can_unplaced = not-true (is_placed s j) (both (not (is_placed s j)) _ can).0

  -- and all that precede it are
  pub can_ready : (i : ℕ) → i < job_count_of w → precedes w i j ≡ true → is_placed s i ≡ true
  unfolding can_place
  can_ready i h e = implies (precedes w i j) (is_placed s i) (all_true (job_count_of w) (λ i. not (precedes w i j) || is_placed s i) (both (not (is_placed s j)) _ can).1 i h) e

-- ---- one more job is placed

module _ (w : Work) (m n : ℕ) (P : Plannable w) (s : Planning) (S : Sound w m n s) (j : ℕ) (hj : j < job_count_of w) (can : can_place w s j ≡ true) where
  -- what precedes it is placed
  ready : (i : ℕ) → precedes w i j ≡ true → is_placed s i ≡ true
  ready i e = can_ready w s j can i (P.forward.within i j e).0 e

  -- its start lies within the frame, wherever it is placed
  pub start_in_frame : (p : ℕ) → start_on w s j p ≤ w.frame
  start_in_frame p = start_least w (end_at w s.words) (last_end s p) j w.frame
      (P.early j hj)
      (λ i e. omega (arith, S.in_time i (ready i e), P.due i (P.forward.within i j e).0))
      (S.in_frame p)

  module _ (p : ℕ) (hp : p < m) (fits : start_on w s j p + cost w j ≤ deadline w j) where
    abbrev start : ℕ
    start = start_on w s j p

    abbrev t : Planning
    t = place_at w s j p

    pub placed_own : is_placed t j ≡ true
    unfolding place_at
    placed_own = get_or-set_same s.placed j true false (omega (arith, S.placed_size))

    pub placed_other : (i : ℕ) → i ≢ j → is_placed t i ≡ is_placed s i
    unfolding place_at
    placed_other i d = get_or-set_other s.placed j i true false d

    processor_own : processor_at t.words j ≡ p
    unfolding place_at
    processor_own =
        get_or-set_other (set s.words (2 * j) p) (2 * j + 1) (2 * j) start 0 (λ e. omega arith)
        ∙ get_or-set_same s.words (2 * j) p 0 (omega (arith, S.words_size))

    processor_other : (i : ℕ) → i ≢ j → processor_at t.words i ≡ processor_at s.words i
    unfolding place_at
    processor_other i d =
        get_or-set_other (set s.words (2 * j) p) (2 * j + 1) (2 * i) start 0 (λ e. omega arith)
        ∙ get_or-set_other s.words (2 * j) (2 * i) p 0 (λ e. d (omega arith))

    pub start_own : start_at t.words j ≡ start
    unfolding place_at
    start_own = get_or-set_same (set s.words (2 * j) p) (2 * j + 1) start 0 (omega (arith, length-set s.words (2 * j) p, S.words_size))

    pub start_other : (i : ℕ) → i ≢ j → start_at t.words i ≡ start_at s.words i
    unfolding place_at
    start_other i d =
        get_or-set_other (set s.words (2 * j) p) (2 * j + 1) (2 * i + 1) start 0 (λ e. d (omega arith))
        ∙ get_or-set_other s.words (2 * j) (2 * i + 1) p 0 (λ e. omega arith)

    pub last_own : last_end t p ≡ start + cost w j
    unfolding place_at
    last_own = get_or-set_same s.ends p (start + cost w j) 0 (omega (arith, S.ends_size))

    pub last_other : (k : ℕ) → k ≢ p → last_end t k ≡ last_end s k
    unfolding place_at
    last_other k d = get_or-set_other s.ends p k (start + cost w j) 0 d

    after_last : last_end s p ≤ start
    after_last = start_last w (end_at w s.words) (last_end s p) j

    after_release : release w j ≤ start
    after_release = start_release w (end_at w s.words) (last_end s p) j

    after_ready : (i : ℕ) → precedes w i j ≡ true → end_at w s.words i ≤ start
    after_ready i e = start_ready w (end_at w s.words) (last_end s p) j P.forward i e

    -- what is said of job j, and of every other job that was placed, is said of all that are placed
    of_placed : (Q : ℕ → Type 0) → Q j → ((k : ℕ) → k ≢ j → is_placed s k ≡ true → Q k) → (k : ℕ) → is_placed t k ≡ true → Q k
    of_placed Q q f k e = elim (ℕ_discrete k j) [ yes z ↦ subst Q (sym z) q | no d ↦ f k d (sym (placed_other k d) ∙ e) ]

    -- the same of processor p and the others
    of_processors : (Q : ℕ → Type 0) → Q p → ((k : ℕ) → k ≢ p → Q k) → (k : ℕ) → Q k
    of_processors Q q f k = elim (ℕ_discrete k p) [ yes z ↦ subst Q (sym z) q | no d ↦ f k d ]

    -- the last end on a processor only grows
    last_grows : (k : ℕ) → last_end s k ≤ last_end t k
    last_grows = of_processors (λ k. last_end s k ≤ last_end t k) (omega (arith, last_own, after_last)) (λ k d. omega (arith, last_other k d))

    -- another job of its processor ends before it
    ends_before : (i : ℕ) → i ≢ j → is_placed s i ≡ true → processor_at t.words i ≡ processor_at t.words j → end_at w t.words i ≤ start_at t.words j
    ends_before i d e same =
        let there : processor_at s.words i ≡ p = sym (processor_other i d) ∙ same ∙ processor_own in
        omega (arith, start_other i d, start_own, after_last, subst (λ x. end_at w s.words i ≤ last_end s x) there (S.last i e))

    -- job j precedes no job that was placed
    not_before : (i k : ℕ) → precedes w i k ≡ true → is_placed s k ≡ true → i ≢ j
    not_before i k e h z = clash (S.down j k (subst (λ x. precedes w x k ≡ true) z e) h) (can_unplaced w s j can)

    apart_own : (i : ℕ) → i ≢ j → is_placed s i ≡ true → Apart w t.words i j
    apart_own i d e same = inl (ends_before i d e same)

    apart_other : (i k : ℕ) → i ≢ j → k ≢ j → Apart w s.words i k → Apart w t.words i k
    apart_other i k di dk a same = go (a (sym (processor_other i di) ∙ same ∙ processor_other k dk))
      where
        go : (end_at w s.words i ≤ start_at s.words k) ⊎ (end_at w s.words k ≤ start_at s.words i)
            → (end_at w t.words i ≤ start_at t.words k) ⊎ (end_at w t.words k ≤ start_at t.words i)
        go (inl l) = inl (omega (arith, start_other i di, start_other k dk))
        go (inr l) = inr (omega (arith, start_other i di, start_other k dk))

    -- no two placed jobs overlap
    placed_apart : (i k : ℕ) → i ≢ k → is_placed t i ≡ true → is_placed t k ≡ true → Apart w t.words i k
    placed_apart i k d hi hk =
        of_placed (λ x. x ≢ k → Apart w t.words x k)
        (λ dj. of_placed (λ y. j ≢ y → Apart w t.words j y) (λ z. absurd (z refl)) (λ y dy hy e. apart_turned w t.words y j (apart_own y dy hy)) k hk dj)
        (λ x dx hx. of_placed (λ y. x ≢ y → Apart w t.words x y) (λ e. apart_own x dx hx) (λ y dy hy e. apart_other x y dx dy (S.apart x y e hx hy)) k hk)
        i hi d

    -- with job j on processor p, all is sound
    pub place_sound : Sound w m (n + 1) t
    unfolding place_at
    place_sound = record {
      words_size = simp length-set S.words_size;
      placed_size = simp length-set S.placed_size;
      ends_size = simp length-set S.ends_size;
      number = count_one_more (job_count_of w) (is_placed s) (is_placed t) j hj (can_unplaced w s j can) placed_own placed_other ∙ ap (λ (x : ℕ). x + 1) S.number;
      down = λ i k e h. elim (ℕ_discrete i j) [
        | yes z ↦ subst (λ x. is_placed t x ≡ true) (sym z) placed_own
        | no d ↦ placed_other i d ∙ of_placed (λ x. precedes w i x ≡ true → is_placed s i ≡ true) (ready i) (λ x dx hx ex. S.down i x ex hx) k h e
      ];
      processor = of_placed (λ k. processor_at t.words k < m) (omega (arith, processor_own)) (λ k d h. omega (arith, processor_other k d, S.processor k h));
      released = of_placed (λ k. release w k ≤ start_at t.words k) (omega (arith, start_own, after_release)) (λ k d h. omega (arith, start_other k d, S.released k h));
      in_time = of_placed (λ k. end_at w t.words k ≤ deadline w k) (omega (arith, start_own)) (λ k d h. omega (arith, start_other k d, S.in_time k h));
      apart = placed_apart;
      ordered = λ i k e h.
          of_placed (λ x. precedes w i x ≡ true → end_at w t.words i ≤ start_at t.words x)
          (λ ej. omega (arith, start_own, start_other i (λ z. omega (arith, P.forward.forward i j ej)), after_ready i ej))
          (λ x dx hx ex. omega (arith, start_other x dx, start_other i (not_before i x ex hx), S.ordered i x ex hx))
          k h e;
      last = of_placed (λ k. end_at w t.words k ≤ last_end t (processor_at t.words k))
          (rw processor_own (omega (arith, start_own, last_own)))
          (λ k d h. rw (processor_other k d) (omega (arith, start_other k d, S.last k h, last_grows (processor_at s.words k))));
      in_frame = of_processors (λ k. last_end t k ≤ w.frame) (omega (arith, last_own, P.due j hj)) (λ k d. omega (arith, last_other k d, S.in_frame k));
    }
