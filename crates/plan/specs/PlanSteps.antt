-- One step of the planner on its tables is one step of the definition.
use Prim.Native.Nat.{ℕ, zero, suc, ◌+◌, ◌*◌, ◌≤◌, ◌<◌, max}
use Rattle.std.specs.Prelude.{◌≡◌, ◌≢◌, Bool, false, cond, ◌&&◌, ◌||◌, get_or, take}
use Rattle.std.proofs.Math.Path.{refl, sym, ap, ap₂}
use Rattle.std.proofs.Common.{subst, ◌∙◌, get_or-set_same}
use Rattle.std.proofs.Math.Bool.{true, not}
use mathlib.Core.List.{List, [], ◌∷◌}
use Rattle.std.proofs.Math.Decide.{ℕ_discrete, dec_lt}
use native.Mathlib.Omega.{arith}
use Rattle.std.proofs.Math.ListN.{set, length-set}
use Rattle.std.proofs.lemmas.List.{length-replicate}
use Rattle.std.proofs.Math.Seq.{get_or-set_other, take-set-lt}
use borrow.Author.Tests.{le-leb, lt-leb}
use Rattle.reply.specs.Tools.{all, pick}
use Rattle.reply.specs.Tests.{clash, same_test, implies, implies_true}
use Rattle.reply.specs.AllAny.{all_true, all_make}
use Rattle.reply.specs.Pick.{pick_same}
use Rattle.reply.specs.Result.{done, refused}
use Rattle.reply.specs.declared.Reply.{Reply}
use Rattle.reply.specs.declared.Reply.TheVariants.{MissesDeadline}
use Rattle.marks.specs.Row.{marked, inside_of}
use Rattle.marks.specs.Laws.{inside_marks, marks_inside, marked_none, with_same, with_other}
use Rattle.marks.specs.declared.Row.{Row}
use Rattle.network.specs.ListLaws.{get_or_replicated, take_replicate}
use Rattle.graph.specs.Work.{Work, job_count_of, precedes, release, deadline, cost}
use Rattle.plan.specs.Greatest.{greatest}
use Rattle.plan.specs.Plan.{end_at, Planning, is_placed, nothing_placed, can_place, chosen, ready_at, start_after, start_on, any_processor, earliest, place_at, place_on, place_job, placing, planned_by}
use Rattle.plan.specs.StartLaws.{ready_by_lem}
use Rattle.plan.specs.PlaceLaws.{Sound, can_ready, start_in_frame, placed_own, placed_other, start_own, start_other, last_own, last_other}
use Rattle.plan.specs.PlannerLaws.{Choice, SoundOr, has_choice, placed_sound}
use Rattle.graph.specs.declared.Framed.{Framed}
use Rattle.plan.specs.declared.planning.Next.{Next}
use Rattle.plan.specs.declared.standing.Standing.{Standing}
use Rattle.plan.specs.Standing.{nothing_by, stand_by}
use Rattle.plan.specs.PlanTold.{can_by, choice_by, ready_by, start_by, job_at, row_at, HasChoice, NextIs, Tabled, Stands, Reached}

-- a refusal on the way stays
placing_stays : (w : Work) (m k n : ℕ) (reply : Reply) (j : ℕ) → k ≤ n → placing w m k ≡ refused reply j → placing w m n ≡ refused reply j
unfolding placing
placing_stays w m k zero reply j h e = let same : k ≡ 0 = omega arith in subst (λ x. placing w m x ≡ refused reply j) same e
placing_stays w m k (suc n) reply j h e = elim (dec_lt n k) [
  | yes l ↦ let same : k ≡ suc n = omega arith in subst (λ x. placing w m x ≡ refused reply j) same e
  | no l ↦ rw (placing_stays w m k n reply j (omega arith) e) refl
]

module _ {w : Work} {t : Framed} {m k : ℕ} {placed : Standing} (R : Reached w t m k placed) (below : k < t.job_count) where
  abbrev s : Planning
  s = R.so_far

  abbrev n : ℕ
  n = t.job_count

  abbrev row : ℕ → Row
  row j = row_at t j

  count_is : job_count_of w ≡ t.job_count
  count_is = R.tabled.count

  placed_is : (j : ℕ) → j < t.job_count → marked placed.jobs j ≡ is_placed R.so_far j
  placed_is j h = R.stands.placed_is j (omega (arith, count_is))

  sound : Sound w m k R.so_far
  sound = subst (SoundOr w m k) R.are_placed (placed_sound w m R.tabled.plannable R.tabled.processors.0 k (omega (arith, count_is)))

  -- there is a job to place next, and a processor for it
  pub next : Choice w m R.so_far
  next = has_choice w m k R.tabled.plannable s sound (omega (arith, count_is)) R.tabled.processors.0

  -- ---- the job

  can_is : (j : ℕ) → j < t.job_count → can_by placed.jobs (row_at t j) j ≡ can_place w R.so_far j
  unfolding can_place
  can_is j h = rw (placed_is j h) (ap (λ (b : Bool). not (is_placed s j) && b) inside_is)
    where
      inside_is : inside_of (row j) placed.jobs ≡ all (job_count_of w) (λ i. not (precedes w i j) || is_placed s i)
      inside_is = same_test _ _ forth back
        where
          forth : inside_of (row j) placed.jobs ≡ true → all (job_count_of w) (λ i. not (precedes w i j) || is_placed s i) ≡ true
          forth u = all_make (job_count_of w) _ (λ i l. implies_true (precedes w i j) (is_placed s i)
              (λ e. sym (placed_is i (omega (arith, count_is))) ∙ inside_marks (row j) placed.jobs u i (R.tabled.row_is i j h ∙ e)))

          back : all (job_count_of w) (λ i. not (precedes w i j) || is_placed s i) ≡ true → inside_of (row j) placed.jobs ≡ true
          back u = marks_inside (row j) placed.jobs (λ i e. it_holds i (sym (R.tabled.row_is i j h) ∙ e))
            where
              it_holds : (i : ℕ) → precedes w i j ≡ true → marked placed.jobs i ≡ true
              it_holds i e =
                  let l : i < job_count_of w = (R.tabled.plannable.forward.within i j e).0 in
                  R.stands.placed_is i l ∙ implies (precedes w i j) (is_placed s i) (all_true (job_count_of w) _ u i l) e

  pub choice_is : choice_by t placed.jobs t.job_count ≡ suc next.job
  unfolding chosen
  choice_is =
      pick_same _ (can_place w s) _ (deadline w) t.job_count can_is R.tabled.deadline_is
      ∙ ap (pick (can_place w s) (deadline w)) (sym count_is)
      ∙ next.chooses

  -- so there is one to choose; the deadlines are small, and there is a processor
  pub some_choice : (1 ≤ choice_by t placed.jobs t.job_count) × ((j : ℕ) → j < t.job_count → (job_at t j).deadline ≤ 2000) × (t.job_count ≤ 128) × (1 ≤ m) × (m ≤ 4)
  some_choice = (
    omega (arith, choice_is),
    λ j h. omega (arith, R.tabled.deadline_is j h, R.tabled.plannable.due j (omega (arith, count_is)), R.tabled.small),
    R.tabled.few,
    R.tabled.processors.0,
    R.tabled.processors.1,
  )

  pub one_to_place : HasChoice t m placed.jobs
  one_to_place = (some_choice.0, some_choice.2, some_choice.3, some_choice.4)

  -- ---- its start

  abbrev j : ℕ
  j = next.job

  pub job_below : next.job < t.job_count
  job_below = omega (arith, next.job_is.below, count_is)

  ready : (i : ℕ) → precedes w i next.job ≡ true → is_placed R.so_far i ≡ true
  ready i e = can_ready w s j next.job_is.passes i (R.tabled.plannable.forward.within i j e).0 e

  ends_are : greatest next.job (λ i. cond (marked (row_at t next.job) i) (get_or placed.ends i 0) 0) ≡ ready_at w (end_at w R.so_far.words) next.job
  ends_are = ready_by_lem R.tabled.plannable.forward j next.job_is.below (row j) (λ i. R.tabled.row_is i j job_below) placed.ends (end_at w s.words)
      (λ i e. R.stands.ends_are i (R.tabled.plannable.forward.within i j e).0 (ready i e))

  ready_is : ready_by placed.ends (row_at t next.job) next.job (job_at t next.job).release
      ≡ max (release w next.job) (ready_at w (end_at w R.so_far.words) next.job)
  ready_is = ap₂ max (R.tabled.release_is j job_below) ends_are

  start_is : (p : ℕ) → p < m
      → start_by placed.last (ready_by placed.ends (row_at t next.job) next.job (job_at t next.job).release) p ≡ start_on w R.so_far next.job p
  unfolding start_after
  start_is p h = ap₂ max ready_is (R.stands.last_is p h)

  -- ---- what is chosen

  module _ {r : Next} (C : NextIs t m placed r) where
    abbrev i : ℕ
    i = r.job

    abbrev p : ℕ
    p = r.processor

    abbrev start : ℕ
    start = r.start

    job_same : r.job ≡ next.job
    job_same = omega (arith, choice_is, C.job_is)

    ready_same : C.ready ≡ ready_by placed.ends (row_at t next.job) next.job (job_at t next.job).release
    ready_same = subst (λ i. C.ready ≡ ready_by placed.ends (row i) i (job_at t i).release) job_same C.ready_is

    processor_same : r.processor ≡ next.processor
    unfolding earliest
    processor_same = omega (
      arith,
      C.processor_is
          ∙ pick_same any_processor any_processor (start_by placed.last C.ready) (start_on w s j) m (λ q h. refl) (λ q h. ap (λ (x : ℕ). start_by placed.last x q) ready_same ∙ start_is q h)
          ∙ next.places,
    )

    start_same : r.start ≡ start_on w R.so_far next.job next.processor
    start_same = C.start_is ∙ ap₂ (start_by placed.last) ready_same processor_same ∙ start_is next.processor next.processor_is.below

    pub job_low : r.job < t.job_count
    job_low = omega (arith, job_same, job_below)

    pub processor_low : r.processor < m
    processor_low = omega (arith, processor_same, next.processor_is.below)

    budget_same : (job_at t r.job).budget ≡ cost w next.job
    budget_same = ap (λ (x : ℕ). (job_at t x).budget) job_same ∙ R.tabled.budget_is j job_below

    deadline_same : (job_at t r.job).deadline ≡ deadline w next.job
    deadline_same = ap (λ (x : ℕ). (job_at t x).deadline) job_same ∙ R.tabled.deadline_is j job_below

    pub job_fits : r.job < 128
    job_fits = omega (arith, job_low, R.tabled.few)

    pub processor_fits : r.processor < 4
    processor_fits = omega (arith, processor_low, R.tabled.processors)

    -- its numbers are small
    pub start_small : r.start ≤ 2000
    start_small =
        omega (arith, start_same, R.tabled.small, start_in_frame w m k R.tabled.plannable s sound j next.job_is.below next.job_is.passes next.processor)

    pub budget_small : (job_at t r.job).budget ≤ 2000
    budget_small =
        omega (arith, budget_same, R.tabled.fits j job_below, R.tabled.plannable.due j next.job_is.below, R.tabled.small)

    pub end_fits : r.start + (job_at t r.job).budget < 4294967296
    end_fits = omega (arith, start_small, budget_small)

    -- ---- and what becomes of it

    pub misses : (job_at t r.job).deadline < r.start + (job_at t r.job).budget → placing w m (suc k) ≡ refused MissesDeadline r.job
    unfolding placing place_job place_on
    misses h =
        rw (R.are_placed, next.chooses, next.places, job_same, lt-leb (start_on w s j next.processor + cost w j) (deadline w j) (omega (arith, start_same, budget_same, deadline_same)))
        refl

    module _ (fits : r.start + (job_at t r.job).budget ≤ (job_at t r.job).deadline) where
      abbrev q : ℕ
      q = next.processor

      abbrev from : ℕ
      from = start_on w s j q

      in_time : from + cost w j ≤ deadline w j
      in_time = omega (arith, start_same, budget_same, deadline_same)

      abbrev after : Planning
      after = place_at w s j q

      abbrev hj : j < job_count_of w
      hj = next.job_is.below

      is_placed_lem : placing w m (suc k) ≡ done after
      unfolding placing place_job place_on
      is_placed_lem = rw (R.are_placed, next.chooses, next.places, le-leb (from + cost w j) (deadline w j) in_time) refl

      own : is_placed after j ≡ true
      own = placed_own w m k R.tabled.plannable s sound j hj next.job_is.passes q next.processor_is.below in_time

      other : (x : ℕ) → x ≢ j → is_placed after x ≡ is_placed s x
      other = placed_other w m k R.tabled.plannable s sound j hj next.job_is.passes q next.processor_is.below in_time

      end_own : end_at w after.words j ≡ from + cost w j
      end_own = ap (λ (x : ℕ). x + cost w j) (start_own w m k R.tabled.plannable s sound j hj next.job_is.passes q next.processor_is.below in_time)

      end_other : (x : ℕ) → x ≢ j → end_at w after.words x ≡ end_at w s.words x
      end_other x d = ap (λ (y : ℕ). y + cost w x) (start_other w m k R.tabled.plannable s sound j hj next.job_is.passes q next.processor_is.below in_time x d)

      stands : Stands w m after (stand_by placed j q (q ∷ from ∷ []) (from + cost w j))
      unfolding place_at
      stands = record {
        ends_size = simp length-set R.stands.ends_size;
        last_size = simp length-set R.stands.last_size;
        words_size = simp length-set R.stands.words_size;
        placed_is = λ x h. elim (ℕ_discrete x j) [
          | yes e ↦ rw e (with_same placed.jobs j (omega (arith, job_below, R.tabled.few)) ∙ sym own)
          | no d ↦ with_other placed.jobs j x d ∙ R.stands.placed_is x h ∙ sym (other x d)
        ];
        ends_are = λ x h e. elim (ℕ_discrete x j) [
          | yes z ↦ rw z (get_or-set_same placed.ends j (from + cost w j) 0 (omega (arith, job_below, R.tabled.few, R.stands.ends_size)) ∙ sym end_own)
          | no d ↦ get_or-set_other placed.ends j x (from + cost w j) 0 d ∙ R.stands.ends_are x h (sym (other x d) ∙ e) ∙ sym (end_other x d)
        ];
        last_is = λ x h. elim (ℕ_discrete x q) [
          | yes z ↦ rw z (get_or-set_same placed.last q (from + cost w j) 0 (omega (arith, next.processor_is.below, R.tabled.processors, R.stands.last_size))
              ∙ sym (last_own w m k R.tabled.plannable s sound j hj next.job_is.passes q next.processor_is.below in_time))
          | no d ↦ get_or-set_other placed.last q x (from + cost w j) 0 d ∙ R.stands.last_is x h
              ∙ sym (last_other w m k R.tabled.plannable s sound j hj next.job_is.passes q next.processor_is.below in_time x d)
        ];
        words_are = take-set-lt (2 * job_count_of w) (set placed.words (2 * j) q) (2 * j + 1) from (omega (arith, hj))
            ∙ ap (λ (l : List ℕ). set l (2 * j + 1) from) (take-set-lt (2 * job_count_of w) placed.words (2 * j) q (omega (arith, hj)) ∙ ap (λ (l : List ℕ). set l (2 * j) q) R.stands.words_are);
      }

      pub placed_so : Reached w t m (suc k) (stand_by placed r.job r.processor (r.processor ∷ r.start ∷ []) (r.start + (job_at t r.job).budget))
      placed_so = rw (budget_same, start_same, processor_same, job_same) (record { tabled = R.tabled; so_far = after; are_placed = is_placed_lem; stands = stands })

-- ---- all steps

-- nothing is placed yet
pub none_reached : {w : Work} {t : Framed} {m : ℕ} → Tabled w t m → Reached w t m 0 nothing_by
unfolding placing nothing_placed
none_reached {w} {t} {m} T = record {
  tabled = T;
  so_far = nothing_placed w m;
  are_placed = refl;
  stands = record {
    ends_size = length-replicate {A = ℕ} 128 0;
    last_size = length-replicate {A = ℕ} 4 0;
    words_size = length-replicate {A = ℕ} 256 0;
    placed_is = λ j h. marked_none j ∙ sym (get_or_replicated (job_count_of w) j false);
    ends_are = λ j h e. clash e (get_or_replicated (job_count_of w) j false);
    last_is = λ p h. get_or_replicated {A = ℕ} 4 p 0 ∙ sym (get_or_replicated {A = ℕ} m p 0);
    words_are = take_replicate (2 * job_count_of w) 256 0 (omega (arith, T.few, T.count));
  };
}

-- all are placed
pub all_planned : {w : Work} {t : Framed} {m : ℕ} {placed : Standing} → Reached w t m t.job_count placed → planned_by w m ≡ done (take (2 * t.job_count) placed.words)
unfolding planned_by
all_planned {placed} R = rw (R.tabled.count, R.are_placed) (ap done (sym R.stands.words_are ∙ ap (λ (x : ℕ). take (2 * x) placed.words) R.tabled.count))

-- a job on the way misses its deadline
pub one_misses : (w : Work) (m k : ℕ) (reply : Reply) (j : ℕ) → k ≤ job_count_of w → placing w m k ≡ refused reply j → planned_by w m ≡ refused reply j
unfolding planned_by
one_misses w m k reply j h e = rw (placing_stays w m k (job_count_of w) reply j h e) refl
