-- The planner, job after job: it always has a job to choose, what it places is as the checker wants it, and it refuses only where the job that it chooses ends late.
use Prim.Native.Nat.{ℕ, zero, suc, ◌+◌, ◌*◌, ◌≤◌, ◌<◌}
use Rattle.std.specs.Prelude.{◌≡◌, Bool, true, false, ◌||◌, List, leb, length}
use Rattle.std.proofs.Math.Path.{refl}
use Rattle.std.proofs.Common.{subst, arith}
use Rattle.std.proofs.Math.Bool.{not}
use Rattle.std.proofs.Math.Numerals.{add-one}
use borrow.Author.Tests.{leb-true, leb-false, not-true, not-false}
use Rattle.reply.specs.Tools.{all, first}
use Rattle.reply.specs.Tests.{split, both_true, implies_true}
use Rattle.reply.specs.AllAny.{all_true, all_make, all_false}
use Rattle.reply.specs.Counts.{count_all, count_full}
use Rattle.reply.specs.First.{first_is, first_found}
use Rattle.reply.specs.Pick.{Lowest, picked, some_picked}
use Rattle.reply.specs.Result.{Result, done, refused, and_then}
use Rattle.reply.specs.declared.Reply.{Reply}
use Rattle.reply.specs.declared.Reply.TheVariants.{MissesDeadline}
use Rattle.graph.specs.Work.{Work, job_count_of, precedes, deadline, cost}
use Rattle.plan.specs.Plan.{Planning, is_placed, can_place, chosen, start_on, any_processor, earliest, place_on, place_job, placing, planned_by}
use Rattle.plan.specs.Feasible.{Feasible}
use Rattle.plan.specs.PlaceLaws.{Plannable, Sound, nothing_sound, place_sound}

-- ---- the statements

-- what the planner does next
pub record Choice (w : Work) (m : ℕ) (s : Planning) : Type 0 where
  pub job : ℕ
  pub processor : ℕ
  -- "among jobs whose predecessors are placed, take the least deadline, then the least number"
  pub job_is : Lowest (can_place w s) (deadline w) (job_count_of w) job
  -- "take the processor with the earliest start, then the smallest number"
  pub processor_is : Lowest any_processor (start_on w s job) m processor
  -- that is what the definition does
  pub chooses : chosen w s ≡ suc job
  pub places : earliest w m s job ≡ suc processor

-- the reply is 19, and job j is the "first such job placed"
pub record Misses (w : Work) (m : ℕ) (reply : Reply) (j : ℕ) : Type 0 where
  pub is : reply ≡ MissesDeadline
  pub below : j < job_count_of w
  -- some jobs are placed, one after another
  pub number : ℕ
  pub so_far : Planning
  pub placed : placing w m number ≡ done so_far
  -- the next is job j
  pub next : Choice w m so_far
  pub job_is : next.job ≡ j
  -- its start plus its cost passes its deadline
  pub late : deadline w j < start_on w so_far j next.processor + cost w j

-- ---- there is a job to choose

module _ (w : Work) (m n : ℕ) (P : Plannable w) (s : Planning) (S : Sound w m n s) where
  -- fewer than all are placed: one is not
  some_unplaced : n < job_count_of w → (i : ℕ) × (i < job_count_of w) × (is_placed s i ≡ false)
  some_unplaced l = split (all (job_count_of w) (is_placed s))
      (λ t. absurd (omega (arith, S.number, count_all (job_count_of w) (is_placed s) (all_true (job_count_of w) (is_placed s) t))))
      (λ t. all_false (job_count_of w) (is_placed s) t)

  -- a job can be placed where all lower ones are
  can_make : (j : ℕ) → is_placed s j ≡ false → ((i : ℕ) → i < j → is_placed s i ≡ true) → can_place w s j ≡ true
  unfolding can_place
  can_make j t f = both_true (not (is_placed s j)) _ (rw t refl)
      (all_make (job_count_of w) (λ i. not (precedes w i j) || is_placed s i) (λ i h. implies_true (precedes w i j) (is_placed s i) (λ e. f i (P.forward.forward i j e))))

  -- the first job that is not placed can be placed
  some_can : n < job_count_of w → (j : ℕ) × (j < job_count_of w) × (can_place w s j ≡ true)
  some_can l =
      let (i, h, t) = some_unplaced l in
      let unplaced : ℕ → Bool = λ k. not (is_placed s k) in
      let j : ℕ = first (job_count_of w) unplaced in
      let (hj, tj) = first_found (job_count_of w) unplaced i h (rw t refl) in
      (j, hj, can_make j (not-true (is_placed s j) tj) (λ k lk. not-false (is_placed s k) ((first_is (job_count_of w) unplaced).before k (omega arith) lk)))

  -- so there is one to choose, and a processor for it
  pub has_choice : n < job_count_of w → 1 ≤ m → Choice w m s
  unfolding chosen earliest
  has_choice l h =
      let (i, hi, t) = some_can l in
      let (j, cj) = some_picked (can_place w s) (deadline w) (job_count_of w) i hi t in
      let (p, cp) = some_picked any_processor (start_on w s j) m 0 h refl in
      record {
        job = j;
        processor = p;
        job_is = picked (can_place w s) (deadline w) (job_count_of w) j cj;
        processor_is = picked any_processor (start_on w s j) m p cp;
        chooses = cj;
        places = cp;
      }

-- ---- all jobs

-- after n jobs all is sound, or one misses its deadline
abbrev pub SoundOr : Work → ℕ → ℕ → Result Planning → Type 0
SoundOr w m n (done s) = Sound w m n s
SoundOr w m n (refused reply place) = Misses w m reply place

module _ (w : Work) (m : ℕ) (P : Plannable w) (some : 1 ≤ m) where
  -- one job more
  place_next : (n : ℕ) (s : Planning) → placing w m n ≡ done s → Sound w m n s → n < job_count_of w → SoundOr w m (suc n) (place_job w m s (chosen w s))
  unfolding place_job place_on
  place_next n s e S l =
      let c : Choice w m s = has_choice w m n P s S l some in
      let j : ℕ = c.job in
      let p : ℕ = c.processor in
      rw (c.chooses, c.places) (split (leb (start_on w s j p + cost w j) (deadline w j))
      (λ t. rw (t, ← add-one n) (place_sound w m n P s S j c.job_is.below c.job_is.passes p c.processor_is.below (leb-true _ _ t)))
      (λ t. rw t (record { is = refl; below = c.job_is.below; number = n; so_far = s; placed = e; next = c; job_is = refl; late = leb-false _ _ t })))

  -- n jobs
  pub placed_sound : (n : ℕ) → n ≤ job_count_of w → SoundOr w m n (placing w m n)
  unfolding placing
  placed_sound zero h = nothing_sound w m
  placed_sound (suc n) h = go (placing w m n) refl (placed_sound n (omega arith))
    where
      go : (r : Result Planning) → placing w m n ≡ r → SoundOr w m n r → SoundOr w m (suc n) (and_then r λ s. place_job w m s (chosen w s))
      go (done s) e S = place_next n s e S h
      go (refused reply place) e M = M

  -- all jobs: the plan is feasible
  all_placed : (s : Planning) → Sound w m (job_count_of w) s → Feasible w m s.words
  all_placed s S =
      let each : (j : ℕ) → j < job_count_of w → is_placed s j ≡ true = count_full (job_count_of w) (is_placed s) S.number in
      record {
        processor = λ j h. S.processor j (each j h);
        released = λ j h. S.released j (each j h);
        in_time = λ j h. S.in_time j (each j h);
        apart = λ i j hi hj d. S.apart i j d (each i hi) (each j hj);
        ordered = λ i j h p. S.ordered i j p (each j h);
      }

  -- what the planner's answer says
  abbrev Planned : Result (List ℕ) → Type 0
  Planned (done words) = Feasible w m words × (length words ≡ 2 * job_count_of w)
  Planned (refused reply place) = Misses w m reply place

  planned : Planned (planned_by w m)
  unfolding planned_by
  planned = go (placing w m (job_count_of w)) (placed_sound (job_count_of w) (omega arith))
    where
      go : (r : Result Planning) → SoundOr w m (job_count_of w) r → Planned (and_then r λ s. done s.words)
      go (done s) S = (all_placed s S, S.words_size)
      go (refused reply place) M = M

  -- its plan is feasible
  pub planned_feasible : (words : List ℕ) → planned_by w m ≡ done words → Feasible w m words
  planned_feasible words e = (subst Planned e planned).0

  -- its plan has two words for each job
  pub planned_size : (words : List ℕ) → planned_by w m ≡ done words → length words ≡ 2 * job_count_of w
  planned_size words e = (subst Planned e planned).1

  -- and its refusal is a deadline missed
  pub planned_misses : (reply : Reply) (place : ℕ) → planned_by w m ≡ refused reply place → Misses w m reply place
  planned_misses reply place e = subst Planned e planned
