-- The checker accepts exactly the feasible plans, and refuses each other by the first fault of its least faulty job. It reads no words past the plan.
use Rattle.std.specs.Prelude.{ℕ, ◌*◌, ◌+◌, ◌≤◌, ◌<◌, ◌≡◌, ◌⊎◌, Bool, true, false, cond, not, List, ltb, leb, eqb, get_or}
use Rattle.std.proofs.Math.Path.{refl, subst}
use Rattle.std.proofs.Common.{sym, ap, ◌∙◌, inl, inr, arith}
use Rattle.std.proofs.Math.Decide.{dec_lt}
use borrow.Author.Tests.{ltb-true, ltb-false, leb-true, leb-false, lt-ltb, eqb-true, eq-eqb, not-true, not-false}
use Rattle.reply.specs.Tools.{any}
use Rattle.reply.specs.Tests.{clash, both, both_true}
use Rattle.reply.specs.AllAny.{any_true, any_false, any_same}
use Rattle.reply.specs.Reply.{reply_number}
use Rattle.reply.specs.Result.{Result, done, refused, and_then, require, in_order}
use Rattle.reply.specs.ResultLaws.{Refusal, refusal_of, order_done, order_make, order_refused, order_same, Honest, honest_then, honest_require, honest_order}
use Rattle.reply.specs.declared.Reply.{Reply}
use Rattle.reply.specs.declared.Reply.TheVariants.{WrongProcessor, BeforeRelease, EndsLate, Overlaps, BeforePredecessor}
use Rattle.graph.specs.Work.{Work, job_count_of, release, deadline, precedes}
use Rattle.graph.specs.WorkLaws.{Forward}
use Rattle.plan.specs.Plan.{processor_at, start_at, end_at, overlap, too_soon, fault, checked_by}
use Rattle.plan.specs.Feasible.{Apart, Feasible, Overlapping, Fault, wrong_processor, before_release, ends_late, overlaps, before_predecessor, Faulty}
use Rattle.plan.specs.CheckLaws.{apart_turned}

-- ---- one judged after another

-- ---- the tests

module _ (w : Work) (plan : List ℕ) where
  overlap_true : (i j : ℕ) → overlap w plan i j ≡ true → Overlapping w plan i j
  unfolding overlap
  overlap_true i j e =
      let (same, r) = both (eqb (processor_at plan i) (processor_at plan j)) _ e in
      let (before, after) = both (ltb (start_at plan i) (end_at w plan j)) (ltb (start_at plan j) (end_at w plan i)) r in
      record { together = eqb-true _ _ same; before = ltb-true _ _ before; after = ltb-true _ _ after }

  overlap_make : (i j : ℕ) → Overlapping w plan i j → overlap w plan i j ≡ true
  unfolding overlap
  overlap_make i j o = rw (eq-eqb _ _ o.together, lt-ltb _ _ o.before, lt-ltb _ _ o.after)

  too_soon_true : (i j : ℕ) → too_soon w plan i j ≡ true → (precedes w i j ≡ true) × (start_at plan j < end_at w plan i)
  unfolding too_soon
  too_soon_true i j e = let (p, l) = both (precedes w i j) _ e in (p, ltb-true _ _ l)

  too_soon_make : (i j : ℕ) → precedes w i j ≡ true → start_at plan j < end_at w plan i → too_soon w plan i j ≡ true
  unfolding too_soon
  too_soon_make i j p l = both_true _ _ p (lt-ltb _ _ l)

-- ---- one job

module _ (w : Work) (m : ℕ) (plan : List ℕ) where
  -- a fault is not told as "done"
  honest_fault : (j : ℕ) → Honest (fault w m plan j)
  unfolding fault
  honest_fault j =
      honest_then _ _ (honest_require (ltb (processor_at plan j) m) WrongProcessor j (omega arith)) λ ok₁.
      honest_then _ _ (honest_require (leb (release w j) (start_at plan j)) BeforeRelease j (omega arith)) λ ok₂.
      honest_then _ _ (honest_require (leb (end_at w plan j) (deadline w j)) EndsLate j (omega arith)) λ ok₃.
      honest_then _ _ (honest_require (not (any j (λ i. overlap w plan i j))) Overlaps j (omega arith)) λ ok₄.
      honest_require (not (any j (λ i. too_soon w plan i j))) BeforePredecessor j (omega arith)

  pub honest_check : Honest (checked_by w m plan)
  unfolding checked_by
  honest_check = honest_order (job_count_of w) (fault w m plan) (λ j h. honest_fault j)

-- the fault of a number
numbered : ℕ → Reply
numbered n = cond (eqb n 11) WrongProcessor (cond (eqb n 12) BeforeRelease (cond (eqb n 13) EndsLate (cond (eqb n 14) Overlaps BeforePredecessor)))

module _ (w : Work) (m : ℕ) (plan : List ℕ) (F : Forward w) where
  -- job j has no fault of a number below n, where the tests up to there pass
  none_below : (j n : ℕ)
      → (11 < n → processor_at plan j < m)
      → (12 < n → release w j ≤ start_at plan j)
      → (13 < n → end_at w plan j ≤ deadline w j)
      → (14 < n → any j (λ i. overlap w plan i j) ≡ false)
      → (15 < n → any j (λ i. too_soon w plan i j) ≡ false)
      → (r : Reply) → reply_number r < n → ¬ (Fault w m plan j r)
  none_below j n a b c d e r h (wrong_processor f) = omega (arith, a h)
  none_below j n a b c d e r h (before_release f) = omega (arith, b h)
  none_below j n a b c d e r h (ends_late f) = omega (arith, c h)
  none_below j n a b c d e r h (overlaps i l f) = clash (overlap_make w plan i j f) (any_false j (λ i. overlap w plan i j) (d h) i l)
  none_below j n a b c d e r h (before_predecessor i p f) = clash (too_soon_make w plan i j p f) (any_false j (λ i. too_soon w plan i j) (e h) i (F.forward i j p))

  -- faults have numbers up to 15
  number_below : (j : ℕ) (r : Reply) → Fault w m plan j r → reply_number r < 16
  number_below j r (wrong_processor f) = omega arith
  number_below j r (before_release f) = omega arith
  number_below j r (ends_late f) = omega arith
  number_below j r (overlaps i l f) = omega arith
  number_below j r (before_predecessor i p f) = omega arith

  is_numbered : (j : ℕ) (r : Reply) → Fault w m plan j r → r ≡ numbered (reply_number r)
  unfolding numbered
  is_numbered j r (wrong_processor f) = refl
  is_numbered j r (before_release f) = refl
  is_numbered j r (ends_late f) = refl
  is_numbered j r (overlaps i l f) = refl
  is_numbered j r (before_predecessor i p f) = refl

  -- job j's first fault
  record FirstFault (j : ℕ) (reply : Reply) : Type 0 where
    has : Fault w m plan j reply
    first : (earlier : Reply) → reply_number earlier < reply_number reply → ¬ (Fault w m plan j earlier)

  -- what a judgement of job j says
  abbrev Judged : ℕ → Result (Unit {0}) → Type 0
  Judged j (done u) = (r : Reply) → ¬ (Fault w m plan j r)
  Judged j (refused reply place) = (place ≡ j) × FirstFault j reply

  -- a test that fails is the first fault; one that passes leaves the rest
  test : (j : ℕ) (t : Bool) (reply : Reply) → (t ≡ false → FirstFault j reply) → (t ≡ true → (r : Reply) → ¬ (Fault w m plan j r)) → Judged j (require t reply j)
  test j true reply f g = g refl
  test j false reply f g = (refl, f refl)

  test_then : (j : ℕ) (t : Bool) (reply : Reply) (next : Unit {0} → Result (Unit {0}))
      → (t ≡ false → FirstFault j reply) → (t ≡ true → Judged j (next tt)) → Judged j (and_then (require t reply j) next)
  test_then j true reply next f g = g refl
  test_then j false reply next f g = (refl, f refl)

  judged : (j : ℕ) → Judged j (fault w m plan j)
  unfolding fault
  judged j =
      test_then j (ltb (processor_at plan j) m) WrongProcessor _
      (λ a. record {
        has = wrong_processor (ltb-false _ _ a);
        first = none_below j 11 (omega arith) (omega arith) (omega arith) (λ h. absurd (omega arith)) (λ h. absurd (omega arith));
      }) λ a.
      test_then j (leb (release w j) (start_at plan j)) BeforeRelease _
      (λ b. record {
        has = before_release (leb-false _ _ b);
        first = none_below j 12 (λ h. ltb-true _ _ a) (omega arith) (omega arith) (λ h. absurd (omega arith)) (λ h. absurd (omega arith));
      }) λ b.
      test_then j (leb (end_at w plan j) (deadline w j)) EndsLate _
      (λ c. record {
        has = ends_late (leb-false _ _ c);
        first = none_below j 13 (λ h. ltb-true _ _ a) (λ h. leb-true _ _ b) (omega arith) (λ h. absurd (omega arith)) (λ h. absurd (omega arith));
      }) λ c.
      test_then j (not (any j (λ i. overlap w plan i j))) Overlaps _
      (λ d. record {
        has = let (i, l, o) = any_true j (λ i. overlap w plan i j) (not-false _ d) in overlaps i l (overlap_true w plan i j o);
        first = none_below j 14 (λ h. ltb-true _ _ a) (λ h. leb-true _ _ b) (λ h. leb-true _ _ c) (λ h. absurd (omega arith)) (λ h. absurd (omega arith));
      }) λ d.
      test j (not (any j (λ i. too_soon w plan i j))) BeforePredecessor
      (λ e. record {
        has =
            let (i, l, o) = any_true j (λ i. too_soon w plan i j) (not-false _ e) in
            let (p, s) = too_soon_true w plan i j o in
            before_predecessor i p s;
        first = none_below j 15 (λ h. ltb-true _ _ a) (λ h. leb-true _ _ b) (λ h. leb-true _ _ c) (λ h. not-true _ d) (λ h. absurd (omega arith));
      }) λ e r f.
      none_below j 16 (λ h. ltb-true _ _ a) (λ h. leb-true _ _ b) (λ h. leb-true _ _ c) (λ h. not-true _ d) (λ h. not-true _ e) r (number_below j r f) f

  none_found : (j : ℕ) → fault w m plan j ≡ done tt → (r : Reply) → ¬ (Fault w m plan j r)
  none_found j e = subst (Judged j) e (judged j)

  first_found : (j : ℕ) (reply : Reply) (place : ℕ) → fault w m plan j ≡ refused reply place → (place ≡ j) × FirstFault j reply
  first_found j reply place e = subst (Judged j) e (judged j)

  -- there is only one first fault
  one_first : (j : ℕ) (r q : Reply) → FirstFault j r → FirstFault j q → r ≡ q
  one_first j r q F G = elim (dec_lt (reply_number r) (reply_number q)) [
    | yes l ↦ absurd (G.first r l F.has)
    | no l ↦ elim (dec_lt (reply_number q) (reply_number r)) [
      | yes k ↦ absurd (F.first q k G.has)
      | no k ↦ is_numbered j r F.has ∙ ap numbered (omega arith) ∙ sym (is_numbered j q G.has)
    ]
  ]

  -- a job without a fault passes
  passes : (j : ℕ) → ((r : Reply) → ¬ (Fault w m plan j r)) → fault w m plan j ≡ done tt
  passes j none = go (fault w m plan j) refl
    where
      go : (r : Result (Unit {0})) → fault w m plan j ≡ r → r ≡ done tt
      go (done tt) e = refl
      go (refused reply place) e = absurd (none reply (first_found j reply place e).1.has)

  -- a job whose first fault is given is refused by it
  refuses : (j : ℕ) (reply : Reply) → FirstFault j reply → fault w m plan j ≡ refused reply j
  refuses j reply F = go (fault w m plan j) refl
    where
      go : (r : Result (Unit {0})) → fault w m plan j ≡ r → r ≡ refused reply j
      go (done tt) e = absurd (none_found j e reply F.has)
      go (refused other place) e =
          let (is, G) = first_found j other place e in
          rw (is, one_first j other reply G F)

  -- ---- all jobs

  -- a feasible plan's jobs have no faults
  feasible_faultless : Feasible w m plan → (j : ℕ) → j < job_count_of w → (r : Reply) → ¬ (Fault w m plan j r)
  feasible_faultless f j h r (wrong_processor e) = omega (arith, f.processor j h)
  feasible_faultless f j h r (before_release e) = omega (arith, f.released j h)
  feasible_faultless f j h r (ends_late e) = omega (arith, f.in_time j h)
  feasible_faultless f j h r (overlaps i l o) = go (f.apart i j (omega arith) h (λ z. omega arith) o.together)
    where
      go : (end_at w plan i ≤ start_at plan j) ⊎ (end_at w plan j ≤ start_at plan i) → ⊥
      go (inl e) = omega (arith, o.after)
      go (inr e) = omega (arith, o.before)
  feasible_faultless f j h r (before_predecessor i p e) = omega (arith, f.ordered i j h p)

  -- a plan whose jobs have no faults is feasible
  module _ (none : (j : ℕ) → j < job_count_of w → (r : Reply) → ¬ (Fault w m plan j r)) where
    lower_apart : (i j : ℕ) → i < j → j < job_count_of w → Apart w plan i j
    lower_apart i j l h same = elim (dec_lt (start_at plan j) (end_at w plan i)) [
      | yes a ↦ elim (dec_lt (start_at plan i) (end_at w plan j)) [
        | yes b ↦ absurd (none j h Overlaps (overlaps i l (record { together = same; before = b; after = a })))
        | no b ↦ inr (omega arith)
      ]
      | no a ↦ inl (omega arith)
    ]

    faultless_feasible : Feasible w m plan
    faultless_feasible = record {
      processor = λ j h. elim (dec_lt (processor_at plan j) m) [ yes l ↦ l | no l ↦ absurd (none j h WrongProcessor (wrong_processor (omega arith))) ];
      released = λ j h. elim (dec_lt (start_at plan j) (release w j)) [ yes l ↦ absurd (none j h BeforeRelease (before_release l)) | no l ↦ omega arith ];
      in_time = λ j h. elim (dec_lt (deadline w j) (end_at w plan j)) [ yes l ↦ absurd (none j h EndsLate (ends_late l)) | no l ↦ omega arith ];
      apart = λ i j hi hj d. elim (dec_lt i j) [ yes l ↦ lower_apart i j l hj | no l ↦ apart_turned w plan j i (lower_apart j i (omega arith) hi) ];
      ordered = λ i j h p. elim (dec_lt (start_at plan j) (end_at w plan i)) [ yes l ↦ absurd (none j h BeforePredecessor (before_predecessor i p l)) | no l ↦ omega arith ];
    }

  -- accepted plans are feasible
  pub checked_feasible : checked_by w m plan ≡ done tt → Feasible w m plan
  unfolding checked_by
  checked_feasible e = faultless_feasible λ j h. none_found j (order_done (fault w m plan) (job_count_of w) e j h)

  -- feasible plans are accepted
  pub feasible_checked : Feasible w m plan → checked_by w m plan ≡ done tt
  unfolding checked_by
  feasible_checked f = order_make (fault w m plan) (job_count_of w) λ j h. passes j (feasible_faultless f j h)

  -- a refusal names the least faulty job and its first fault
  pub refused_faulty : (reply : Reply) (j : ℕ) → checked_by w m plan ≡ refused reply j → Faulty w m plan reply j
  unfolding checked_by
  refused_faulty reply j e =
      let R : Refusal (fault w m plan) (job_count_of w) reply j = refusal_of (job_count_of w) (fault w m plan) reply j e in
      let (is, F) = first_found R.at reply j R.refuses in
      subst (Faulty w m plan reply) (sym is) (record {
        below = R.below;
        has = F.has;
        first = F.first;
        least = λ i l. none_found i (order_done (fault w m plan) R.at R.before i l);
      })

  -- the least faulty job and its first fault are what a refusal names
  pub faulty_refused : (reply : Reply) (j : ℕ) → Faulty w m plan reply j → checked_by w m plan ≡ refused reply j
  unfolding checked_by
  faulty_refused reply j F =
      order_refused (fault w m plan) j (job_count_of w) reply j F.below
      (order_make (fault w m plan) j λ i l. passes i (F.least i l))
      (refuses j reply (record { has = F.has; first = F.first }))

  -- jobs that have passed end by their deadlines
  pub passed_in_time : (i j : ℕ) → i < j → in_order j (fault w m plan) ≡ done tt → end_at w plan i ≤ deadline w i
  passed_in_time i j l e = elim (dec_lt (deadline w i) (end_at w plan i)) [
    | yes h ↦ absurd (none_found i (order_done (fault w m plan) j e i l) EndsLate (ends_late h))
    | no h ↦ omega arith
  ]

-- ---- "words beyond 2·J are not read"

module _ (w : Work) (m : ℕ) (a b : List ℕ) (same : (k : ℕ) → k < 2 * job_count_of w → get_or a k 0 ≡ get_or b k 0) where
  overlap_same : (i j : ℕ) → i < job_count_of w → j < job_count_of w → overlap w a i j ≡ overlap w b i j
  unfolding overlap
  overlap_same i j hi hj = rw (same (2 * i) (omega arith), same (2 * j) (omega arith), same (2 * i + 1) (omega arith), same (2 * j + 1) (omega arith))

  too_soon_same : (i j : ℕ) → i < job_count_of w → j < job_count_of w → too_soon w a i j ≡ too_soon w b i j
  unfolding too_soon
  too_soon_same i j hi hj = rw (same (2 * i + 1) (omega arith), same (2 * j + 1) (omega arith))

  fault_same : (j : ℕ) → j < job_count_of w → fault w m a j ≡ fault w m b j
  unfolding fault
  fault_same j h = rw (
    any_same j (λ i. overlap w a i j) (λ i. overlap w b i j) (λ i l. overlap_same i j (omega arith) h),
    any_same j (λ i. too_soon w a i j) (λ i. too_soon w b i j) (λ i l. too_soon_same i j (omega arith) h),
    same (2 * j) (omega arith),
    same (2 * j + 1) (omega arith),
  )

  -- plans with the same first words are judged the same
  pub checked_same : checked_by w m a ≡ checked_by w m b
  unfolding checked_by
  checked_same = order_same (job_count_of w) (fault w m a) (fault w m b) fault_same
