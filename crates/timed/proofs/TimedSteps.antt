-- One step of the timed run on its tables: the job that is planned next gets its start and its end.
use Rattle.std.specs.Prelude.{ℕ, suc, ◌+◌, ◌*◌, ◌≤◌, ◌<◌, max, ◌≡◌, refl, ◌≢◌, true, false, cond, not, List, get_or, set, take, Some, eqb}
use Rattle.std.proofs.Common.{sym, subst, ◌∙◌, arith, length-set, get_or-set_same, get_or-set_other, length-take-le, get_or-take}
use Rattle.std.proofs.Math.Path.{ap, ap₂}
use Rattle.std.proofs.Math.Decide.{ℕ_discrete, dec_lt}
use Rattle.std.proofs.lemmas.List.{length-replicate}
use borrow.Author.Tests.{not-true, eqb-true, ne_eqb}
use Rattle.reply.specs.Tools.{all}
use Rattle.reply.specs.Tests.{split, clash}
use Rattle.reply.specs.AllAny.{all_true, all_false}
use Rattle.reply.specs.Counts.{count_none, count_all, count_full, count_one_more}
use Rattle.reply.specs.Pick.{Lowest, picked, none_picked}
use Rattle.marks.specs.Row.{marked}
use Rattle.marks.specs.Laws.{marked_none, with_same, with_other}
use Rattle.marks.specs.declared.Row.{Row}
use Rattle.graph.specs.Work.{Work, job_count_of}
use Rattle.network.specs.ListLaws.{get_or_replicated}
use Rattle.plan.specs.Greatest.{greatest}
use Rattle.plan.specs.StartLaws.{ready_by_lem}
use Rattle.plan.specs.Plan.{processor_at, start_at, end_at, ready_at, start_after}
use Rattle.plan.specs.PlanTold.{picked_of, job_at, row_at, ready_by}
use Rattle.plan.proofs.PlanLoops.{suc_of}
use Rattle.timed.specs.Timed.{is_earlier, job_before, end_before, start_is, duration_of, start_in, end_in, Timed}
use Rattle.timed.specs.PlannedOrder.{Ordered}
use Rattle.plan.specs.Standing.{nothing_by}
use Rattle.plan.specs.declared.standing.Standing.{Standing}
use Rattle.timed.proofs.PlannedOrder.{earlier_true, earlier_make, before_same, before_none, starts_early, starts_apart, before_is, start_same, starts_by}
use Rattle.timed.specs.TimedTold.{Lent, jobs_in, Timable, StartsSmall, KeysTell, Chooses, is_timed, next_by, run_by, Reached}

-- planned ends are not after the deadlines, which are small
pub small_starts : {w : Work} {m : ℕ} {t : Lent} → Timable w m t → StartsSmall t.plan (jobs_in t)
small_starts T = record {
  few = T.few;
  there = T.plan_there;
  small = λ j h. omega (arith, T.ordered.feasible.in_time j (omega (arith, T.count_is)), T.small j h);
}

-- ---- keys

-- a key that is the greatest word, and one that is not
timed_key : (keys : List ℕ) (j : ℕ) → eqb (get_or keys j 0) 4294967295 ≡ true → get_or keys j 0 ≡ 4294967295
timed_key keys j e = eqb-true _ _ e

key_untimed : (keys : List ℕ) (j : ℕ) → get_or keys j 0 < 4294967295 → eqb (get_or keys j 0) 4294967295 ≡ false
key_untimed keys j l = ne_eqb _ _ (λ (e : get_or keys j 0 ≡ 4294967295). omega arith)

-- what the keys tell of a job
module _ {timed : Row} {plan keys : List ℕ} {n : ℕ} (K : KeysTell timed plan n keys) where
  timed_key_told : (j : ℕ) → j < n → marked timed j ≡ true → get_or keys j 0 ≡ 4294967295
  timed_key_told j h e = K.timed_one j h e

  key_untimed_told : (j : ℕ) → j < n → get_or keys j 0 < 4294967295 → marked timed j ≡ false
  key_untimed_told j h l = split (marked timed j) (λ e. absurd (omega (arith, K.timed_one j h e))) (λ e. e)

-- ---- one step

module _ {w : Work} {m : ℕ} {t : Lent} {k : ℕ} {timing : Standing} (R : Reached w m t k timing) (below : k < jobs_in t) where
  abbrev n : ℕ
  n = jobs_in t

  abbrev words : List ℕ
  words = timing.words

  abbrev O : Ordered w m t.plan
  O = R.timable.ordered

  abbrev J : job_count_of w ≡ n
  J = R.timable.count_is

  -- ---- the job that is next

  -- job j is not timed, and no job that is not is planned before it
  pub record Next (j : ℕ) : Type 0 where
    pub low : j < jobs_in t
    pub untimed : is_timed timing j ≡ false
    pub least : (i : ℕ) → i < jobs_in t → is_timed timing i ≡ false → start_at t.plan j ≤ start_at t.plan i

  earlier_timed : {j : ℕ} → Next j → (i : ℕ) → i < jobs_in t → start_at t.plan i < start_at t.plan j → is_timed timing i ≡ true
  earlier_timed N i h l = split (is_timed timing i) (λ e. e) (λ e. absurd (omega (arith, N.least i h e)))

  some_untimed : (i : ℕ) × (i < jobs_in t) × (is_timed timing i ≡ false)
  some_untimed = split (all n (is_timed timing))
      (λ e. absurd (omega (arith, R.number, count_all n (is_timed timing) (all_true n (is_timed timing) e))))
      (λ e. all_false n (is_timed timing) e)

  start_early : (j : ℕ) → j < jobs_in t → start_at t.plan j ≤ 2000
  start_early = (small_starts R.timable).small

  -- one is chosen
  pub some_next : {P : Type 0} → next_by timing.jobs t.plan (jobs_in t) ≡ 0 → P
  some_next e =
      let (i, hi, untimed) = some_untimed in
      let found : not (is_timed timing i) ≡ true = rw untimed refl in
      let none : not (is_timed timing i) ≡ false = none_picked (λ j. not (is_timed timing j)) (start_at t.plan) n e i hi in
      clash found none

  -- it is the one of least key
  pub chosen_told : {keys : List ℕ} {job : ℕ} → KeysTell timing.jobs t.plan (jobs_in t) keys → Chooses keys job → Some job ≡ picked_of (next_by timing.jobs t.plan (jobs_in t))
  chosen_told {job} K C = let e : suc job ≡ next_by timing.jobs t.plan (jobs_in t) = C.is timing.jobs t.plan (jobs_in t) (small_starts R.timable) K some_next in rw (sym e) refl

  -- and it is next
  least_next : {job : ℕ} → next_by timing.jobs t.plan (jobs_in t) ≡ suc job → Next job
  least_next {job} e =
      let L : Lowest (λ j. not (is_timed timing j)) (start_at t.plan) n job = picked (λ j. not (is_timed timing j)) (start_at t.plan) n job e in
      record { low = L.below; untimed = not-true (is_timed timing job) L.passes; least = λ i h u. L.least i h (rw u refl) }

  module _ {j : ℕ} (N : Next j) where
    abbrev row : Row
    row = row_at t.framed j

    abbrev hj : j < job_count_of w
    hj = omega (arith, N.low, J)

    abbrev p : ℕ
    p = processor_at t.plan j

    pub processor_low : processor_at t.plan j < 4
    processor_low = omega (arith, O.feasible.processor j hj, R.timable.processors)

    -- ---- its start

    end_at_lem : (i : ℕ) → i < jobs_in t → start_at t.plan i < start_at t.plan j → get_or timing.ends i 0 ≡ end_in words i
    end_at_lem i h l = R.end_is i h (earlier_timed N i h l)

    ready_is : greatest j (λ i. cond (marked (row_at t.framed j) i) (get_or timing.ends i 0) 0) ≡ ready_at w (end_in words) j
    ready_is = ready_by_lem O.forward j hj row (λ i. R.timable.row_is i j N.low) timing.ends (end_in words)
        (λ i e. end_at_lem i (omega (arith, (O.forward.within i j e).0, J)) (starts_early O i j e))

    pub start_is_lem : max (ready_by timing.ends (row_at t.framed j) j (job_at t.framed j).release) (get_or timing.last (processor_at t.plan j) 0) ≡ start_is w t.plan (end_in words) j
    unfolding start_is start_after
    start_is_lem = ap₂ max (ap₂ max (R.timable.release_is j N.low) ready_is)
        (R.last_is j N.low N.untimed (λ i h e. earlier_timed N i h (earlier_true t.plan j i e).1))

    -- it is not after the planned start
    start_by_lem : start_is w t.plan (end_in words) j ≤ start_at t.plan j
    start_by_lem = starts_by O (end_in words) j hj (λ i h l. R.by_plan i (omega (arith, J)) (earlier_timed N i (omega (arith, J)) l))

    pub start_small : start_is w t.plan (end_in words) j ≤ 2000
    start_small = omega (arith, start_by_lem, O.feasible.in_time j hj, R.timable.small j N.low)

    pub duration_small : duration_of t.durations j ≤ 2000
    duration_small = omega (arith, R.timable.short j N.low, O.feasible.in_time j hj, R.timable.small j N.low)

    -- ---- and what the arrays tell then

    abbrev st : ℕ
    st = start_is w t.plan (end_in words) j

    abbrev en : ℕ
    en = st + duration_of t.durations j

    abbrev words' : List ℕ
    words' = set (set words (2 * j) st) (2 * j + 1) en

    end_other : (i : ℕ) → i ≢ j → end_in words' i ≡ end_in words i
    end_other i d =
        get_or-set_other (set words (2 * j) st) (2 * j + 1) (2 * i + 1) en 0 (λ e. d (omega arith))
        ∙ get_or-set_other words (2 * j) (2 * i + 1) st 0 (λ e. omega arith)

    start_other : (i : ℕ) → i ≢ j → start_in words' i ≡ start_in words i
    start_other i d =
        get_or-set_other (set words (2 * j) st) (2 * j + 1) (2 * i) en 0 (λ e. omega arith)
        ∙ get_or-set_other words (2 * j) (2 * i) st 0 (λ e. d (omega arith))

    start_own : start_in words' j ≡ st
    start_own =
        get_or-set_other (set words (2 * j) st) (2 * j + 1) (2 * j) en 0 (λ e. omega arith)
        ∙ get_or-set_same words (2 * j) st 0 (omega (arith, R.words_size, N.low, R.timable.few))

    end_own : end_in words' j ≡ en
    end_own = get_or-set_same (set words (2 * j) st) (2 * j + 1) en 0 (omega (arith, length-set words (2 * j) st, R.words_size, N.low, R.timable.few))

    abbrev after : Standing
    after = run_by timing j p st en

    timed_own : is_timed after j ≡ true
    timed_own = with_same timing.jobs j (omega (arith, N.low, R.timable.few))

    -- and the keys with it timed, whatever they are
    abbrev keys' : List ℕ → List ℕ
    keys' keys = set keys j 4294967295

    key_other : (keys : List ℕ) (i : ℕ) → i ≢ j → get_or (keys' keys) i 0 ≡ get_or keys i 0
    key_other keys i d = get_or-set_other keys j i 4294967295 0 d

    timed_other : (i : ℕ) → i ≢ j → is_timed after i ≡ is_timed timing i
    timed_other i d = with_other timing.jobs j i d

    -- what is planned before a job that is timed now was timed already
    earlier_other : (i x : ℕ) → i < jobs_in t → x < jobs_in t → is_timed after x ≡ true → start_at t.plan i < start_at t.plan x → is_timed timing i ≡ true
    earlier_other i x hi hx e l = elim (ℕ_discrete x j) [
      | yes z ↦ earlier_timed N i hi (subst (λ y. start_at t.plan i < start_at t.plan y) z l)
      | no d ↦ R.down i x hi hx l (sym (timed_other x d) ∙ e)
    ]

    not_it : (i : ℕ) → is_timed timing i ≡ true → i ≢ j
    not_it i e z = clash (ap (is_timed timing) (sym z) ∙ e) N.untimed

    starts_same : (x : ℕ) → x < jobs_in t → is_timed after x ≡ true → start_is w t.plan (end_in words) x ≡ start_is w t.plan (end_in words') x
    starts_same x h e = start_same O (end_in words) (end_in words') x
        (λ i hi l. sym (end_other i (not_it i (earlier_other i x (omega (arith, J)) h e l))))

    abbrev last' : List ℕ
    last' = set timing.last p en

    -- the job before a job that is next on its processor: job j, if that is on its processor; if not, it stays
    last_then : (x : ℕ) → x < jobs_in t → is_timed after x ≡ false → ((i : ℕ) → i < jobs_in t → is_earlier t.plan x i ≡ true → is_timed after i ≡ true)
        → get_or last' (processor_at t.plan x) 0 ≡ end_before (end_in words') (job_before w t.plan x)
    last_then x h e before = elim (ℕ_discrete x j) [
      | yes z ↦ clash (ap (is_timed after) z ∙ timed_own) e
      | no d ↦
          let un : is_timed timing x ≡ false = sym (timed_other x d) ∙ e in
          elim (ℕ_discrete (processor_at t.plan x) p) [
            | yes same ↦
                let first : start_at t.plan j < start_at t.plan x =
                starts_apart O j x hj (omega (arith, J)) (λ z. d (sym z)) (sym same) (N.least x h un) in
                let is : job_before w t.plan x ≡ suc j = before_is O j x hj (earlier_make t.plan x j (sym same) first) (λ i hi f. latest i (omega (arith, J)) f) in
                ap (λ (y : ℕ). get_or last' y 0) same
                ∙ get_or-set_same timing.last p en 0 (omega (arith, R.last_size, processor_low))
                ∙ sym (rw is end_own)
            | no other ↦
                get_or-set_other timing.last p (processor_at t.plan x) en 0 other
                ∙ R.last_is x h un (λ i hi f. sym (timed_other i (elsewhere i other f)) ∙ before i hi f)
                ∙ before_same w t.plan x (end_in words) (end_in words') (λ i hi one l. sym (end_other i (λ z. other (sym one ∙ ap (processor_at t.plan) z))))
          ]
    ]
      where
        elsewhere : (i : ℕ) → processor_at t.plan x ≢ p → is_earlier t.plan x i ≡ true → i ≢ j
        elsewhere i other f z = other (sym (earlier_true t.plan x i f).0 ∙ ap (processor_at t.plan) z)

        latest : (i : ℕ) → i < jobs_in t → is_earlier t.plan x i ≡ true → start_at t.plan i ≤ start_at t.plan j
        latest i hi f = elim (ℕ_discrete i j) [
          | yes z ↦ subst (λ y. start_at t.plan y ≤ start_at t.plan j) (sym z) (omega arith)
          | no d ↦ split (is_timed timing i)
              (λ e. elim (dec_lt (start_at t.plan j) (start_at t.plan i)) [
                | yes l ↦ clash (R.down j i N.low hi l e) N.untimed
                | no l ↦ omega arith
              ])
              (λ e. clash (before i hi f) (timed_other i d ∙ e))
        ]

    pub next_reached : Reached w m t (suc k) (run_by timing j (processor_at t.plan j) (start_is w t.plan (end_in timing.words) j) (start_is w t.plan (end_in timing.words) j + duration_of t.durations j))
    next_reached = record {
      timable = R.timable;
      ends_size = simp length-set R.ends_size;
      last_size = simp length-set R.last_size;
      words_size = simp length-set R.words_size;
      number = count_one_more n (is_timed timing) (is_timed after) j N.low N.untimed timed_own timed_other ∙ omega (arith, R.number);
      down = λ i x hi hx l e. let was = earlier_other i x hi hx e l in timed_other i (not_it i was) ∙ was;
      start = λ x h e. elim (ℕ_discrete x j) [
        | yes z ↦ subst (λ y. start_in words' y ≡ start_is w t.plan (end_in words') y) (sym z) (start_own ∙ starts_same j N.low timed_own)
        | no d ↦ start_other x d ∙ R.start x h (sym (timed_other x d) ∙ e) ∙ starts_same x h e
      ];
      end = λ x h e. elim (ℕ_discrete x j) [
        | yes z ↦ subst (λ y. end_in words' y ≡ start_in words' y + duration_of t.durations y) (sym z) (end_own ∙ ap (λ (y : ℕ). y + duration_of t.durations j) (sym start_own))
        | no d ↦ end_other x d ∙ R.end x h (sym (timed_other x d) ∙ e) ∙ ap (λ (y : ℕ). y + duration_of t.durations x) (sym (start_other x d))
      ];
      end_is = λ x h e. elim (ℕ_discrete x j) [
        | yes z ↦ subst (λ y. get_or (set timing.ends j en) y 0 ≡ end_in words' y) (sym z) (get_or-set_same timing.ends j en 0 (omega (arith, R.ends_size, N.low, R.timable.few)) ∙ sym end_own)
        | no d ↦ get_or-set_other timing.ends j x en 0 d ∙ R.end_is x h (sym (timed_other x d) ∙ e) ∙ sym (end_other x d)
      ];
      by_plan = λ x h e. elim (ℕ_discrete x j) [
        | yes z ↦ subst (λ y. end_in words' y ≤ end_at w t.plan y) (sym z) (omega (arith, end_own, start_by_lem, R.timable.short j N.low))
        | no d ↦ omega (arith, end_other x d, R.by_plan x h (sym (timed_other x d) ∙ e))
      ];
      last_is = last_then;
    }

  -- ---- the same, by what is chosen

  module _ {job : ℕ} (L : Some job ≡ picked_of (next_by timing.jobs t.plan (jobs_in t))) where
    chosen : Next job
    chosen = least_next (suc_of L)

    pub chosen_low : job < jobs_in t
    chosen_low = chosen.low

    pub chosen_fits : job < 128
    chosen_fits = omega (arith, chosen.low, R.timable.few)

    pub chosen_processor : processor_at t.plan job < 4
    chosen_processor = processor_low chosen

    module _ {ready start : ℕ} (ready_told : ready ≡ ready_by timing.ends (row_at t.framed job) job (job_at t.framed job).release)
        (start-at : start ≡ max ready (get_or timing.last (processor_at t.plan job) 0)) where
      starts_so : start ≡ start_is w t.plan (end_in timing.words) job
      starts_so = start-at ∙ ap (λ (x : ℕ). max x (get_or timing.last (processor_at t.plan job) 0)) ready_told ∙ start_is_lem chosen

      pub chosen_small : start + duration_of t.durations job ≤ 4000
      chosen_small = omega (arith, starts_so, start_small chosen, duration_small chosen)

      pub chosen_reached : Reached w m t (suc k) (run_by timing job (processor_at t.plan job) start (start + duration_of t.durations job))
      chosen_reached = rw starts_so (next_reached chosen)

-- ---- all steps

-- no job is timed yet
pub none_reached : {w : Work} {m : ℕ} {t : Lent} → Timable w m t → Reached w m t 0 nothing_by
none_reached {w} {m} {t} T = record {
  timable = T;
  ends_size = length-replicate {A = ℕ} 128 0;
  last_size = length-replicate {A = ℕ} 4 0;
  words_size = length-replicate {A = ℕ} 256 0;
  number = count_none (jobs_in t) (is_timed nothing_by) none;
  down = λ i j hi hj l e. clash e (none j hj);
  start = λ j h e. clash e (none j h);
  end = λ j h e. clash e (none j h);
  end_is = λ j h e. clash e (none j h);
  by_plan = λ j h e. clash e (none j h);
  last_is = λ j h e before.
      let first : job_before w t.plan j ≡ 0 =
      before_none w t.plan j (λ i hi. split (is_earlier t.plan j i)
      (λ f. let l : i < jobs_in t = omega (arith, T.count_is) in clash (before i l f) (none i l)) (λ f. f)) in
      rw first (get_or_replicated {A = ℕ} 4 (processor_at t.plan j) 0);
}
  where
    none : (j : ℕ) → j < jobs_in t → is_timed nothing_by j ≡ false
    none j h = marked_none j

-- all are timed
pub all_timed : {w : Work} {m : ℕ} {t : Lent} {timing : Standing} → Reached w m t (jobs_in t) timing → Timed w t.plan t.durations (take (2 * jobs_in t) timing.words)
all_timed {w} {m} {t} {timing} R = record {
  size = length-take-le (2 * jobs_in t) timing.words (omega (arith, R.words_size, T.few)) ∙ ap (λ (x : ℕ). 2 * x) (sym T.count_is);
  start = λ j h.
      first (2 * j) (omega (arith, T.count_is))
      ∙ R.start j (low h) (is_timed_lem (low h))
      ∙ start_same T.ordered (end_in timing.words) (end_in (take (2 * jobs_in t) timing.words)) j (λ i hi l. sym (first (2 * i + 1) (omega (arith, T.count_is))));
  end = λ j h.
      first (2 * j + 1) (omega (arith, T.count_is))
      ∙ R.end j (low h) (is_timed_lem (low h))
      ∙ ap (λ (x : ℕ). x + duration_of t.durations j) (sym (first (2 * j) (omega (arith, T.count_is))));
}
  where
    T : Timable w m t
    T = R.timable

    low : {j : ℕ} → j < job_count_of w → j < jobs_in t
    low h = omega (arith, R.timable.count_is)

    is_timed_lem : {j : ℕ} → j < jobs_in t → is_timed timing j ≡ true
    is_timed_lem {j} h = count_full (jobs_in t) (is_timed timing) R.number j h

    first : (i : ℕ) → i < 2 * jobs_in t → get_or (take (2 * jobs_in t) timing.words) i 0 ≡ get_or timing.words i 0
    first i h = get_or-take (2 * jobs_in t) timing.words i 0 h
