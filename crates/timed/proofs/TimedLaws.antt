-- On a feasible plan the rule of the timed run has exactly one solution, the one that is computed; and with durations up to the budgets each job ends
-- by its planned end, so by its deadline.
use Prim.Native.Nat.{ℕ, zero, suc, ◌+◌, ◌*◌, ◌/◌, ◌%◌, ◌≤◌, ◌<◌}
use Rattle.std.specs.Prelude.{◌≡◌, Bool, true, false, List, [], ◌∷◌, ltb}
use Rattle.std.proofs.Math.Path.{refl, sym, ap}
use Rattle.std.proofs.Common.{◌∙◌, ext_get_or, ltb-true, lt-ltb, le-ltb}
use Rattle.std.proofs.Math.Decide.{dec_lt}
use native.Mathlib.Omega.{arith}
use Rattle.std.proofs.Math.ListN.{length, get_or, length-append, get_or-append}
use Rattle.std.proofs.Math.Seq.{get_or-append-add}
use Rattle.reply.specs.Tools.{count}
use Rattle.reply.specs.Tests.{split}
use Rattle.reply.specs.Counts.{count_most}
use Rattle.network.specs.ListLaws.{get_or_table}
use Rattle.graph.specs.Work.{Work, job_count_of, deadline, cost}
use Rattle.plan.specs.Plan.{start_at, end_at}
use Rattle.timed.specs.Timed.{start_is, duration_of, start_in, end_in, Timed, ends_after, times_to, times_of}
use Rattle.timed.specs.PlannedOrder.{Ordered}
use Rattle.timed.proofs.PlannedOrder.{start_same, starts_by}

-- ---- more pass the one test than the other

count_less : (n : ℕ) (q r : ℕ → Bool) → ((i : ℕ) → i < n → q i ≡ true → r i ≡ true) → count n q ≤ count n r
unfolding count
count_less zero q r f = omega arith
count_less (suc n) q r f = split (q n)
    (λ t. rw (t, f n (omega arith) t) (omega (arith, count_less n q r (λ i h. f i (omega arith)))))
    (λ t. rw t (omega (arith, count_less n q r (λ i h. f i (omega arith)))))

count_fewer : (n : ℕ) (q r : ℕ → Bool) → ((i : ℕ) → i < n → q i ≡ true → r i ≡ true) → (k : ℕ) → k < n → q k ≡ false → r k ≡ true → count n q < count n r
unfolding count
count_fewer zero q r f k h a b = absurd (omega arith)
count_fewer (suc n) q r f k h a b = elim (dec_lt k n) [
  | yes l ↦
      let fewer = count_fewer n q r (λ i h. f i (omega arith)) k l a b in
      split (q n) (λ t. rw (t, f n (omega arith) t) (omega (arith, fewer))) (λ t. rw t (omega (arith, fewer)))
  | no l ↦
      let z : k ≡ n = omega arith in
      let a' : q n ≡ false = ap q (sym z) ∙ a in
      let b' : r n ≡ true = ap r (sym z) ∙ b in
      rw (a', b') (omega (arith, count_less n q r (λ i h. f i (omega arith))))
]

-- ---- the words of a job

module _ (starts ends : ℕ → ℕ) where
  pub times_size : (n : ℕ) → length (times_to starts ends n) ≡ 2 * n
  unfolding times_to
  times_size zero = refl
  times_size (suc n) = length-append (times_to starts ends n) (starts n ∷ ends n ∷ []) ∙ omega (arith, times_size n)

  -- word r of job n
  abbrev own : ℕ → ℕ → ℕ
  own n r = get_or (starts n ∷ ends n ∷ []) r 0

  word_at : (n j r : ℕ) → j < n → r < 2 → get_or (times_to starts ends n) (2 * j + r) 0 ≡ get_or (starts j ∷ ends j ∷ []) r 0
  unfolding times_to
  word_at zero j r h k = absurd (omega arith)
  word_at (suc n) j r h k = elim (dec_lt j n) [
    | yes l ↦ get_or-append (times_to starts ends n) (starts n ∷ ends n ∷ []) 0 (2 * j + r) (omega (arith, times_size n)) ∙ word_at n j r l k
    | no l ↦
        let z : n ≡ j = omega arith in
        let e : 2 * j + r ≡ length (times_to starts ends n) + r = omega (arith, times_size n) in
        ap (λ (x : ℕ). get_or (times_to starts ends (suc n)) x 0) e ∙ get_or-append-add (times_to starts ends n) (starts n ∷ ends n ∷ []) r 0 ∙ ap (λ (x : ℕ). own x r) z
  ]

  pub times_start : (n j : ℕ) → j < n → start_in (times_to starts ends n) j ≡ starts j
  times_start n j h = let z : 2 * j ≡ 2 * j + 0 = omega arith in ap (λ (x : ℕ). get_or (times_to starts ends n) x 0) z ∙ word_at n j 0 h (omega arith)

  pub times_end : (n j : ℕ) → j < n → end_in (times_to starts ends n) j ≡ ends j
  times_end n j h = word_at n j 1 h (omega arith)

module _ {w : Work} {m : ℕ} {plan : List ℕ} (O : Ordered w m plan) (durations : List ℕ) where
  -- ---- the rounds settle

  -- how many jobs are planned to start before job j
  abbrev rank : ℕ → ℕ
  rank j = count (job_count_of w) (λ i. ltb (start_at plan i) (start_at plan j))

  rank_less : (i j : ℕ) → i < job_count_of w → start_at plan i < start_at plan j → rank i < rank j
  rank_less i j h l = count_fewer (job_count_of w) _ _
      (λ k hk e. lt-ltb (start_at plan k) (start_at plan j) (omega (arith, ltb-true (start_at plan k) (start_at plan i) e)))
      i h (le-ltb (start_at plan i) (start_at plan i) (omega arith)) (lt-ltb (start_at plan i) (start_at plan j) l)

  rank_below : (j : ℕ) → j < job_count_of w → rank j < job_count_of w
  rank_below j h = omega (
    arith,
    count_fewer (job_count_of w) (λ k. ltb (start_at plan k) (start_at plan j)) (λ k. true) (λ k hk e. refl) j h (le-ltb (start_at plan j) (start_at plan j) (omega arith)) refl,
    count_most (job_count_of w) (λ k. true),
  )

  -- the end of job j after k rounds
  abbrev end : ℕ → ℕ → ℕ
  end k j = get_or (ends_after w plan durations k) j 0

  one_round : (k j : ℕ) → j < job_count_of w → end (suc k) j ≡ start_is w plan (end k) j + duration_of durations j
  unfolding ends_after
  one_round k j h = get_or_table (job_count_of w) _ j 0 h

  -- a round more than jobs are planned before it settles a job
  settled : (k j : ℕ) → j < job_count_of w → rank j < k → end (suc k) j ≡ end k j
  settled zero j h l = absurd (omega arith)
  settled (suc k) j h l =
      one_round (suc k) j h
      ∙ ap (λ (x : ℕ). x + duration_of durations j) (start_same O (end (suc k)) (end k) j (λ i hi before. settled k i hi (omega (arith, rank_less i j hi before))))
      ∙ sym (one_round k j h)

  -- ---- there is a solution

  abbrev last : ℕ → ℕ
  last = end (job_count_of w)

  pub computed : Timed w plan durations (times_of w plan durations)
  unfolding times_of
  computed = record {
    size = times_size (start_is w plan last) last (job_count_of w);
    start = λ j h.
        times_start (start_is w plan last) last (job_count_of w) j h
        ∙ start_same O last (end_in (times_of w plan durations)) j (λ i hi before. sym (times_end (start_is w plan last) last (job_count_of w) i hi));
    end = λ j h.
        times_end (start_is w plan last) last (job_count_of w) j h
        ∙ sym (settled (job_count_of w) j h (rank_below j h))
        ∙ one_round (job_count_of w) j h
        ∙ ap (λ (x : ℕ). x + duration_of durations j) (sym (times_start (start_is w plan last) last (job_count_of w) j h));
  }

  -- ---- and no other

  module _ (a b : List ℕ) (s : Timed w plan durations a) (t : Timed w plan durations b) where
    same_start : (j : ℕ) → j < job_count_of w → ((i : ℕ) → i < job_count_of w → start_at plan i < start_at plan j → end_in a i ≡ end_in b i) → start_in a j ≡ start_in b j
    same_start j h ih = s.start j h ∙ start_same O (end_in a) (end_in b) j ih ∙ sym (t.start j h)

    same_along : (k j : ℕ) → start_at plan j < k → j < job_count_of w → end_in a j ≡ end_in b j
    same_along zero j l h = absurd (omega arith)
    same_along (suc k) j l h = omega (arith, s.end j h, t.end j h, same_start j h (λ i hi before. same_along k i (omega arith) hi))

    same_end : (j : ℕ) → j < job_count_of w → end_in a j ≡ end_in b j
    same_end j h = same_along (suc (start_at plan j)) j (omega arith) h

    words : (k r j : ℕ) → r < 2 → k ≡ 2 * j + r → j < job_count_of w → get_or a k 0 ≡ get_or b k 0
    words k zero j hr e h = let z : k ≡ 2 * j = omega arith in rw z (same_start j h (λ i hi l. same_end i hi))
    words k (suc zero) j hr e h = rw e (same_end j h)
    words k (suc (suc r)) j hr e h = absurd (omega arith)

    pub one_solution : a ≡ b
    one_solution = ext_get_or 0 a b (s.size ∙ sym t.size) λ k h.
        let z : k ≡ 2 * (k / 2) + k % 2 = omega arith in
        let r : k % 2 < 2 = omega arith in
        let q : k / 2 < job_count_of w = omega (arith, s.size) in
        words k (k % 2) (k / 2) r z q

  -- ---- in time

  module _ (short : (j : ℕ) → j < job_count_of w → duration_of durations j ≤ cost w j) (times : List ℕ) (t : Timed w plan durations times) where
    by_plan : (k j : ℕ) → start_at plan j < k → j < job_count_of w → end_in times j ≤ end_at w plan j
    by_plan zero j l h = absurd (omega arith)
    by_plan (suc k) j l h =
        omega (arith, t.end j h, t.start j h, short j h, starts_by O (end_in times) j h (λ i hi before. by_plan k i (omega arith) hi))

    -- every job ends by its planned end
    pub ends_by_plan : (j : ℕ) → j < job_count_of w → end_in times j ≤ end_at w plan j
    ends_by_plan j h = by_plan (suc (start_at plan j)) j (omega arith) h

    -- and so by its deadline
    pub ends_in_time : (j : ℕ) → j < job_count_of w → end_in times j ≤ deadline w j
    ends_in_time j h = omega (arith, ends_by_plan j h, O.feasible.in_time j h)
