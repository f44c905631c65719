-- How long a listing is: a line, the lines of jobs, the head, the whole. 4,096 bytes hold every one.
use Rattle.std.specs.Prelude.{ℕ, zero, suc, ◌+◌, ◌*◌, ◌≤◌, ◌<◌, ◌≡◌, List, [], ◌∷◌, ◌++◌, length}
use Rattle.std.proofs.Math.Path.{refl}
use Rattle.std.proofs.Common.{sym, ◌∙◌, append_assoc, add-one}
use native.Mathlib.Omega.{arith}
use Rattle.std.proofs.Math.ListN.{length-append}
use Rattle.reply.specs.Tools.{count, sum}
use Rattle.reply.specs.Counts.{count_most, sum_zero, sum_suc}
use Rattle.reply.specs.Result.{done}
use Rattle.network.specs.Net.{Net}
use Rattle.network.specs.Valid.{Valid}
use Rattle.graph.specs.Work.{Work, work_of, job_of, job_count_of}
use Rattle.graph.specs.Graph.{edge_count, reduction, stays}
use Rattle.graph.specs.GraphLaws.{edges_counted}
use Rattle.graph.specs.Promise.{jobs_are}
use Rattle.graph.specs.declared.Job.{Job}
use Rattle.plan.specs.Plan.{processor_at, start_at, planned_by}
use Rattle.plan.specs.PlannerLaws.{planned_feasible}
use Rattle.plan.proofs.Promise.{plannable, planner_in_frame}
use Rattle.listing.specs.Listing.{decimal, space, newline, line, numbers_of, job_numbers, head_line, job_line, job_lines, listing_text, refusal_line}
use Rattle.listing.specs.DecimalLaws.{decimal_most, decimal_longest}

-- ---- a line

pub line_one : (n : ℕ) → line (n ∷ []) ≡ decimal n ++ (newline ∷ [])
unfolding line
line_one n = refl

pub line_more : (n m : ℕ) (more : List ℕ) → line (n ∷ m ∷ more) ≡ (decimal n ++ (space ∷ [])) ++ line (m ∷ more)
unfolding line
line_more n m more = sym (append_assoc (decimal n) (space ∷ []) (line (m ∷ more)))

pub one_size : (n : ℕ) → length (line (n ∷ [])) ≡ length (decimal n) + 1
one_size n = rw (line_one n) (length-append (decimal n) (newline ∷ []))

pub more_size : (n m : ℕ) (more : List ℕ) → length (line (n ∷ m ∷ more)) ≡ length (decimal n) + 1 + length (line (m ∷ more))
more_size n m more = rw (line_more n m more) (omega (arith, length-append (decimal n ++ (space ∷ [])) (line (m ∷ more)), length-append (decimal n) (space ∷ [])))

line_most : (j : ℕ) (job : Job) (processor start : ℕ)
    → j < 128 → job.process < 12 → job.release ≤ 2000 → job.deadline ≤ 2000 → job.budget ≤ 2000 → processor < 2 → start ≤ 2000
    → length (line (numbers_of j job processor start)) ≤ 29
line_most j job processor start hj hp hr hd hb hm hs = omega (
  arith,
  more_size j job.process (job.release ∷ job.deadline ∷ job.budget ∷ processor ∷ start ∷ []),
  more_size job.process job.release (job.deadline ∷ job.budget ∷ processor ∷ start ∷ []),
  more_size job.release job.deadline (job.budget ∷ processor ∷ start ∷ []),
  more_size job.deadline job.budget (processor ∷ start ∷ []),
  more_size job.budget processor (start ∷ []),
  more_size processor start [],
  one_size start,
  decimal_most 2 j (omega arith),
  decimal_most 1 job.process (omega arith),
  decimal_most 3 job.release (omega arith),
  decimal_most 3 job.deadline (omega arith),
  decimal_most 3 job.budget (omega arith),
  decimal_most 0 processor (omega arith),
  decimal_most 3 start (omega arith),
)

-- ---- the lines of jobs

module _ (jobs : List Job) (plan : List ℕ) where
  pub no_lines : job_lines jobs plan 0 ≡ []
  unfolding job_lines
  no_lines = refl

  pub next_line : (j : ℕ) → job_lines jobs plan (j + 1) ≡ job_lines jobs plan j ++ line (numbers_of j (job_of jobs j) (processor_at plan j) (start_at plan j))
  unfolding job_lines job_line job_numbers
  next_line j = rw (add-one j)

  pub next_size : (j : ℕ) → length (job_lines jobs plan (j + 1)) ≡ length (job_lines jobs plan j) + length (line (numbers_of j (job_of jobs j) (processor_at plan j) (start_at plan j)))
  next_size j = rw (next_line j) (length-append (job_lines jobs plan j) _)

  lines_most : (most n : ℕ) → ((j : ℕ) → j < n → length (line (numbers_of j (job_of jobs j) (processor_at plan j) (start_at plan j))) ≤ most)
      → length (job_lines jobs plan n) ≤ most * n
  lines_most most zero h = rw no_lines (omega arith)
  lines_most most (suc n) h = rw (← add-one n) (omega (arith, next_size n, h n (omega arith), lines_most most n (λ j l. h j (omega arith))))

-- the same lines of other tables
pub lines_same : (jobs jobs' : List Job) (plan plan' : List ℕ) (n : ℕ)
    → ((j : ℕ) → j < n → (job_of jobs j ≡ job_of jobs' j) × (processor_at plan j ≡ processor_at plan' j) × (start_at plan j ≡ start_at plan' j))
    → job_lines jobs plan n ≡ job_lines jobs' plan' n
lines_same jobs jobs' plan plan' zero h = no_lines jobs plan ∙ sym (no_lines jobs' plan')
lines_same jobs jobs' plan plan' (suc n) h =
    let (job, processor, start) = h n (omega arith) in
    rw (← add-one n, next_line jobs plan n, next_line jobs' plan' n, lines_same jobs jobs' plan plan' n (λ j l. h j (omega arith)), job, processor, start)

-- ---- the head, and the whole

pub head_size : (jobs frame edges : ℕ) → length (head_line jobs frame edges) ≡ 5 + (length (decimal jobs) + (7 + (length (decimal frame) + (7 + (length (decimal edges) + 1)))))
unfolding head_line
head_size jobs frame edges = simp length-append (omega arith)

sum_few : (f : ℕ → ℕ) (most n : ℕ) → ((i : ℕ) → i < n → f i ≤ most) → sum n f ≤ most * n
sum_few f most zero h = rw (sum_zero f) (omega arith)
sum_few f most (suc n) h = rw (sum_suc n f) (omega (arith, h n (omega arith), sum_few f most n (λ i l. h i (omega arith))))

edges_few : (w : Work) → job_count_of w ≤ 128 → edge_count w ≤ 16384
unfolding edge_count
edges_few w h = rw (edges_counted (job_count_of w) (reduction w)) (omega (arith, sum_few (λ i. count (job_count_of w) (λ j. stays w i j)) 128 (job_count_of w) (λ i l. omega (arith, count_most (job_count_of w) (λ j. stays w i j)))))

module _ (net : Net) (ok : Valid net) (plan : List ℕ) (planned : planned_by (work_of net) 2 ≡ done plan) where
  abbrev w : Work
  w = work_of net

  -- a job's line has at most 29 bytes
  pub job_line_most : (j : ℕ) → j < job_count_of (work_of net)
      → length (line (numbers_of j (job_of (work_of net).jobs j) (processor_at plan j) (start_at plan j))) ≤ 29
  job_line_most j h =
      let is = (jobs_are net ok).each j h in
      line_most j (job_of w.jobs j) (processor_at plan j) (start_at plan j)
      (omega (arith, (jobs_are net ok).most))
      (omega (arith, is.process, ok.process_count.1))
      (omega (arith, is.early, (jobs_are net ok).frame.most))
      (omega (arith, is.in_frame, (jobs_are net ok).frame.most))
      (omega (arith, is.fits, is.in_frame, (jobs_are net ok).frame.most))
      ((planned_feasible w 2 (plannable net ok) (omega arith) plan planned).processor j h)
      (omega (arith, planner_in_frame net ok 2 (omega arith) plan planned j h, (jobs_are net ok).frame.most))

  -- and the listing of a valid network at most 32 for the head and 29 for each of 128 jobs
  pub listing_most : length (listing_text (work_of net) plan) ≤ 3744
  unfolding listing_text
  listing_most = omega (
    arith,
    length-append (head_line (job_count_of w) w.frame (edge_count w)) (job_lines w.jobs plan (job_count_of w)),
    head_size (job_count_of w) w.frame (edge_count w),
    decimal_most 2 (job_count_of w) (omega (arith, (jobs_are net ok).most)),
    decimal_most 3 w.frame (omega (arith, (jobs_are net ok).frame.most)),
    decimal_most 4 (edge_count w) (omega (arith, edges_few w (jobs_are net ok).most)),
    lines_most w.jobs plan 29 (job_count_of w) job_line_most,
    (jobs_are net ok).most,
  )

-- ---- a refusal

pub refusal_most : (number place : ℕ) → length (refusal_line number place) ≤ 53
unfolding refusal_line
refusal_most number place = simp length-append (omega (arith, decimal_longest number, decimal_longest place))
