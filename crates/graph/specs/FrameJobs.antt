-- The sequence of a valid network's frame: the frame is the least common multiple of the periods; all its jobs are in the sequence, 1 to 128 of them;
-- and at no time before its end are there more.
use Prim.Native.Nat.{ℕ, zero, suc, ◌+◌, ◌-◌, ◌*◌, ◌/◌, ◌%◌, ◌≤◌, ◌<◌}
use Rattle.std.specs.Prelude.{◌≡◌, List, length, get_or}
use Rattle.std.proofs.Common.{ap, subst, ◌∙◌, mul-le-mul_right, one-mul, eqb-true, eq-eqb}
use Rattle.std.proofs.Math.Decide.{dec_lt}
use Rattle.std.proofs.Math.Nat.{div-add-mod', zero-mul}
use native.Mathlib.Omega.{arith}
use Rattle.std.proofs.Math.ListN.{length-append}
use Rattle.reply.specs.Tools.{count}
use Rattle.reply.specs.Tests.{clash}
use Rattle.reply.specs.Counts.{sum_same, sum_each}
use Rattle.reply.specs.First.{First, first_from_is}
use Rattle.network.specs.Lists.{every}
use Rattle.network.specs.ListLaws.{every_true, every_make}
use Rattle.network.specs.Frame.{no_process, process_at, divides, frame_length, jobs_of, job_count}
use Rattle.network.specs.Net.{Net}
use Rattle.network.specs.Valid.{Valid}
use Rattle.graph.specs.Sequence.{no_job, released_now, pending_count, jobs_released, sequence_to}
use Rattle.graph.specs.declared.Job.{Job}
use Rattle.graph.specs.OrderLaws.{order_of, order_ranked}
use Rattle.graph.specs.Elements.{tally_count}
use Rattle.graph.specs.Releases.{releases, count_divided}
use Rattle.graph.specs.SequenceLaws.{releases_to, of_process, own_at, released_all, sequence_grows, sequence_length, sequence_of, sequence_own}

-- h is the least number above 0 that every period divides, and at most 2000
pub record Frame (net : Net) (h : ℕ) : Type 0 where
  pub some : 1 ≤ h
  pub most : h ≤ 2000
  pub divided : (p : ℕ) → p < length net.processes → h % (process_at net.processes p).period ≡ 0
  pub least : (k : ℕ) → 1 ≤ k → ((p : ℕ) → p < length net.processes → k % (process_at net.processes p).period ≡ 0) → h ≤ k

-- the jobs of a network's frame
abbrev pub jobs_of_frame : Net → List Job
jobs_of_frame net = sequence_to net.processes (order_of net) (frame_length net.processes)

module _ (net : Net) (ok : Valid net) where
  abbrev n : ℕ
  n = length net.processes

  abbrev h : ℕ
  h = frame_length net.processes

  frame_first : First (λ k. every (divides k) net.processes) 1 2001 (frame_length net.processes)
  unfolding frame_length
  frame_first = first_from_is 2000 1 (λ k. every (divides k) net.processes)

  pub frame_is : Frame net (frame_length net.processes)
  frame_is = record {
    some = frame_first.from;
    most = ok.frame;
    divided = λ p l. eqb-true _ _ (every_true (divides h) net.processes no_process (frame_first.passes (omega (arith, ok.frame))) p l);
    least = λ k l f. elim (dec_lt k h) [
      | yes g ↦ clash (every_make (divides k) net.processes no_process (λ i b. eq-eqb _ _ (f i b))) (frame_first.before k l g)
      | no g ↦ omega arith
    ];
  }

  -- in the whole frame each process releases its own number of jobs
  releases_all : (p : ℕ) → p < n → releases_to net.processes h p ≡ jobs_of h (process_at net.processes p)
  releases_all p l =
      ap (λ (x : ℕ). (process_at net.processes p).burst * x)
      (count_divided (process_at net.processes p).period (ok.processes p l).period.0 h (frame_is.divided p l))

  -- all jobs are there
  pub all_jobs : length (jobs_of_frame net) ≡ job_count net.processes
  unfolding job_count
  all_jobs = sequence_length net.processes (order_of net) (order_ranked net ok) h ∙ sum_same n _ _ releases_all

  pub jobs_most : length (jobs_of_frame net) ≤ 128
  jobs_most = omega (arith, all_jobs, ok.jobs)

  -- the first process alone has a job
  pub jobs_some : 1 ≤ length (jobs_of_frame net)
  unfolding job_count
  jobs_some =
      let l : 0 < n = omega (arith, ok.process_count.0) in
      let T : ℕ = (process_at net.processes 0).period in
      let d : h / T * T ≡ h = omega (arith, div-add-mod' h T, frame_is.divided 0 l) in
      let own : jobs_of h (process_at net.processes 0) ≤ job_count net.processes = sum_each n (λ p. jobs_of h (process_at net.processes p)) 0 l in
      omega (arith, all_jobs, product _ _ (ok.processes 0 l).burst.0 (quotient _ _ _ d frame_is.some))
    where
      quotient : (a b c : ℕ) → a * b ≡ c → 1 ≤ c → 1 ≤ a
      quotient zero b c e g = absurd (omega (arith, zero-mul b))
      quotient (suc a) b c e g = omega arith

      product : (a b : ℕ) → 1 ≤ a → 1 ≤ b → 1 ≤ a * b
      product a b f g = omega (arith, mul-le-mul_right b f, one-mul b)

  -- each process has its own number of jobs
  pub jobs_of_each : (p : ℕ) → p < length net.processes
      → count (length (jobs_of_frame net)) (λ j. of_process p (get_or (jobs_of_frame net) j no_job)) ≡ jobs_of (frame_length net.processes) (process_at net.processes p)
  jobs_of_each p l =
      tally_count (of_process p) (jobs_of_frame net) no_job
      ∙ sequence_of net.processes (order_of net) (order_ranked net ok) h p
      ∙ releases_all p l

  -- and its burst at each of its times
  pub jobs_at : (p t : ℕ) → t < frame_length net.processes
      → count (length (jobs_of_frame net)) (λ j. own_at p t (get_or (jobs_of_frame net) j no_job)) ≡ releases net.processes t p
  jobs_at p t l = tally_count (own_at p t) (jobs_of_frame net) no_job ∙ sequence_own net.processes (order_of net) (order_ranked net ok) h t p l

  -- before any time of the frame there are no more than 128 jobs: a table of 128 is never full
  pub sequence_most : (t : ℕ) → t ≤ frame_length net.processes → length (sequence_to net.processes (order_of net) t) ≤ 128
  sequence_most t l =
      let z : t + (h - t) ≡ h = omega arith in
      let g : length (sequence_to net.processes (order_of net) t) ≤ length (jobs_of_frame net) =
      subst (λ x. length (sequence_to net.processes (order_of net) t) ≤ length (sequence_to net.processes (order_of net) x)) z
      (sequence_grows net.processes (order_of net) t (h - t)) in
      omega (arith, jobs_most)

  -- and the jobs that a time releases find room after those before it
  pub released_fits : (t : ℕ) → t < frame_length net.processes
      → length (sequence_to net.processes (order_of net) t) + pending_count (released_now net.processes t) ≤ 128
  unfolding sequence_to
  released_fits t l = omega (
    arith,
    sequence_most (suc t) (omega arith),
    length-append (sequence_to net.processes (order_of net) t) (jobs_released net.processes (order_of net) t),
    released_all net.processes (order_of net) (order_ranked net ok) t,
  )
