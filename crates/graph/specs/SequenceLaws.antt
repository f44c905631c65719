-- The jobs released before a time, in sequence: how many they are, what each is, and in which order they stand.
use Prim.Native.Nat.{ℕ, zero, suc, ◌+◌, ◌*◌, ◌≤◌, ◌<◌}
use Rattle.std.specs.Prelude.{◌≡◌, Bool, cond, ◌&&◌, List, length}
use Rattle.std.proofs.Math.Path.{refl, sym, subst}
use Rattle.std.proofs.Common.{◌∙◌, mul-add, mul-one, mul-zero, eq-eqb, ne_eqb}
use Rattle.std.proofs.Math.Bool.{true, false}
use Rattle.std.proofs.Math.Decide.{dec_lt}
use native.Mathlib.Omega.{arith}
use Rattle.std.proofs.Math.Dec.{eqb}
use Rattle.std.proofs.Math.ListN.{get_or, length-append, length-map}
use Rattle.reply.specs.Tools.{count, sum}
use Rattle.reply.specs.Tests.{split}
use Rattle.reply.specs.Counts.{count_zero, count_suc, sum_same, sum_add, sum_none}
use Rattle.network.specs.Chains.{Relation, holds}
use Rattle.network.specs.Frame.{process_at}
use Rattle.network.specs.declared.Process.{Process}
use Rattle.graph.specs.Sequence.{no_job, released_at, released_now, take_jobs, job_at, pending_count, jobs_released, sequence_to}
use Rattle.graph.specs.declared.Job.{Job}
use Rattle.graph.specs.OrderLaws.{Ranked}
use Rattle.graph.specs.Elements.{Each, Two, each_none, each_append, each_map, two_none, two_append, two_map, tally, tally_nil, tally_append, tally_none, tally_map, tally_same}
use Rattle.graph.specs.Releases.{releases, released_now_lem, released_size, released_count}
use Rattle.graph.specs.TakeLaws.{pending_below, take_length, take_occurs, take_pending, take_ordered}

-- what a job released before a time is
pub record JobBefore (processes : List Process) (time : ℕ) (x : Job) : Type 0 where
  pub process : x.process < length processes
  pub at : released_at (process_at processes x.process) x.release ≡ true
  pub early : x.release < time
  pub deadline : x.deadline ≡ x.release + (process_at processes x.process).deadline
  pub budget : x.budget ≡ (process_at processes x.process).budget

-- two jobs, the earlier of the sequence first
pub record InOrder (ahead : Relation) (x y : Job) : Type 0 where
  pub sorted : x.release ≤ y.release
  pub order : x.release ≡ y.release → holds ahead y.process x.process ≡ false

-- how many jobs process p releases before a time
abbrev pub releases_to : List Process → ℕ → ℕ → ℕ
releases_to processes time p = (process_at processes p).burst * count time (released_at (process_at processes p))

-- a job of process p; and one released at a time
abbrev pub of_process : ℕ → Job → Bool
of_process p x = eqb x.process p

abbrev pub own_at : ℕ → ℕ → Job → Bool
own_at p t x = eqb x.process p && eqb x.release t

module _ (processes : List Process) (time p : ℕ) where
  releases_none : releases_to processes 0 p ≡ 0
  releases_none = rw (count_zero (released_at (process_at processes p))) (mul-zero (process_at processes p).burst)

  releases_more : releases_to processes time p + releases processes time p ≡ releases_to processes (suc time) p
  releases_more =
      rw (count_suc time (released_at (process_at processes p)))
      (go (process_at processes p).burst (count time (released_at (process_at processes p))) (released_at (process_at processes p) time))
    where
      go : (b c : ℕ) (t : Bool) → b * c + cond t b 0 ≡ b * (c + cond t 1 0)
      go b c true = omega (arith, mul-add b c 1, mul-one b)
      go b c false = omega (arith, mul-add b c 0, mul-zero b)

-- the jobs released before a time are no more than those released before a later time
pub sequence_grows : (processes : List Process) (ahead : Relation) (t more : ℕ)
    → length (sequence_to processes ahead t) ≤ length (sequence_to processes ahead (t + more))
unfolding sequence_to
sequence_grows processes ahead t zero = let z : t + 0 ≡ t = omega arith in rw z (omega arith)
sequence_grows processes ahead t (suc more) =
    let z : t + suc more ≡ suc (t + more) = omega arith in
    rw z (omega (arith, sequence_grows processes ahead t more, length-append (sequence_to processes ahead (t + more)) (jobs_released processes ahead (t + more))))

module _ (processes : List Process) (ahead : Relation) (R : Ranked ahead) where
  abbrev pending_at : ℕ → List ℕ
  pending_at time = released_now processes time

  abbrev taken_at : ℕ → List ℕ
  taken_at time = take_jobs (pending_count (pending_at time)) ahead (pending_at time)

  abbrev sequence : ℕ → List Job
  sequence time = sequence_to processes ahead time

  abbrev released : ℕ → List Job
  released time = jobs_released processes ahead time

  -- ---- the jobs released at a time

  -- they are as many as are pending
  pub released_all : (time : ℕ) → length (jobs_released processes ahead time) ≡ pending_count (released_now processes time)
  unfolding jobs_released
  released_all time =
      length-map (taken_at time) (job_at processes time)
      ∙ take_length ahead R (pending_count (pending_at time)) (pending_at time) refl

  -- that is, as the bursts released
  pub released_length : (time : ℕ) → length (jobs_released processes ahead time) ≡ sum (length processes) (releases processes time)
  released_length time = released_all time ∙ released_count time processes

  released_of : (time p : ℕ) → tally (of_process p) (jobs_released processes ahead time) ≡ releases processes time p
  unfolding jobs_released
  released_of time p =
      tally_map (job_at processes time) (of_process p) (taken_at time)
      ∙ take_occurs ahead R (pending_count (pending_at time)) (pending_at time) refl p
      ∙ released_now_lem time processes p

  released_time : (time : ℕ) → Each (λ (x : Job). x.release ≡ time) no_job (jobs_released processes ahead time)
  unfolding jobs_released
  released_time time = each_map (job_at processes time) (λ (x : Job). x.release ≡ time) 0 no_job (taken_at time) (record { at = λ i h. refl })

  released_own : (time p : ℕ) → tally (own_at p time) (jobs_released processes ahead time) ≡ releases processes time p
  unfolding jobs_released
  released_own time p =
      tally_map (job_at processes time) (own_at p time) (taken_at time)
      ∙ tally_same (λ x. eqb x p && eqb time time) (λ x. eqb x p) (taken_at time) (λ x. rw (eq-eqb time time refl) (split (eqb x p) (λ t. rw t) (λ t. rw t)))
      ∙ take_occurs ahead R (pending_count (pending_at time)) (pending_at time) refl p
      ∙ released_now_lem time processes p

  released_each : (time : ℕ) → Each (JobBefore processes (suc time)) no_job (jobs_released processes ahead time)
  unfolding jobs_released
  released_each time =
      let some : Each (λ x. 0 < get_or (pending_at time) x 0) 0 (taken_at time) = take_pending ahead R (pending_count (pending_at time)) (pending_at time) refl in
      each_map (job_at processes time) (JobBefore processes (suc time)) 0 no_job (taken_at time) (record { at = λ i h. job _ (some.at i h) })
    where
      job : (x : ℕ) → 0 < get_or (pending_at time) x 0 → JobBefore processes (suc time) (job_at processes time x)
      job x h = record {
        process = omega (arith, pending_below (pending_at time) x h, released_size time processes);
        at = split (released_at (process_at processes x) time) (λ t. t) (λ t. absurd (omega (arith, rw t at (released_now_lem time processes x))));
        early = omega arith;
        deadline = refl;
        budget = refl;
      }

  released_ordered : (time : ℕ) → Two (InOrder ahead) no_job (jobs_released processes ahead time)
  unfolding jobs_released
  released_ordered time =
      let ord : Two (λ x y. holds ahead y x ≡ false) 0 (taken_at time) = take_ordered ahead R (pending_count (pending_at time)) (pending_at time) refl in
      two_map (job_at processes time) (InOrder ahead) 0 no_job (taken_at time)
      (record { at = λ i k h l. record { sorted = omega arith; order = λ e. ord.at i k h l } })

  -- ---- the jobs released before a time

  -- as many as the processes release
  pub sequence_length : (time : ℕ) → length (sequence_to processes ahead time) ≡ sum (length processes) (releases_to processes time)
  unfolding sequence_to
  sequence_length zero = sym (sum_none (length processes) (releases_to processes 0) (λ p h. releases_none processes 0 p))
  sequence_length (suc time) =
      length-append (sequence time) (released time)
      ∙ rw (sequence_length time, released_length time)
      (sym (sum_add (length processes) (releases_to processes time) (releases processes time))
      ∙ sum_same (length processes) _ (releases_to processes (suc time)) (λ p h. releases_more processes time p))

  -- of each process as many as it releases
  pub sequence_of : (time p : ℕ) → tally (of_process p) (sequence_to processes ahead time) ≡ releases_to processes time p
  unfolding sequence_to
  sequence_of zero p = tally_nil (of_process p) ∙ sym (releases_none processes 0 p)
  sequence_of (suc time) p =
      tally_append (of_process p) (sequence time) (released time)
      ∙ rw (sequence_of time p, released_of time p) (releases_more processes time p)

  pub sequence_each : (time : ℕ) → Each (JobBefore processes time) no_job (sequence_to processes ahead time)
  unfolding sequence_to
  sequence_each zero = each_none (JobBefore processes 0) no_job
  sequence_each (suc time) =
      each_append (JobBefore processes (suc time)) no_job (sequence time) (released time)
      (record { at = λ i h. later (get_or (sequence time) i no_job) ((sequence_each time).at i h) })
      (released_each time)
    where
      later : (x : Job) → JobBefore processes time x → JobBefore processes (suc time) x
      later x b = record { process = b.process; at = b.at; early = omega (arith, b.early); deadline = b.deadline; budget = b.budget }

  -- of each process and time as many as it releases then
  pub sequence_own : (time t p : ℕ) → t < time → tally (own_at p t) (sequence_to processes ahead time) ≡ releases processes t p
  unfolding sequence_to
  sequence_own zero t p l = absurd (omega arith)
  sequence_own (suc time) t p l =
      tally_append (own_at p t) (sequence time) (released time)
      ∙ elim (dec_lt t time) [
        | yes k ↦
            let none : tally (own_at p t) (released time) ≡ 0 =
            tally_none (own_at p t) (released time) no_job (record { at = λ i g. other (get_or (released time) i no_job) (λ e. omega (arith, (released_time time).at i g)) }) in
            omega (arith, sequence_own time t p k)
        | no k ↦
            let z : time ≡ t = omega arith in
            let none : tally (own_at p t) (sequence time) ≡ 0 =
            tally_none (own_at p t) (sequence time) no_job (record { at = λ i g. other (get_or (sequence time) i no_job) (λ e. omega (arith, ((sequence_each time).at i g).early)) }) in
            let own : tally (own_at p t) (released time) ≡ releases processes t p =
            subst (λ x. tally (own_at p x) (released time) ≡ releases processes x p) z (released_own time p) in
            omega arith
      ]
    where
      and_false : (b : Bool) → (b && false) ≡ false
      and_false true = refl
      and_false false = refl

      other : (x : Job) → (x.release ≡ t → ⊥) → own_at p t x ≡ false
      other x d = rw (ne_eqb x.release t d) (and_false (eqb x.process p))

  -- by release; at one release none that comes before another stands after it
  pub sequence_ordered : (time : ℕ) → Two (InOrder ahead) no_job (sequence_to processes ahead time)
  unfolding sequence_to
  sequence_ordered zero = two_none (InOrder ahead) no_job
  sequence_ordered (suc time) =
      two_append (InOrder ahead) no_job (sequence time) (released time) (sequence_ordered time) (released_ordered time)
      (record { at = λ i h. record { at = λ k l. apart _ _ ((sequence_each time).at i h).early ((released_time time).at k l) } })
    where
      apart : (x y : Job) → x.release < time → y.release ≡ time → InOrder ahead x y
      apart x y h e = record { sorted = omega arith; order = λ z. absurd (omega arith) }
