-- "The sequence goes by release time; at one time, repeatedly take the smallest process number with no pending process ahead of it, one job each time."
use Rattle.std.specs.Prelude.{ℕ, zero, suc, ◌+◌, ◌-◌, ◌%◌, Bool, cond, not, ◌&&◌, List, [], ◌∷◌, ◌++◌, map, length, get_or, set, ltb, eqb}
use Rattle.reply.specs.Tools.{any, sum, first}
use Rattle.network.specs.Chains.{Relation, holds}
use Rattle.network.specs.Frame.{process_at}
use Rattle.network.specs.declared.Process.{Process}
use Rattle.graph.specs.declared.Job.{Job}

abbrev pub no_job : Job
no_job = record { process = 0; release = 0; deadline = 0; budget = 0 }

-- "releases its burst at 0, T, 2T, .. below H"
abbrev pub released_at : Process → ℕ → Bool
released_at p time = eqb (time % p.period) 0

-- how many jobs each process has pending when those of a time are released
unfoldable pub released_now : List Process → ℕ → List ℕ
released_now processes time = map (λ p. cond (released_at p time) p.burst 0) processes

abbrev pub is_pending : List ℕ → ℕ → Bool
is_pending pending p = ltb 0 (get_or pending p 0)

-- pending, with "no pending process ahead of it"
unfoldable pub is_free : Relation → List ℕ → ℕ → Bool
is_free ahead pending p = is_pending pending p && not (any (length pending) (λ q. is_pending pending q && holds ahead q p))

-- "the smallest process number" that is free; the length of `pending` if none is
unfoldable pub next_free : Relation → List ℕ → ℕ
next_free ahead pending = first (length pending) (is_free ahead pending)

-- with one job of process p taken
abbrev pub taken : List ℕ → ℕ → List ℕ
taken pending p = set pending p (get_or pending p 0 - 1)

-- the processes of the jobs, one after another, `left` of them at most
unfoldable pub take_jobs : ℕ → Relation → List ℕ → List ℕ
take_jobs zero ahead pending = []
take_jobs (suc left) ahead pending =
    let p = next_free ahead pending in
    let rest = p ∷ take_jobs left ahead (taken pending p) in
    cond (ltb p (length pending)) rest []

-- "absolute deadline is release plus deadline"
abbrev pub job_at : List Process → ℕ → ℕ → Job
job_at processes time p = record {
  process = p;
  release = time;
  deadline = time + (process_at processes p).deadline;
  budget = (process_at processes p).budget;
}

abbrev pub pending_count : List ℕ → ℕ
pending_count pending = sum (length pending) (λ p. get_or pending p 0)

-- the jobs released at a time, in sequence
unfoldable pub jobs_released : List Process → Relation → ℕ → List Job
jobs_released processes ahead time =
    let pending = released_now processes time in
    map (job_at processes time) (take_jobs (pending_count pending) ahead pending)

-- the jobs released before a time, in sequence
unfoldable pub sequence_to : List Process → Relation → ℕ → List Job
sequence_to processes ahead zero = []
sequence_to processes ahead (suc time) = sequence_to processes ahead time ++ jobs_released processes ahead time
