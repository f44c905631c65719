-- Laws of jobs done one after another: some and then more, the same jobs, how many words they output, what they keep, and how much they lose.
use Rattle.std.specs.Prelude.{ℕ, zero, suc, ◌+◌, ◌*◌, ◌≤◌, ◌<◌, ◌≡◌, List, ◌++◌, length, drop}
use Rattle.std.proofs.Math.Path.{refl}
use Rattle.std.proofs.Common.{sym, ap, ◌∙◌, append_assoc, append-nil, add-zero, add-suc, mod-eq_of_lt, arith, length-append, get_or-drop}
use Rattle.std.proofs.Math.Nat.{mul-add-mod_self_right}
use Rattle.network.specs.Net.{Net}
use Rattle.machine.specs.State.{State, contents_of}
use Rattle.machine.specs.WholeJob.{Did, whole_job}
use Rattle.machine.specs.Samples.{sample_at, sample_words}
use Rattle.machine.specs.Ledger.{ShortPrograms, job_loss}
use Rattle.machine.specs.declared.Sample.{Sample}
use Rattle.graph.specs.Work.{Work, job_count_of, process_of}
use Rattle.zero_delay.specs.ZeroDelay.{jobs_done, process_in}

-- sample k of the input after the first m samples
pub sample_after : (input : List ℕ) (m k : ℕ) → sample_at (drop (2 * m) input) k ≡ sample_at input (m + k)
unfolding sample_at
sample_after input m k =
    let present : 2 * m + 2 * k ≡ 2 * (m + k) = omega arith in
    let value : 2 * m + (2 * k + 1) ≡ 2 * (m + k) + 1 = omega arith in
    rw (get_or-drop (2 * m) input (2 * k) 0, get_or-drop (2 * m) input (2 * k + 1) 0, present, value)

-- one job more
module _ (net : Net) (processes : ℕ → ℕ) (input : List ℕ) (s : State) (k : ℕ) where
  abbrev next : Did
  next = whole_job net (processes k) (sample_at input k) (jobs_done net processes input s k).state

  pub next_state_lem : (jobs_done net processes input s (suc k)).state ≡ next.state
  unfolding jobs_done
  next_state_lem = refl

  pub next_words : (jobs_done net processes input s (suc k)).words ≡ (jobs_done net processes input s k).words ++ sample_words next.output
  unfolding jobs_done
  next_words = refl

-- m jobs and then n more, from the state and in the input after the first m
pub jobs_more : (net : Net) (processes : ℕ → ℕ) (input : List ℕ) (s : State) (m n : ℕ)
    → let r = jobs_done net processes input s m in
    let q = jobs_done net (λ j. processes (m + j)) (drop (2 * m) input) r.state n in
    ((jobs_done net processes input s (m + n)).state ≡ q.state) × ((jobs_done net processes input s (m + n)).words ≡ r.words ++ q.words)
unfolding jobs_done
jobs_more net processes input s m zero = rw (add-zero m) (refl, sym (append-nil _))
jobs_more net processes input s m (suc n) =
    let (state, words) = jobs_more net processes input s m n in
    rw (add-suc m n, sample_after input m n, state, words, append_assoc) (refl, refl)

-- jobs of the same processes with the same samples
pub jobs_same : (net : Net) (f g : ℕ → ℕ) (input input' : List ℕ) (s : State) (n : ℕ)
    → ((j : ℕ) → j < n → f j ≡ g j) → ((j : ℕ) → j < n → sample_at input j ≡ sample_at input' j)
    → jobs_done net f input s n ≡ jobs_done net g input' s n
unfolding jobs_done
jobs_same net f g input input' s zero e x = refl
jobs_same net f g input input' s (suc n) e x =
    rw (jobs_same net f g input input' s n (λ j h. e j (omega arith)) (λ j h. x j (omega arith)), e n (omega arith), x n (omega arith))

-- each job outputs two words
pub jobs_length : (net : Net) (processes : ℕ → ℕ) (input : List ℕ) (s : State) (k : ℕ) → length (jobs_done net processes input s k).words ≡ 2 * k
unfolding jobs_done
jobs_length net processes input s zero = refl
jobs_length net processes input s (suc k) = length-append (jobs_done net processes input s k).words _ ∙ omega (arith, jobs_length net processes input s k)

-- what every job keeps
pub jobs_keep : (P : State → Type 0) (net : Net) (processes : ℕ → ℕ) (input : List ℕ)
    → ((p : ℕ) (x : Sample) (s : State) → P s → P (whole_job net p x s).state)
    → (s : State) (k : ℕ) → P s → P (jobs_done net processes input s k).state
unfolding jobs_done
jobs_keep P net processes input keep s zero h = h
jobs_keep P net processes input keep s (suc k) h = keep (processes k) (sample_at input k) _ (jobs_keep P net processes input keep s k h)

-- programs of at most 24 actions lose at most 24 values of a channel in each job
pub jobs_loss : (net : Net) → ShortPrograms net → (c : ℕ) (processes : ℕ → ℕ) (input : List ℕ) (s : State) (k : ℕ)
    → (contents_of c (jobs_done net processes input s k).state).loss ≤ (contents_of c s).loss + 24 * k
unfolding jobs_done
jobs_loss net short c processes input s zero = omega arith
jobs_loss net short c processes input s (suc k) =
    omega (arith, jobs_loss net short c processes input s k, job_loss net short c (processes k) (sample_at input k) (jobs_done net processes input s k).state)

-- the jobs of the frames before frame f and then those of frame f, from the state and in the input after them
pub frame_more : (w : Work) (input : List ℕ) (s : State) (f : ℕ)
    → let before = jobs_done w.net (process_in w) input s (f * job_count_of w) in
    let frame = jobs_done w.net (λ j. process_of w j) (drop (2 * (f * job_count_of w)) input) before.state (job_count_of w) in
    ((jobs_done w.net (process_in w) input s (f * job_count_of w + job_count_of w)).state ≡ frame.state)
    × ((jobs_done w.net (process_in w) input s (f * job_count_of w + job_count_of w)).words ≡ before.words ++ frame.words)
frame_more w input s f =
    let J : ℕ = job_count_of w in
    let here = drop (2 * (f * J)) input in
    let same = jobs_same w.net (λ j. process_in w (f * J + j)) (λ j. process_of w j) here here (jobs_done w.net (process_in w) input s (f * J)).state J
    (λ j h. ap (λ (i : ℕ). process_of w i) (mul-add-mod_self_right f J j ∙ mod-eq_of_lt h)) (λ j h. refl) in
    rw same at (jobs_more w.net (process_in w) input s (f * J) J)
