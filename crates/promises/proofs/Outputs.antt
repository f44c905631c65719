-- The outputs of a run are those of the zero-delay run: of the jobs that have finished, and of all when the last frame has.
use Rattle.std.specs.Prelude.{ℕ, suc, ◌+◌, ◌*◌, ◌-◌, ◌≤◌, ◌<◌, ◌≡◌, false}
use Rattle.std.proofs.Common.{sym, ap, ◌∙◌, inl, inr, mul_comm, suc-mul, mul-le-mul_right, arith}
use Rattle.std.proofs.Math.Decide.{dec_lt, ℕ_discrete}
use Rattle.reply.specs.Tests.{split}
use Rattle.graph.specs.Work.{job_count_of}
use Rattle.machine.specs.WholeJob.{blank}
use Rattle.machine.specs.Samples.{sample_at}
use Rattle.zero_delay.specs.ZeroDelay.{Sofar, ran_jobs}
use Rattle.promises.specs.Turns.{Between, Run, is_finished}
use Rattle.promises.specs.SampleWords.{samples_same}
use Rattle.promises.specs.Jobs.{done_job, ran_words, ran_length}
use Rattle.promises.proofs.Running.{Fit, Holds, now_output}
use Rattle.promises.specs.Outputs.{HasFinished}

module _ (r : Run) (processors : ℕ) (g : Fit r processors) (e : ℕ) (c : Between) (v : Holds r processors g e c) where
  abbrev J : ℕ
  J = job_count_of r.work

  below : (f j n : ℕ) → f < n → j < J → f * J + j < n * J
  below f j n h l = omega (arith, mul-le-mul_right J h, suc-mul f J)

  -- a finished job's output is that of the job done whole in the zero-delay run
  pub finished_is : (f j : ℕ) → HasFinished J c f j → (f < r.asked) × (sample_at c.words (f * J + j) ≡ (done_job r.work r.input (f * J + j)).output)
  finished_is f j (l, inl h) = (omega (arith, v.frames, v.asked), v.before (f * J + j) (below f j e (omega (arith, v.frames)) l))
  finished_is f j (l, inr (z, t)) =
      let (a, b, o) = now_output r processors g e c v j t in
      let y : f ≡ e = z ∙ v.frames in
      rw y (b, o)

  -- a job that has not finished has left nothing
  pub unfinished_is : (f j : ℕ) → j < J → ¬ (HasFinished J c f j) → sample_at c.words (f * J + j) ≡ blank
  unfinished_is f j l n = elim (dec_lt f e) [
    | yes h ↦ absurd (n (l, inl (omega (arith, v.frames))))
    | no h ↦ elim (ℕ_discrete f e) [
      | yes z ↦ split (is_finished c j)
          (λ t. absurd (n (l, inr (z ∙ sym v.frames, t))))
          (λ t. rw z (v.rest j t))
      | no d ↦
          let b : e * J + J ≤ f * J = omega (arith, mul-le-mul_right {m = suc e} {n = f} J (omega arith), suc-mul e J) in
          let k : ℕ = f * J + j - e * J in
          let z : f * J + j ≡ e * J + (f * J + j - e * J) = omega arith in
          rw z (v.rest (f * J + j - e * J) (past (f * J + j - e * J) (omega arith)))
    ]
  ]
    where
      past : (k : ℕ) → J ≤ k → is_finished c k ≡ false
      past k h = elim (dec_lt e r.asked) [ yes b ↦ (v.sound b).ok.beyond k h | no b ↦ v.none (omega arith) k ]

  abbrev zero : Sofar
  zero = ran_jobs r.work r.input (J * r.asked)

  whole : (k : ℕ) → k < J * r.asked → sample_at zero.words k ≡ (done_job r.work r.input k).output
  whole k h = ran_words r.work r.input (J * r.asked) k h

  pub finished_same : (f j : ℕ) → HasFinished J c f j → sample_at c.words (f * J + j) ≡ sample_at (ran_jobs r.work r.input (J * r.asked)).words (f * J + j)
  finished_same f j h =
      let (b, o) = finished_is f j h in
      o ∙ sym (whole (f * J + j) (omega (arith, below f j r.asked b h.0, mul_comm J r.asked)))

  -- after the last frame
  module _ (last : c.frames ≡ r.asked) where
    all_jobs : e * J ≡ J * r.asked
    all_jobs = ap (λ x. x * J) (sym v.frames ∙ last) ∙ mul_comm r.asked J

    pub words_same : c.words ≡ (ran_jobs r.work r.input (J * r.asked)).words
    words_same = samples_same (J * r.asked) c.words zero.words v.long (ran_length r.work r.input (J * r.asked))
        (λ k h. v.before k (omega (arith, all_jobs)) ∙ sym (whole k h))

    pub state_same : c.state ≡ (ran_jobs r.work r.input (J * r.asked)).state
    state_same = v.over (omega (arith, v.frames)) ∙ ap (λ k. (ran_jobs r.work r.input k).state) all_jobs
