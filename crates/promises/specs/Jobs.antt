-- The jobs of a frame as a machine of `determinism`; and the zero-delay run as its run of whole jobs.
use Prim.Native.Nat.{ℕ, zero, suc, ◌+◌, ◌*◌, ◌-◌, ◌%◌, ◌≤◌, ◌<◌}
use Rattle.std.specs.Prelude.{◌≡◌, ◌⊎◌, true, List, [], ◌∷◌, ◌++◌}
use Rattle.std.proofs.Math.Path.{refl}
use Rattle.std.proofs.Common.{ap, ◌∙◌, inl, inr, mod-eq_of_lt, add-suc, add-zero, leb-false}
use Rattle.std.proofs.Math.Option.{Option, none, some}
use Rattle.std.proofs.Math.Nat.{mul-add-mod_self_right}
use Rattle.std.proofs.Math.Decide.{dec_lt}
use native.Mathlib.Omega.{arith}
use Rattle.std.proofs.Math.ListN.{length, get_elem?}
use Rattle.reply.specs.Tests.{split}
use Rattle.network.specs.Net.{Net}
use Rattle.network.specs.Valid.{Valid}
use Rattle.graph.specs.Work.{Work, work_of, job_count_of, process_of, precedes}
use Rattle.graph.specs.OrderLaws.{Related, channel_related}
use Rattle.graph.specs.WorkLaws.{Forward}
use Rattle.graph.proofs.WorkLaws.{goes_forward, precedes_complete}
use Rattle.machine.specs.State.{State, start_state}
use Rattle.machine.specs.WholeJob.{Did, program_of, started, act_state, act_under, at_end, go_on, whole_job}
use Rattle.machine.specs.Samples.{sample_at, sample_words}
use Rattle.machine.specs.Places.{Place, variable, channel, At, view, touches, Local}
use Rattle.machine.specs.Locality.{Ends}
use Rattle.machine.proofs.Locality.{meets, valid_local}
use Rattle.machine.specs.declared.Sample.{Sample}
use Rattle.machine.specs.declared.Under.{Under}
use Rattle.zero_delay.specs.ZeroDelay.{jobs_done, process_in, ran_jobs}
use Rattle.zero_delay.specs.RunLaws.{next_state_lem, next_words, jobs_length}
use Rattle.determinism.specs.Interleaving.{Shape}
use Rattle.determinism.specs.Jobs.{Steps, Machine, goes, rest, zero_delay_state, zero_output}
use Rattle.promises.specs.SampleWords.{sample_front, sample_seam}

-- what the jobs share, what each keeps, and what it outputs
abbrev pub shape : Shape
shape = record { State = State; Own = Under; Output = Sample; Place = Place; At = At; view = view }

-- ---- states that are the same at every place

same_list : {A : Type 0} (l m : List A) → ((i : ℕ) → get_elem? l i ≡ get_elem? m i) → l ≡ m
same_list [] [] e = refl
same_list {A} [] (y ∷ m) e = let h : ◌≡◌ {A = Option A} none (some y) = e 0 in cc
same_list {A} (x ∷ l) [] e = let h : ◌≡◌ {A = Option A} (some x) none = e 0 in cc
same_list (x ∷ l) (y ∷ m) e =
    let h : some x ≡ some y = e 0 in
    let t : l ≡ m = same_list l m (λ i. e (suc i)) in
    cc

pub same_state : (s t : State) → ((r : Place) → view r s ≡ view r t) → s ≡ t
same_state s t e =
    let v : s.variables ≡ t.variables = same_list s.variables t.variables (λ i. e (variable i)) in
    let c : s.channels ≡ t.channels = same_list s.channels t.channels (λ i. e (channel i)) in
    λ i. record { variables = v i; channels = c i }

-- ---- the machine of a frame

-- job i has the lower number, and the two are of one process or of related processes
pub record Tied (w : Work) (i j : ℕ) : Type 0 where
  pub lower : i < j
  pub tie : (process_of w i ≡ process_of w j) ⊎ Related w.net (process_of w i) (process_of w j)

-- what the theorem needs of a frame's work
pub record Ordered (w : Work) : Type 0 where
  -- actions touch the variables of their process, and its channels, alone
  pub local : (p : ℕ) → Local w.net p
  -- jobs that touch one place are tied
  pub conflict : (i j : ℕ) (r : Place) → i < j → touches w.net (process_of w i) r ≡ true → touches w.net (process_of w j) r ≡ true → Tied w i j
  -- and what is tied is told
  pub tested : (i j : ℕ) → j < job_count_of w → Tied w i j → precedes w i j ≡ true
  pub forward : Forward w

pub work_ordered : (net : Net) → Valid net → Ordered (work_of net)
unfolding work_of
work_ordered net ok = record {
  local = valid_local net ok;
  conflict = λ i j r h a b. record { lower = h; tie = tie (process_of (work_of net) i) (process_of (work_of net) j) (meets net (process_of (work_of net) i) (process_of (work_of net) j) r a b) };
  tested = λ i j h t. precedes_complete net ok i j (record { lower = t.lower; below = h; tied = t.tie });
  forward = goes_forward net ok;
}
  where
    tie : (p q : ℕ) → (p ≡ q) ⊎ Ends net p q → (p ≡ q) ⊎ Related net p q
    tie p q (inl e) = inl e
    tie p q (inr (c, h, inl (a, b))) = inr (channel_related net ok c p q h (inl (a, b)))
    tie p q (inr (c, h, inr (a, b))) = inr (channel_related net ok c p q h (inr (b, a)))

module _ (w : Work) (input : List ℕ) (f : ℕ) where
  -- the jobs of frame f
  abbrev pub steps : Steps shape
  steps = record {
    first = λ j. started;
    ended = λ j u. at_end w.net (process_of w j) u;
    output = λ j u. u.output;
    next_own = λ j u s. act_under w.net (process_of w j) u s;
    next_state = λ j u s. act_state w.net (process_of w j) (sample_at input (f * job_count_of w + j)) u s;
    left = λ j u. length (program_of w.net (process_of w j)) - u.at;
  }

  abbrev pub machine : Ordered w → Machine steps
  machine g = record {
    touches = λ j r. touches w.net (process_of w j) r;
    precedes = Tied w;
    left_step = λ j u s e. omega (arith, leb-false (length (program_of w.net (process_of w j))) u.at e);
    step_frame = λ j u s r t. (g.local (process_of w j)).frame (sample_at input (f * job_count_of w + j)) u s r t;
    local_own = λ j u s t a. (g.local (process_of w j)).under u s t (record { same = a });
    local_state = λ j u s t a. ((g.local (process_of w j)).state (sample_at input (f * job_count_of w + j)) u s t (record { same = a })).same;
    conflict = g.conflict;
  }

-- ---- the zero-delay run

module _ (w : Work) (input : List ℕ) where
  abbrev J : ℕ
  J = job_count_of w

  -- job k of the run, whole
  abbrev pub done_job : ℕ → Did
  done_job k = whole_job w.net (process_in w k) (sample_at input k) (ran_jobs w input k).state

  pub ran_none : (ran_jobs w input 0).state ≡ start_state
  unfolding ran_jobs jobs_done
  ran_none = refl

  ran_next : (k : ℕ) → (ran_jobs w input (suc k)).state ≡ (done_job k).state
  unfolding ran_jobs
  ran_next k = next_state_lem w.net (process_in w) input start_state k

  ran_more : (k : ℕ) → (ran_jobs w input (suc k)).words ≡ (ran_jobs w input k).words ++ sample_words (done_job k).output
  unfolding ran_jobs
  ran_more k = next_words w.net (process_in w) input start_state k

  module _ (f : ℕ) where
    go_on_is : (k j : ℕ) (u : Under) (s : State) → go_on k w.net (process_of w j) (sample_at input (f * J + j)) u s
        ≡ record { state = (goes (steps w input f) k j u s).1; output = (goes (steps w input f) k j u s).0.output }
    unfolding go_on
    go_on_is zero j u s = refl
    go_on_is (suc k) j u s = split (at_end w.net (process_of w j) u)
        (λ e. rw e)
        (λ e. rw e (go_on_is k j (act_under w.net (process_of w j) u s) (act_state w.net (process_of w j) (sample_at input (f * J + j)) u s)))

    whole_is : (j : ℕ) (s : State) → whole_job w.net (process_of w j) (sample_at input (f * J + j)) s
        ≡ record { state = (rest (steps w input f) j started s).1; output = (rest (steps w input f) j started s).0.output }
    unfolding whole_job
    whole_is j s =
        let z : length (program_of w.net (process_of w j)) - 0 ≡ length (program_of w.net (process_of w j)) = omega arith in
        rw z (go_on_is (length (program_of w.net (process_of w j))) j started s)

    place_of : (j : ℕ) → j < J → (f * J + j) % J ≡ j
    place_of j h = mul-add-mod_self_right f J j ∙ mod-eq_of_lt h

    pub ran_state : (j : ℕ) → j ≤ J → (ran_jobs w input (f * J + j)).state ≡ zero_delay_state (steps w input f) (ran_jobs w input (f * J)).state j
    ran_state zero h = ap (λ k. (ran_jobs w input k).state) (add-zero (f * J))
    ran_state (suc j) h =
        ap (λ k. (ran_jobs w input k).state) (add-suc (f * J) j) ∙ ran_next (f * J + j)
        ∙ rw (place_of j (omega arith), whole_is j (ran_jobs w input (f * J + j)).state, ran_state j (omega arith)) refl

    pub ran_output : (j : ℕ) → j < J → zero_output (steps w input f) (ran_jobs w input (f * J)).state j ≡ (done_job (f * J + j)).output
    ran_output j h = rw (place_of j h, whole_is j (ran_jobs w input (f * J + j)).state, ran_state j (omega arith)) refl

  pub ran_length : (n : ℕ) → length (ran_jobs w input n).words ≡ 2 * n
  unfolding ran_jobs
  ran_length n = jobs_length w.net (process_in w) input start_state n

  -- the words of the run are the outputs of its jobs
  pub ran_words : (n k : ℕ) → k < n → sample_at (ran_jobs w input n).words k ≡ (done_job k).output
  ran_words zero k h = absurd (omega arith)
  ran_words (suc n) k h = ap (λ (x : List ℕ). sample_at x k) (ran_more n) ∙ elim (dec_lt k n) [
    | yes l ↦ sample_front (ran_jobs w input n).words (sample_words (done_job n).output) k (omega (arith, ran_length n)) ∙ ran_words n k l
    | no l ↦ let z : k ≡ n = omega arith in rw z (sample_seam (ran_jobs w input n).words (done_job n).output n (ran_length n))
  ]
