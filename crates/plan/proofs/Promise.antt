-- What is promised of plans for every valid network: the checker accepts exactly the feasible plans and names the least faulty job of every other one;
-- the planner always has a job to choose, its plan is accepted, and it gives reply 19 only where its own rule ends late; and its numbers stay small.
use Rattle.std.specs.Prelude.{ℕ, ◌+◌, ◌*◌, ◌≤◌, ◌<◌, ◌≡◌, ◌↔◌, true, ◌&&◌, List, leb, length, get_or, drop}
use Rattle.std.proofs.Common.{ap, subst, ◌∙◌, arith, leb-true}
use Rattle.std.proofs.Math.ListN.{get_or-append}
use Rattle.std.proofs.lemmas.List.Edits.{sets, sets-eq}
use Rattle.std.proofs.Math.Seq.{length-sets}
use Rattle.reply.specs.Tests.{both}
use Rattle.reply.specs.Result.{done, refused, in_order}
use Rattle.reply.specs.ResultLaws.{accepted, required}
use Rattle.reply.specs.declared.Reply.{Reply}
use Rattle.reply.specs.declared.Reply.TheVariants.{OutOfRange, ShortBuffer}
use Rattle.network.specs.Net.{Net}
use Rattle.network.specs.Valid.{Valid}
use Rattle.graph.specs.Work.{Work, work_of, load_work, job_count_of}
use Rattle.graph.proofs.WorkLaws.{goes_forward}
use Rattle.graph.specs.Promise.{jobs_are, file_work}
use Rattle.plan.specs.Plan.{end_at, Planning, can_place, start_on, placing, planned_by, fault, checked_by, plan_work, plan_call, plan_filled, check_work, check_call}
use Rattle.plan.specs.Feasible.{Feasible, Faulty}
use Rattle.plan.specs.Promise.{Small}
use Rattle.plan.proofs.CheckLaws.{checked_feasible, feasible_checked, refused_faulty, faulty_refused, passed_in_time, checked_same}
use Rattle.plan.specs.PlaceLaws.{Plannable, Sound, start_in_frame}
use Rattle.plan.specs.PlannerLaws.{Choice, Misses, SoundOr, has_choice, placed_sound, planned_feasible, planned_size, planned_misses}

module _ (net : Net) (ok : Valid net) where
  abbrev w : Work
  w = work_of net

  pub plannable : Plannable (work_of net)
  plannable = record {
    forward = goes_forward net ok;
    early = λ j h. omega (arith, ((jobs_are net ok).each j h).early);
    due = λ j h. ((jobs_are net ok).each j h).in_frame;
  }

  -- ---- the checker

  -- it accepts a plan if and only if that is feasible
  pub check_exact : (m : ℕ) (plan : List ℕ) → (checked_by (work_of net) m plan ≡ done tt) ↔ Feasible (work_of net) m plan
  check_exact m plan = (checked_feasible w m plan (goes_forward net ok), feasible_checked w m plan (goes_forward net ok))

  -- it refuses a plan by a reply at a job if and only if that is the least faulty job and the reply its first fault
  pub check_names : (m : ℕ) (plan : List ℕ) (reply : Reply) (j : ℕ) → (checked_by (work_of net) m plan ≡ refused reply j) ↔ Faulty (work_of net) m plan reply j
  check_names m plan reply j = (refused_faulty w m plan (goes_forward net ok) reply j, faulty_refused w m plan (goes_forward net ok) reply j)

  -- when it comes to job j, the lower jobs end within the frame
  pub check_small : (m : ℕ) (plan : List ℕ) (i j : ℕ) → i < j → j ≤ job_count_of (work_of net)
      → in_order j (fault (work_of net) m plan) ≡ done tt → end_at (work_of net) plan i ≤ 2000
  check_small m plan i j l h e =
      omega (arith, passed_in_time w m plan (goes_forward net ok) i j l e, ((jobs_are net ok).each i (omega arith)).in_frame, (jobs_are net ok).frame.most)

  -- ---- the planner

  module _ (m : ℕ) (some : 1 ≤ m) where
    sound : (n : ℕ) → n ≤ job_count_of (work_of net) → (s : Planning) → placing (work_of net) m n ≡ done s → Sound (work_of net) m n s
    sound n h s e = subst (SoundOr w m n) e (placed_sound w m plannable some n h)

    -- while a job is not placed, there is one to choose and a processor for it
    pub planner_chooses : (n : ℕ) → n < job_count_of (work_of net) → (s : Planning) → placing (work_of net) m n ≡ done s → Choice (work_of net) m s
    planner_chooses n h s e = has_choice w m n plannable s (sound n (omega arith) s e) h some

    -- its plan has two words for each job
    pub planner_size : (words : List ℕ) → planned_by (work_of net) m ≡ done words → length words ≡ 2 * job_count_of (work_of net)
    planner_size = planned_size w m plannable some

    -- and the checker accepts it
    pub planner_accepted : (words : List ℕ) → planned_by (work_of net) m ≡ done words → checked_by (work_of net) m words ≡ done tt
    planner_accepted words e = feasible_checked w m words (goes_forward net ok) (planned_feasible w m plannable some words e)

    -- every job of it ends within the frame
    pub planner_in_frame : (words : List ℕ) → planned_by (work_of net) m ≡ done words → (j : ℕ) → j < job_count_of (work_of net) → end_at (work_of net) words j ≤ (work_of net).frame
    planner_in_frame words e j h = omega (arith, (planned_feasible w m plannable some words e).in_time j h, ((jobs_are net ok).each j h).in_frame)

    -- if it refuses, it is by 19, at a job that its rule places too late
    pub planner_misses : (reply : Reply) (j : ℕ) → planned_by (work_of net) m ≡ refused reply j → Misses (work_of net) m reply j
    planner_misses = planned_misses w m plannable some

    -- all its numbers are small
    pub planner_small : (n : ℕ) → n ≤ job_count_of (work_of net) → (s : Planning) → placing (work_of net) m n ≡ done s → Small (work_of net) s
    planner_small n h s e =
        let S : Sound (work_of net) m n s = sound n h s e in
        let most : (work_of net).frame ≤ 2000 = (jobs_are net ok).frame.most in
        let starts : (j p : ℕ) → j < job_count_of (work_of net) → can_place (work_of net) s j ≡ true → start_on (work_of net) s j p ≤ 2000 =
        λ j p hj can. omega (arith, start_in_frame w m n plannable s S j hj can p) in
        record {
          last = λ p. omega (arith, S.in_frame p);
          ends = λ j hj e. omega (arith, S.in_time j e, ((jobs_are net ok).each j hj).in_frame);
          starts = starts;
          tries = λ j p hj can. omega (arith, starts j p hj can, ((jobs_are net ok).each j hj).fits, ((jobs_are net ok).each j hj).in_frame);
        }

-- ---- the calls

pub sets_front : (out words : List ℕ) → length words ≤ length out → (k : ℕ) → k < length words → get_or (sets out 0 words) k 0 ≡ get_or words k 0
sets_front out words h k l = ap (λ (x : List ℕ). get_or x k 0) (sets-eq words out 0 (omega arith)) ∙ get_or-append words (drop (0 + length words) out) 0 k l

-- the planner's plan is accepted at the front of longer memory too
accepted_there : (net : Net) → Valid net → (m : ℕ) → 1 ≤ m → (out words : List ℕ) → 2 * job_count_of (work_of net) ≤ length out
    → planned_by (work_of net) m ≡ done words → checked_by (work_of net) m (sets out 0 words) ≡ done tt
accepted_there net ok m some out words room e =
    let size : length words ≡ 2 * job_count_of (work_of net) = planner_size net ok m some words e in
    checked_same (work_of net) m (sets out 0 words) words (λ k l. sets_front out words (omega arith) k (omega arith))
    ∙ planner_accepted net ok m some words e

-- the plan that the planner's call leaves in the lent words, the checker's call accepts there
pub plan_then_check : (file : List ℕ) (m : ℕ) (out words : List ℕ) → plan_call file m out ≡ done words → check_call file m (plan_filled (plan_call file m out) out) ≡ done tt
unfolding plan_call plan_work plan_filled check_call check_work
plan_then_check file m out words e =
    required (leb 1 m && leb m 4) OutOfRange 0 _ words e λ range e₁.
    accepted (load_work file) _ words e₁ λ w load e₂.
    required (leb (2 * job_count_of w) (length out)) ShortBuffer 0 _ words e₂ λ room e₃.
    let (net, read, ok, is) = file_work file w load in
    let some : 1 ≤ m = leb-true 1 m (both (leb 1 m) (leb m 4) range).0 in
    let there : 2 * job_count_of w ≤ length out = leb-true _ _ room in
    rw (e, range, load, length-sets out 0 words, room, is) (accepted_there net ok m some out words (rw is at there) (rw is at e₃))
