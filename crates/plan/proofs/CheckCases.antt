-- One job of a plan: the cases of the tests, and its fault by what the tests say.
use Rattle.std.specs.Prelude.{ℕ, ◌+◌, ◌≤◌, ◌≡◌, refl, true, false, not, List, ltb, leb, Option, Some, None}
use Rattle.std.proofs.Common.{sym, ◌∙◌, get_or, leb-true}
use Rattle.reply.specs.Tools.{any}
use Rattle.reply.specs.Tests.{split}
use Rattle.reply.specs.Result.{Result, done, refused, and_then, require}
use Rattle.reply.specs.ResultLaws.{refused_not}
use Rattle.reply.specs.declared.Reply.{Reply}
use Rattle.reply.specs.declared.Reply.TheVariants.{WrongProcessor, BeforeRelease, EndsLate, Overlaps, BeforePredecessor}
use Rattle.graph.specs.Sequence.{no_job}
use Rattle.graph.specs.Work.{Work}
use Rattle.graph.specs.declared.Job.{Job}
use Rattle.plan.specs.Plan.{processor_at, start_at, overlap, too_soon, fault}
use Rattle.plan.specs.CheckTold.{own_fault}

-- ---- by itself

-- a fault of its own, or else the rest
abbrev pub own_or : Option Reply → ℕ → Result (Unit {0}) → Result (Unit {0})
own_or None j rest = rest
own_or (Some reply) j rest = refused reply j

module _ (p s : ℕ) (job : Job) (m : ℕ) where
  -- without such a fault, it ends in time
  pub own_in_time : own_fault p s job m ≡ None → s + job.budget ≤ job.deadline
  unfolding own_fault
  own_in_time e = split (ltb p m)
      (λ x. split (leb job.release s)
      (λ y. split (leb (s + job.budget) job.deadline) (leb-true (s + job.budget) job.deadline) (λ z. some_not (rw (x, y, z) at e)))
      (λ y. some_not (rw (x, y) at e)))
      (λ x. some_not (rw x at e))
    where
      some_not : {reply : Reply} {P : Type 0} → Some reply ≡ None → P
      some_not e = cc

  -- it is the first of the faults; without it, the rest says
  pub own_first : (j : ℕ) (rest : Result (Unit {0}))
      → and_then (require (ltb p m) WrongProcessor j) (λ a. and_then (require (leb job.release s) BeforeRelease j) (λ b'. and_then (require (leb (s + job.budget) job.deadline) EndsLate j) (λ c. rest)))
      ≡ own_or (own_fault p s job m) j rest
  unfolding own_fault
  own_first j rest = split (ltb p m)
      (λ x. split (leb job.release s)
      (λ y. split (leb (s + job.budget) job.deadline) (λ z. rw (x, y, z)) (λ z. rw (x, y, z)))
      (λ y. rw (x, y)))
      (λ x. rw x)

-- ---- the fault of a job

module _ (w : Work) (m : ℕ) (plan : List ℕ) (j : ℕ) where
  module _ (job : Job) (is : job ≡ get_or w.jobs j no_job) where
    abbrev own : Option Reply
    own = own_fault (processor_at plan j) (start_at plan j) job m

    by_own : fault w m plan j
        ≡ own_or own j (and_then (require (not (any j (λ i. overlap w plan i j))) Overlaps j) (λ ok. require (not (any j (λ i. too_soon w plan i j))) BeforePredecessor j))
    unfolding fault
    by_own = rw is (own_first (processor_at plan j) (start_at plan j) _ m j _)

    -- a job without a fault ends in time
    pub faultless_in_time : fault w m plan j ≡ done tt → start_at plan j + job.budget ≤ job.deadline
    faultless_in_time e = go own refl (sym by_own ∙ e)
      where
        go : (o : Option Reply) → own ≡ o → own_or o j (and_then (require (not (any j (λ i. overlap w plan i j))) Overlaps j) (λ ok. require (not (any j (λ i. too_soon w plan i j))) BeforePredecessor j)) ≡ done tt → start_at plan j + job.budget ≤ job.deadline
        go None t f = own_in_time (processor_at plan j) (start_at plan j) job m t
        go (Some reply) t f = refused_not f

    pub fault_own : {reply : Reply} → own ≡ Some reply → fault w m plan j ≡ refused reply j
    fault_own h = by_own ∙ rw h

    module _ (clean : own ≡ None) where
      pub fault_overlaps : any j (λ i. overlap w plan i j) ≡ true → fault w m plan j ≡ refused Overlaps j
      fault_overlaps e = by_own ∙ rw (clean, e)

      module _ (apart : any j (λ i. overlap w plan i j) ≡ false) where
        pub fault_soon : any j (λ i. too_soon w plan i j) ≡ true → fault w m plan j ≡ refused BeforePredecessor j
        fault_soon e = by_own ∙ rw (clean, apart, e)

        pub fault_none : any j (λ i. too_soon w plan i j) ≡ false → fault w m plan j ≡ done tt
        fault_none e = by_own ∙ rw (clean, apart, e)
