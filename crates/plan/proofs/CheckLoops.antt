-- The loops of `checking::judge`: the jobs so far have no fault; and a job does not overlap the lower jobs so far.
use Rattle.std.specs.Prelude.{ℕ, suc, ◌+◌, ◌≤◌, ◌<◌, ◌≡◌, Bool, true, false, ◌&&◌, ◌||◌, eqb, ltb, List, Option, Some, None, Ok, Err}
use Rattle.std.specs.declared.result.Result as Std
use Rattle.std.proofs.Common.{sym, refl, ap, ap₂, ◌∙◌, arith, add-one, get_or, le-ltb}
use Rattle.reply.specs.Tools.{any}
use Rattle.reply.specs.AllAny.{any_zero, any_suc, any_make}
use Rattle.reply.specs.Result.{done, refused, in_order}
use Rattle.reply.specs.ResultLaws.{order_zero, order_more, order_refused, order_done}
use Rattle.reply.specs.declared.Refusal.{Refusal}
use Rattle.reply.specs.declared.Reply.{Reply}
use Rattle.reply.specs.declared.Reply.TheVariants.{Overlaps, BeforePredecessor}
use Rattle.marks.specs.Row.{marked, no_marks}
use Rattle.marks.specs.declared.Row.{Row}
use Rattle.graph.specs.Sequence.{no_job}
use Rattle.graph.specs.Work.{Work}
use Rattle.graph.specs.declared.Job.{Job}
use Rattle.plan.specs.Plan.{processor_at, start_at, overlap, too_soon, fault, checked_by}
use Rattle.plan.specs.CheckTold.{stay_by, own_fault, overlapping, soon_or, TablesOf, Checkable, Judged}
use Rattle.plan.specs.declared.checking.Stay.{Stay}
use Rattle.plan.proofs.CheckCases.{own_in_time, faultless_in_time, fault_own, fault_overlaps, fault_soon, fault_none}

abbrev job_at : List Job → ℕ → Job
job_at jobs j = get_or jobs j no_job

-- the end of job j, where it is put, and its own fault
abbrev end_in : List Job → List ℕ → ℕ → ℕ
end_in jobs plan j = start_at plan j + (job_at jobs j).budget

abbrev pub stay_in : List Job → List ℕ → ℕ → Stay
stay_in jobs plan j = stay_by plan j (job_at jobs j).budget

abbrev pub own_in : List Job → ℕ → List ℕ → ℕ → Option Reply
own_in jobs m plan j = own_fault (processor_at plan j) (start_at plan j) (job_at jobs j) m

-- the jobs below j have no fault
pub record Passed (jobs : List Job) (before : List Row) (n m : ℕ) (plan : List ℕ) (j : ℕ) : Type 0 where
  pub within : j ≤ n
  pub passed : (w : Work) → TablesOf w jobs before n → in_order j (fault w m plan) ≡ done tt

-- and job j, which has no fault by itself, does not overlap the jobs below i
pub record Held (jobs : List Job) (before : List Row) (n m : ℕ) (plan : List ℕ) (j : ℕ) (soon : Bool) (i : ℕ) : Type 0 where
  pub so_far : Passed jobs before n m plan j
  pub on : j < n
  pub clean : own_in jobs m plan j ≡ None
  pub within : i ≤ j
  pub apart : (w : Work) → TablesOf w jobs before n → any i (λ k. overlap w plan k j) ≡ false
  pub soon_is : (w : Work) → TablesOf w jobs before n → soon ≡ any i (λ k. too_soon w plan k j)

-- what leaves the loops, as a result
abbrev pub verdict : Option (ℕ × Reply) → Std.Result (Unit {0}) Refusal
verdict None = Ok tt
verdict (Some (place, reply)) = Err (record { reply = reply; place = place })

-- and it is that of the definition
abbrev pub Found : List Job → List Row → ℕ → ℕ → List ℕ → Option (ℕ × Reply) → Type 0
Found jobs before n m plan fault = Judged jobs before n m plan (verdict fault)

neither : (a b : Bool) → (a && (b && false)) ≡ false
neither true true = refl
neither true false = refl
neither false b = refl

no_more : (a b : Bool) → (a || (b && false)) ≡ a
no_more true b = refl
no_more false true = refl
no_more false false = refl

module _ {jobs : List Job} {before : List Row} {n m : ℕ} {plan : List ℕ} where
  pub judged_by : {fault found : Option (ℕ × Reply)} → fault ≡ found → Found jobs before n m plan fault → Judged jobs before n m plan (verdict found)
  judged_by e f = record { is = λ w t. ap verdict (sym e) ∙ f.is w t }

  pub start : Passed jobs before n m plan 0
  start = record { within = omega arith; passed = λ w t. order_zero (fault w m plan) }

  module _ {j : ℕ} (so_far : Passed jobs before n m plan j) where
    -- no job is left
    pub finish : n ≤ j → Found jobs before n m plan None
    unfolding checked_by
    finish h = record {
      is = λ w t.
          let e : j ≡ n = omega (arith, so_far.within) in
          rw (t.count, ← e, so_far.passed w t);
    }

    -- the ends of lower jobs are small
    pub lower_end : Checkable jobs before n plan → (i : ℕ) → i < j → end_in jobs plan i ≤ 2000
    lower_end ok i l =
        let w = ok.work in
        let t = ok.tables in
        let h : i < n = omega (arith, so_far.within) in
        omega (arith, ok.small i h, faultless_in_time w m plan i (job_at jobs i) (t.job i h) (order_done (fault w m plan) j (so_far.passed w t) i l))

    module _ (on : j < n) where
      -- job j is the least faulty one
      least : (reply : Reply) → ((w : Work) → TablesOf w jobs before n → fault w m plan j ≡ refused reply j) → Found jobs before n m plan (Some (j, reply))
      unfolding checked_by
      least reply e = record { is = λ w t. rw (t.count, order_refused (fault w m plan) j n reply j on (so_far.passed w t) (e w t)) }

      -- by itself
      pub found_own : {reply : Reply} → own_in jobs m plan j ≡ Some reply → Found jobs before n m plan (Some (j, reply))
      found_own {reply} e = least reply λ w t. fault_own w m plan j (job_at jobs j) (t.job j on) e

      module _ (none : own_in jobs m plan j ≡ None) where
        pub end_small : Checkable jobs before n plan → end_in jobs plan j ≤ 2000
        end_small ok = omega (arith, own_in_time (processor_at plan j) (start_at plan j) (job_at jobs j) m none, ok.small j on)

        pub hold : Held jobs before n m plan j false 0
        hold = record {
          so_far = so_far;
          on = on;
          clean = none;
          within = omega arith;
          apart = λ w t. any_zero (λ k. overlap w plan k j);
          soon_is = λ w t. sym (any_zero (λ k. too_soon w plan k j));
        }

  module _ {j : ℕ} {soon : Bool} {i : ℕ} (held : Held jobs before n m plan j soon i) where
    -- against one more
    module _ (below : i < j) {lower stay : Stay} (lower_is : lower ≡ stay_in jobs plan i) (stay_is : stay ≡ stay_in jobs plan j) {o : Bool} (told_so : o ≡ overlapping lower stay) where
      tried : o ≡ overlapping (stay_in jobs plan i) (stay_in jobs plan j)
      tried = told_so ∙ ap₂ overlapping lower_is stay_is

      overlap_here : (w : Work) → TablesOf w jobs before n → o ≡ overlap w plan i j
      unfolding overlap overlapping
      overlap_here w t = tried ∙ rw (t.job i (omega (arith, held.on)), t.job j held.on)

      pub found_overlap : o ≡ true → Found jobs before n m plan (Some (j, Overlaps))
      found_overlap e = least held.so_far held.on Overlaps λ w t.
          fault_overlaps w m plan j (job_at jobs j) (t.job j held.on) held.clean
          (any_make j (λ k. overlap w plan k j) i below (sym (overlap_here w t) ∙ e))

      module _ (apart : o ≡ false) {p s : Bool} (marks : p ≡ marked (get_or before j no_marks) i) (told : s ≡ soon_or soon p stay.start lower.end) where
        soon_here : (w : Work) → TablesOf w jobs before n → s ≡ any (suc i) (λ k. too_soon w plan k j)
        unfolding too_soon soon_or
        soon_here w t =
            told
            ∙ ap₂ (soon_or soon p) (ap (λ (x : Stay). x.start) stay_is) (ap (λ (x : Stay). x.end) lower_is)
            ∙ rw (held.soon_is w t, marks, t.row i j below held.on, t.job i (omega (arith, held.on))) (sym (any_suc i (λ k. too_soon w plan k j)))

        pub hold_more : Held jobs before n m plan j s (i + 1)
        hold_more = rw (add-one i) (record {
          so_far = held.so_far;
          on = held.on;
          clean = held.clean;
          within = below;
          apart = λ w t. any_suc i (λ k. overlap w plan k j) ∙ ap₂ (λ a b. a || b) (held.apart w t) (sym (overlap_here w t) ∙ apart);
          soon_is = soon_here;
        })

    -- against one that has ended when job j starts
    module _ (below : i < j) {lower stay : Stay} (lower_is : lower ≡ stay_in jobs plan i) (stay_is : stay ≡ stay_in jobs plan j) (ended : lower.end ≤ stay.start) where
      no_overlap : overlapping lower stay ≡ false
      unfolding overlapping
      no_overlap = rw (le-ltb stay.start lower.end ended) (neither (eqb lower.processor stay.processor) (ltb lower.start stay.end))

      as_soon : (p : Bool) → soon ≡ soon_or soon p stay.start lower.end
      unfolding soon_or
      as_soon p = rw (le-ltb stay.start lower.end ended) (sym (no_more soon p))

      pub hold_past : Held jobs before n m plan j soon (i + 1)
      hold_past = hold_more below lower_is stay_is refl no_overlap refl (as_soon (marked (get_or before j no_marks) i))

    -- against all
    module _ (all : j ≤ i) where
      same : i ≡ j
      same = omega (arith, held.within)

      apart_all : (w : Work) → TablesOf w jobs before n → any j (λ k. overlap w plan k j) ≡ false
      apart_all w t = ap (λ (x : ℕ). any x (λ k. overlap w plan k j)) (sym same) ∙ held.apart w t

      soon_all : (w : Work) → TablesOf w jobs before n → any j (λ k. too_soon w plan k j) ≡ soon
      soon_all w t = ap (λ (x : ℕ). any x (λ k. too_soon w plan k j)) (sym same) ∙ sym (held.soon_is w t)

      pub found_soon : soon ≡ true → Found jobs before n m plan (Some (j, BeforePredecessor))
      found_soon e = least held.so_far held.on BeforePredecessor λ w t.
          fault_soon w m plan j (job_at jobs j) (t.job j held.on) held.clean (apart_all w t) (soon_all w t ∙ e)

      pub pass : soon ≡ false → Passed jobs before n m plan (j + 1)
      pass e = rw (add-one j) (record {
        within = held.on;
        passed = λ w t.
            order_more (fault w m plan) j (held.so_far.passed w t)
            ∙ fault_none w m plan j (job_at jobs j) (t.job j held.on) held.clean (apart_all w t) (soon_all w t ∙ e);
      })
