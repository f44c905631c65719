-- Plans: the planner's rule, the checker, and their calls on a file.
use Rattle.std.specs.Prelude.{ℕ, zero, suc, ◌+◌, ◌*◌, max, Bool, true, false, cond, not, ◌&&◌, ◌||◌, List, get_or, set, replicate, ltb, leb, eqb}
use Rattle.std.proofs.lemmas.List.Edits.{sets}
use Rattle.reply.specs.Tools.{all, any, pick}
use Rattle.reply.specs.Result.{Result, done, and_then, require, in_order, or_zero}
use Rattle.reply.specs.Call.{ok_processors, ok_room}
use Rattle.reply.specs.declared.Reply.TheVariants.{WrongProcessor, BeforeRelease, EndsLate, Overlaps, BeforePredecessor, MissesDeadline}
use Rattle.graph.specs.Work.{Work, load_work, job_count_of, release, deadline, cost, precedes}
use Rattle.plan.specs.Greatest.{greatest}

-- "a plan has two 32-bit words for each job, processor and start"
abbrev pub processor_at : List ℕ → ℕ → ℕ
processor_at plan j = get_or plan (2 * j) 0

abbrev pub start_at : List ℕ → ℕ → ℕ
start_at plan j = get_or plan (2 * j + 1) 0

-- start plus cost, exactly
abbrev pub end_at : Work → List ℕ → ℕ → ℕ
end_at w plan j = start_at plan j + cost w j

-- ---- the planner

-- what is placed so far: the plan's words, which jobs are placed, and of each processor "the end of the last job there (0 if none)"
pub record Planning : Type 0 where
  pub words : List ℕ
  pub placed : List Bool
  pub ends : List ℕ

abbrev pub is_placed : Planning → ℕ → Bool
is_placed s j = get_or s.placed j false

abbrev pub last_end : Planning → ℕ → ℕ
last_end s p = get_or s.ends p 0

unfoldable pub nothing_placed : Work → ℕ → Planning
nothing_placed w m = record { words = replicate (2 * job_count_of w) 0; placed = replicate (job_count_of w) false; ends = replicate m 0 }

-- a job still to place "whose predecessors are placed"
unfoldable pub can_place : Work → Planning → ℕ → Bool
can_place w s j = not (is_placed s j) && all (job_count_of w) (λ i. not (precedes w i j) || is_placed s i)

-- of those "take the least deadline, then the least number": one more than the job; 0 would say that there is none
unfoldable pub chosen : Work → Planning → ℕ
chosen w s = pick (can_place w s) (deadline w) (job_count_of w)

-- the latest of its predecessors' ends, given the end of every job; 0 if it has none
unfoldable pub ready_at : Work → (ℕ → ℕ) → ℕ → ℕ
ready_at w ends j = greatest (job_count_of w) (λ i. cond (precedes w i j) (ends i) 0)

-- "the greatest of its release, its predecessors' ends and the end of the last job there", given the ends of all jobs and that last end
unfoldable pub start_after : Work → (ℕ → ℕ) → ℕ → ℕ → ℕ
start_after w ends last j = max (max (release w j) (ready_at w ends j)) last

-- "its start on a processor"
abbrev pub start_on : Work → Planning → ℕ → ℕ → ℕ
start_on w s j p = start_after w (end_at w s.words) (last_end s p) j

abbrev pub any_processor : ℕ → Bool
any_processor p = true

-- "take the processor with the earliest start, then the smallest number": one more than the processor; 0 would say that there is none
unfoldable pub earliest : Work → ℕ → Planning → ℕ → ℕ
earliest w m s j = pick any_processor (start_on w s j) m

-- job j stands on processor p from its start there
unfoldable pub place_at : Work → Planning → ℕ → ℕ → Planning
place_at w s j p = record {
  words = set (set s.words (2 * j) p) (2 * j + 1) (start_on w s j p);
  placed = set s.placed j true;
  ends = set s.ends p (start_on w s j p + cost w j);
}

-- "if start plus budget passes the deadline the reply is 19"; on no processor nothing is placed
unfoldable pub place_on : Work → Planning → ℕ → ℕ → Result Planning
place_on w s j zero = done s
place_on w s j (suc p) =
    and_then (require (leb (start_on w s j p + cost w j) (deadline w j)) MissesDeadline j) λ ok.
    done (place_at w s j p)

-- the job that was chosen, on the processor that suits it; no job, and nothing is placed
unfoldable pub place_job : Work → ℕ → Planning → ℕ → Result Planning
place_job w m s zero = done s
place_job w m s (suc j) = place_on w s j (earliest w m s j)

-- n jobs placed, one after another
unfoldable pub placing : Work → ℕ → ℕ → Result Planning
placing w m zero = done (nothing_placed w m)
placing w m (suc n) = and_then (placing w m n) λ s. place_job w m s (chosen w s)

-- the plan of all the jobs of a work, on m processors
unfoldable pub planned_by : Work → ℕ → Result (List ℕ)
planned_by w m = and_then (placing w m (job_count_of w)) λ s. done s.words

-- ---- the checker

-- "overlaps a lower job on its processor": i and j are on one processor, and each starts before the other ends
unfoldable pub overlap : Work → List ℕ → ℕ → ℕ → Bool
overlap w plan i j =
    eqb (processor_at plan i) (processor_at plan j) && (ltb (start_at plan i) (end_at w plan j) && ltb (start_at plan j) (end_at w plan i))

-- "starts before a predecessor ends": i precedes j, and j starts before i ends
unfoldable pub too_soon : Work → List ℕ → ℕ → ℕ → Bool
too_soon w plan i j = precedes w i j && ltb (start_at plan j) (end_at w plan i)

-- job j's "first fault: 11 to 15 in that order"; every lower job is tried for 14 before any for 15
unfoldable pub fault : Work → ℕ → List ℕ → ℕ → Result (Unit {0})
fault w m plan j =
    and_then (require (ltb (processor_at plan j) m) WrongProcessor j) λ ok₁.
    and_then (require (leb (release w j) (start_at plan j)) BeforeRelease j) λ ok₂.
    and_then (require (leb (end_at w plan j) (deadline w j)) EndsLate j) λ ok₃.
    and_then (require (not (any j (λ i. overlap w plan i j))) Overlaps j) λ ok₄.
    require (not (any j (λ i. too_soon w plan i j))) BeforePredecessor j

-- "names the least faulty job and its first fault"
unfoldable pub checked_by : Work → ℕ → List ℕ → Result (Unit {0})
checked_by w m plan = in_order (job_count_of w) (fault w m plan)

-- ---- the calls

-- the planner on a network's work, after the file was read: 10, and 19 last
unfoldable pub plan_work : Work → ℕ → List ℕ → Result (List ℕ)
plan_work w m out =
    and_then (ok_room (2 * job_count_of w) out) λ ok.
    planned_by w m

-- the planner's call: M, file, and then the planner
unfoldable pub plan_call : List ℕ → ℕ → List ℕ → Result (List ℕ)
plan_call file m out =
    and_then (ok_processors m) λ ok.
    and_then (load_work file) λ w.
    plan_work w m out

-- the words lent for the plan, afterwards
unfoldable pub plan_filled : Result (List ℕ) → List ℕ → List ℕ
plan_filled r out = or_zero out (λ (words : List ℕ). sets out 0 words) r

-- the checker on a network's work, after the file was read: 10, plan
unfoldable pub check_work : Work → ℕ → List ℕ → Result (Unit {0})
check_work w m plan =
    and_then (ok_room (2 * job_count_of w) plan) λ ok.
    checked_by w m plan

-- the checker's call: M, file, and then the checker
unfoldable pub check_call : List ℕ → ℕ → List ℕ → Result (Unit {0})
check_call file m plan =
    and_then (ok_processors m) λ ok.
    and_then (load_work file) λ w.
    check_work w m plan
