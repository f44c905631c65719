-- The timed run: durations in, starts and ends out; its rule, its one solution computed, and its call on a file.
use Rattle.std.specs.Prelude.{ℕ, zero, suc, ◌+◌, ◌-◌, ◌*◌, ◌≤◌, ◌<◌, ◌≡◌, Bool, ◌&&◌, List, [], ◌∷◌, ◌++◌, length, get_or, replicate, ltb, leb, eqb}
use Rattle.reply.specs.Tools.{pick}
use Rattle.reply.specs.Result.{Result, done, and_then, require, in_order}
use Rattle.reply.specs.Call.{ok_processors, ok_room}
use Rattle.reply.specs.declared.Answer.{Answer}
use Rattle.reply.specs.declared.Reply.TheVariants.{Done, LongDuration}
use Rattle.network.specs.Lists.{table}
use Rattle.graph.specs.Work.{Work, load_work, job_count_of, deadline, cost}
use Rattle.plan.specs.Plan.{processor_at, start_at, start_after, checked_by, plan_filled}

-- ---- the rule

-- job i is on the processor of job j, and is planned to start earlier
unfoldable pub is_earlier : List ℕ → ℕ → ℕ → Bool
is_earlier plan j i = eqb (processor_at plan i) (processor_at plan j) && ltb (start_at plan i) (start_at plan j)

-- "the job before it on that processor": of the earlier jobs there, the one planned closest to it; one more than that job, or 0 if there is none
unfoldable pub job_before : Work → List ℕ → ℕ → ℕ
job_before w plan j = pick (is_earlier plan j) (λ i. start_at plan j - start_at plan i) (job_count_of w)

-- its end, given the end of every job; 0 if there is none
abbrev pub end_before : (ℕ → ℕ) → ℕ → ℕ
end_before ends zero = 0
end_before ends (suc i) = ends i

-- "start is the greatest of release, predecessors' ends and the end of the job before it on that processor"
unfoldable pub start_is : Work → List ℕ → (ℕ → ℕ) → ℕ → ℕ
start_is w plan ends j = start_after w ends (end_before ends (job_before w plan j)) j

abbrev pub duration_of : List ℕ → ℕ → ℕ
duration_of durations j = get_or durations j 0

-- "starts and ends, two words a job"
abbrev pub start_in : List ℕ → ℕ → ℕ
start_in times j = get_or times (2 * j) 0

abbrev pub end_in : List ℕ → ℕ → ℕ
end_in times j = get_or times (2 * j + 1) 0

-- times that keep the rule at every job
pub record Timed (w : Work) (plan durations times : List ℕ) : Type 0 where
  pub size : length times ≡ 2 * job_count_of w
  pub start : (j : ℕ) → j < job_count_of w → start_in times j ≡ start_is w plan (end_in times) j
  pub end : (j : ℕ) → j < job_count_of w → end_in times j ≡ start_in times j + duration_of durations j

-- ---- computed

-- the ends of all jobs after so many rounds of the rule, each round from the ends of the one before
unfoldable pub ends_after : Work → List ℕ → List ℕ → ℕ → List ℕ
ends_after w plan durations zero = replicate (job_count_of w) 0
ends_after w plan durations (suc k) =
    let ends = ends_after w plan durations k in
    table (job_count_of w) (λ j. start_is w plan (λ i. get_or ends i 0) j + duration_of durations j)

-- the words of the first n jobs
unfoldable pub times_to : (ℕ → ℕ) → (ℕ → ℕ) → ℕ → List ℕ
times_to starts ends zero = []
times_to starts ends (suc n) = times_to starts ends n ++ (starts n ∷ ends n ∷ [])

-- a round for each job settles the ends of all
unfoldable pub times_of : Work → List ℕ → List ℕ → List ℕ
times_of w plan durations =
    let ends = ends_after w plan durations (job_count_of w) in
    times_to (start_is w plan (λ i. get_or ends i 0)) (λ i. get_or ends i 0) (job_count_of w)

-- ---- the call

-- "duration above budget"
unfoldable pub ok_durations : Work → List ℕ → Result (Unit {0})
ok_durations w durations = in_order (job_count_of w) (λ j. require (leb (duration_of durations j) (cost w j)) LongDuration j)

-- the plan and the durations, which have room
unfoldable pub ok_timed : Work → ℕ → List ℕ → List ℕ → Result (Unit {0})
ok_timed w m plan durations =
    and_then (checked_by w m plan) λ ok.
    ok_durations w durations

-- the timed run on a network's work, after the file was read: 10, plan, durations
unfoldable pub timed_work : Work → ℕ → List ℕ → List ℕ → List ℕ → Result (List ℕ)
timed_work w m plan durations out =
    and_then (ok_room (2 * job_count_of w) plan) λ ok₁.
    and_then (ok_room (job_count_of w) durations) λ ok₂.
    and_then (ok_room (2 * job_count_of w) out) λ ok₃.
    and_then (ok_timed w m plan durations) λ ok₄.
    done (times_of w plan durations)

-- the call: M, file, and then the timed run
unfoldable pub timed_call : List ℕ → ℕ → List ℕ → List ℕ → List ℕ → Result (List ℕ)
timed_call file m plan durations out =
    and_then (ok_processors m) λ ok.
    and_then (load_work file) λ w.
    timed_work w m plan durations out

-- the words lent for starts and ends, afterwards: as with those lent for a plan
abbrev pub timed_filled : Result (List ℕ) → List ℕ → List ℕ
timed_filled r out = plan_filled r out

-- ---- what a run that is done leaves in the lent words, in the words of the rule

pub record KeepsTime (file plan durations : List ℕ) (answer : Answer) (out : List ℕ) : Type 0 where
  -- each job starts at the greatest of its release, its predecessors' ends and the end of the job before it on its processor
  pub start : (w : Work) → load_work file ≡ done w → answer.reply ≡ Done → (j : ℕ) → j < job_count_of w → start_in out j ≡ start_is w plan (end_in out) j
  -- and ends its duration later
  pub end : (w : Work) → load_work file ≡ done w → answer.reply ≡ Done → (j : ℕ) → j < job_count_of w → end_in out j ≡ start_in out j + duration_of durations j

-- every job ends at its deadline or earlier
pub record InTime (file : List ℕ) (answer : Answer) (out : List ℕ) : Type 0 where
  pub each : (w : Work) → load_work file ≡ done w → answer.reply ≡ Done → (j : ℕ) → j < job_count_of w → end_in out j ≤ deadline w j
