-- The timed run on small networks, as the definitions compute it.
use Rattle.std.specs.Prelude.{ℕ, ◌≡◌, refl, List, [], ◌∷◌, map, replicate}
use Rattle.reply.specs.Reply.{reply_number}
use Rattle.reply.specs.Result.{answer_of}
use Rattle.reply.specs.declared.Answer.{Answer}
use Rattle.roundtrip.specs.Examples.{K}
use Rattle.plan.specs.Examples.{long_and_short}
use Rattle.timed.specs.Timed.{timed_call, timed_filled}
use Rattle.timed.specs.Opens.{timed_definitions}

-- what a call is given: file, processors, plan, durations, words lent
record Call : Type 0 where
  file : List ℕ
  processors : ℕ
  plan : List ℕ
  durations : List ℕ
  out : List ℕ

-- reply, place, words afterwards
abbrev Told : Type 0
Told = ℕ × ℕ × List ℕ

abbrev told : Answer → List ℕ → Told
told a words = (reply_number a.reply, a.place, words)

abbrev timed : Call → Told
timed c = let r = timed_call c.file c.processors c.plan c.durations c.out in told (answer_of r) (timed_filled r c.out)

-- the plan that the planner makes of K
abbrev plan_of_k : List ℕ
plan_of_k = 0 ∷ 0 ∷ 0 ∷ 3 ∷ 0 ∷ 7 ∷ 0 ∷ 13 ∷ []

-- K on a plan, with room for nine words
abbrev on_k : List ℕ → List ℕ → Call
on_k plan durations = record { file = K; processors = 2; plan = plan; durations = durations; out = replicate 9 7 }

abbrev on_one : List ℕ → List ℕ → List ℕ → List ℕ → Call
on_one file plan durations out = record { file = file; processors = 1; plan = plan; durations = durations; out = out }

abbrev runs : List (Call × Told)
runs =
    -- ends 1, 5, 11, 15; the word past the times stays
    (on_k plan_of_k (1 ∷ 4 ∷ 6 ∷ 4 ∷ []), (0, 0, 0 ∷ 1 ∷ 1 ∷ 5 ∷ 5 ∷ 11 ∷ 11 ∷ 15 ∷ 7 ∷ []))
    -- no job takes time: each starts at its release
    ∷ (on_k plan_of_k (0 ∷ 0 ∷ 0 ∷ 0 ∷ []), (0, 0, 0 ∷ 0 ∷ 0 ∷ 0 ∷ 0 ∷ 0 ∷ 10 ∷ 10 ∷ 7 ∷ []))
    -- every job takes its budget: as planned
    ∷ (on_k plan_of_k (3 ∷ 4 ∷ 6 ∷ 4 ∷ []), (0, 0, 0 ∷ 3 ∷ 3 ∷ 7 ∷ 7 ∷ 13 ∷ 13 ∷ 17 ∷ 7 ∷ []))
    -- job 3 on the other processor waits for job 2 all the same, which precedes it
    ∷ (on_k (0 ∷ 0 ∷ 0 ∷ 3 ∷ 0 ∷ 7 ∷ 1 ∷ 13 ∷ []) (1 ∷ 4 ∷ 6 ∷ 4 ∷ []), (0, 0, 0 ∷ 1 ∷ 1 ∷ 5 ∷ 5 ∷ 11 ∷ 11 ∷ 15 ∷ 7 ∷ []))
    -- above the budget: the least such job
    ∷ (on_k plan_of_k (3 ∷ 4 ∷ 7 ∷ 5 ∷ []), (18, 2, replicate 9 7))
    ∷ (on_k plan_of_k (4 ∷ 4 ∷ 6 ∷ 4 ∷ []), (18, 0, replicate 9 7))
    -- job 1 is planned before job 0 on their processor, and job 0 before job 2
    ∷ (on_one long_and_short (0 ∷ 1 ∷ 0 ∷ 0 ∷ 0 ∷ 11 ∷ []) (10 ∷ 1 ∷ 1 ∷ []) (replicate 6 7), (0, 0, 1 ∷ 11 ∷ 0 ∷ 1 ∷ 11 ∷ 12 ∷ []))
    ∷ (on_one long_and_short (0 ∷ 1 ∷ 0 ∷ 0 ∷ 0 ∷ 11 ∷ []) (3 ∷ 0 ∷ 1 ∷ []) (replicate 6 7), (0, 0, 0 ∷ 3 ∷ 0 ∷ 0 ∷ 10 ∷ 11 ∷ []))
    -- in order: processors 1 to 4, the file, room for plan, durations and times, the plan, and only then the durations
    ∷ (record { file = []; processors = 0; plan = []; durations = []; out = [] }, (4, 0, []))
    ∷ (record { file = []; processors = 5; plan = []; durations = []; out = [] }, (4, 0, []))
    ∷ (on_one [] [] [] [], (1, 0, []))
    ∷ (on_one long_and_short (replicate 5 9) (replicate 3 9) (replicate 6 9), (10, 0, replicate 6 9))
    ∷ (on_one long_and_short (replicate 6 9) (replicate 2 9) (replicate 6 9), (10, 0, replicate 6 9))
    ∷ (on_one long_and_short (replicate 6 9) (replicate 3 9) (replicate 5 9), (10, 0, replicate 5 9))
    ∷ (on_one long_and_short (replicate 6 9) (replicate 3 99) (replicate 6 9), (11, 0, replicate 6 9))
    ∷ []

runs_hold : map (λ (e : Call × Told). timed e.0) runs ≡ map (λ (e : Call × Told). e.1) runs
unfolding timed_definitions
runs_hold = refl
