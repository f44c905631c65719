-- The planner and the checker on small networks, as the definitions compute them.
use Rattle.std.specs.Prelude.{ℕ, ◌≡◌, refl, List, [], ◌∷◌, map, replicate}
use Rattle.reply.specs.Reply.{reply_number}
use Rattle.reply.specs.Result.{answer_of}
use Rattle.reply.specs.declared.Answer.{Answer}
use Rattle.roundtrip.specs.Examples.{K}
use Rattle.plan.specs.Plan.{plan_call, plan_filled, check_call}
use Rattle.plan.specs.Opens.{plan_definitions}

-- ---- the networks, as bytes: no channels, and processes without actions

-- budgets 1, 12, 6, all period and deadline 25, pairs 0-1 and 0-2
abbrev pub three_tasks : List ℕ
three_tasks = 1 ∷ 3 ∷ 25 ∷ 1 ∷ 25 ∷ 1 ∷ 25 ∷ 1 ∷ 25 ∷ 12 ∷ 25 ∷ 1 ∷ 25 ∷ 6 ∷ 2 ∷ 0 ∷ 1 ∷ 0 ∷ 2 ∷ 0 ∷ 0 ∷ 0 ∷ 0 ∷ []

-- two unrelated processes, period and deadline 10, budget 6
abbrev two_apart : List ℕ
two_apart = 1 ∷ 2 ∷ 10 ∷ 1 ∷ 10 ∷ 6 ∷ 10 ∷ 1 ∷ 10 ∷ 6 ∷ 0 ∷ 0 ∷ 0 ∷ 0 ∷ []

-- process 0: 20, 1, 20, 10; process 1: 10, 1, 5, 1; no pairs
abbrev pub long_and_short : List ℕ
long_and_short = 1 ∷ 2 ∷ 20 ∷ 1 ∷ 20 ∷ 10 ∷ 10 ∷ 1 ∷ 5 ∷ 1 ∷ 0 ∷ 0 ∷ 0 ∷ 0 ∷ []

-- budgets 10, 5, 5, all period and deadline 20, pair 0-2
abbrev two_faults : List ℕ
two_faults = 1 ∷ 3 ∷ 20 ∷ 1 ∷ 20 ∷ 10 ∷ 20 ∷ 1 ∷ 20 ∷ 5 ∷ 20 ∷ 1 ∷ 20 ∷ 5 ∷ 1 ∷ 0 ∷ 2 ∷ 0 ∷ 0 ∷ 0 ∷ 0 ∷ []

-- ---- the planner: file, processors, words lent; reply, place, words afterwards

abbrev Planned : Type 0
Planned = (List ℕ × ℕ × List ℕ) × (ℕ × ℕ × List ℕ)

-- reply and place, by number, and some words
abbrev told_with : Answer → List ℕ → ℕ × ℕ × List ℕ
told_with a words = (reply_number a.reply, a.place, words)

abbrev planned : List ℕ × ℕ × List ℕ → ℕ × ℕ × List ℕ
planned q = let r = plan_call q.0 q.1 q.2 in told_with (answer_of r) (plan_filled r q.2)

abbrev plans : List Planned
plans =
    ((K, 2, replicate 8 9), (0, 0, 0 ∷ 0 ∷ 0 ∷ 3 ∷ 0 ∷ 7 ∷ 0 ∷ 13 ∷ []))
    -- words past the plan stay
    ∷ ((three_tasks, 2, replicate 7 9), (0, 0, 0 ∷ 0 ∷ 0 ∷ 1 ∷ 1 ∷ 1 ∷ 9 ∷ []))
    -- a job ends late
    ∷ ((two_apart, 1, replicate 4 9), (19, 1, replicate 4 9))
    ∷ ((long_and_short, 1, replicate 6 9), (19, 0, replicate 6 9))
    -- in order: processors 1 to 4, the file, room, and only then the deadlines
    ∷ (([], 0, []), (4, 0, []))
    ∷ (([], 5, []), (4, 0, []))
    ∷ (([], 4, []), (1, 0, []))
    ∷ ((two_apart, 1, replicate 3 9), (10, 0, replicate 3 9))
    ∷ []

plans_hold : map (λ (e : Planned). planned e.0) plans ≡ map (λ (e : Planned). e.1) plans
unfolding plan_definitions
plans_hold = refl

-- ---- the checker: file, processors, plan; reply and place

abbrev Checked : Type 0
Checked = (List ℕ × ℕ × List ℕ) × (ℕ × ℕ)

-- reply and place, by number
abbrev told : Answer → ℕ × ℕ
told a = (reply_number a.reply, a.place)

abbrev checks : List Checked
checks =
    ((K, 2, 0 ∷ 0 ∷ 0 ∷ 3 ∷ 0 ∷ 7 ∷ 0 ∷ 13 ∷ []), (0, 0))
    -- job 1 at (0, 2) overlaps job 0; at (1, 2) it starts before job 0 ends
    ∷ ((K, 2, 0 ∷ 0 ∷ 0 ∷ 2 ∷ 0 ∷ 7 ∷ 0 ∷ 13 ∷ []), (14, 1))
    ∷ ((K, 2, 0 ∷ 0 ∷ 1 ∷ 2 ∷ 0 ∷ 7 ∷ 0 ∷ 13 ∷ []), (15, 1))
    -- job 3 at 16 ends at its deadline, at 17 after it; at 9 it starts before its release
    ∷ ((K, 2, 0 ∷ 0 ∷ 0 ∷ 3 ∷ 0 ∷ 7 ∷ 0 ∷ 16 ∷ []), (0, 0))
    ∷ ((K, 2, 0 ∷ 0 ∷ 0 ∷ 3 ∷ 0 ∷ 7 ∷ 0 ∷ 17 ∷ []), (13, 3))
    ∷ ((K, 2, 0 ∷ 0 ∷ 0 ∷ 3 ∷ 0 ∷ 7 ∷ 0 ∷ 9 ∷ []), (12, 3))
    -- the greatest start ends late
    ∷ ((K, 2, 0 ∷ 0 ∷ 0 ∷ 3 ∷ 0 ∷ 7 ∷ 0 ∷ 4294967295 ∷ []), (13, 3))
    -- processor 2 of two; it comes before a start before the release
    ∷ ((K, 2, 0 ∷ 0 ∷ 0 ∷ 3 ∷ 0 ∷ 7 ∷ 2 ∷ 9 ∷ []), (11, 3))
    -- of two faulty jobs the lower one
    ∷ ((K, 2, 0 ∷ 0 ∷ 1 ∷ 2 ∷ 2 ∷ 0 ∷ 2 ∷ 0 ∷ []), (15, 1))
    -- the planner finds no plan here, and yet there is one
    ∷ ((long_and_short, 1, 0 ∷ 1 ∷ 0 ∷ 0 ∷ 0 ∷ 11 ∷ []), (0, 0))
    -- job 2 overlaps job 1, and starts before job 0 ends
    ∷ ((two_faults, 2, 0 ∷ 0 ∷ 1 ∷ 0 ∷ 1 ∷ 4 ∷ []), (14, 2))
    -- words past the plan are not read
    ∷ ((two_apart, 2, 0 ∷ 0 ∷ 1 ∷ 0 ∷ 7 ∷ 7 ∷ []), (0, 0))
    -- in order: processors 1 to 4, the file, room, and only then the plan
    ∷ (([], 0, []), (4, 0))
    ∷ (([], 5, []), (4, 0))
    ∷ (([], 4, []), (1, 0))
    ∷ ((two_apart, 1, replicate 3 9), (10, 0))
    ∷ []

checks_hold : map (λ (e : Checked). told (answer_of (check_call e.0.0 e.0.1 e.0.2))) checks ≡ map (λ (e : Checked). e.1) checks
unfolding plan_definitions
checks_hold = refl
