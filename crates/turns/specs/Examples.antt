-- The turn run of network K, as the definitions compute it.
use Rattle.std.specs.Prelude.{ℕ, ◌≡◌, refl, List, [], ◌∷◌, ◌++◌, map, replicate}
use Rattle.reply.specs.Reply.{reply_number}
use Rattle.machine.specs.HeldOf.{no_held}
use Rattle.roundtrip.specs.Examples.{K}
use Rattle.promises.specs.Turns.{turn_call}
use Rattle.turns.specs.Turned.{turned_of, turn_filled}
use Rattle.turns.specs.Opens.{turn_definitions}
use Rattle.turns.specs.declared.TurnRan.{TurnRan}

-- K's plan on two processors: all jobs on processor 0
abbrev plan : List ℕ
plan = 0 ∷ 0 ∷ 0 ∷ 3 ∷ 0 ∷ 7 ∷ 0 ∷ 13 ∷ []

-- a frame in which job 0 has the sample 42 and the others have none; and one more without samples
abbrev first : List ℕ
first = 1 ∷ 42 ∷ 0 ∷ 0 ∷ 0 ∷ 0 ∷ 0 ∷ 0 ∷ []

abbrev both : List ℕ
both = first ++ replicate 8 0

-- one process without channels: it outputs its variable 0, and then sets it to 5
abbrev outputs : List ℕ
outputs = 1 ∷ 1 ∷ 10 ∷ 1 ∷ 10 ∷ 1 ∷ 0 ∷ 0 ∷ 2 ∷ 6 ∷ 0 ∷ 0 ∷ 0 ∷ 0 ∷ 0 ∷ 5 ∷ 0 ∷ []

-- file, processors and plan; frames, input, turns, and how many output words are lent
abbrev Asked : Type 0
Asked = (List ℕ × ℕ × List ℕ) × (ℕ × List ℕ × List ℕ × ℕ)

-- reply, place; frames, jobs, working turns, waiting turns; and the output words
abbrev Told : Type 0
Told = (ℕ × ℕ) × (ℕ × ℕ × ℕ × ℕ) × List ℕ

abbrev told : Asked → Told
told q =
    let output : List ℕ = replicate q.1.3 9 in
    let r = turn_call q.0.0 q.0.1 q.1.0 q.0.2 q.1.1 q.1.2 output in
    let x : TurnRan = turned_of r in
    ((reply_number x.answer.reply, x.answer.place), (x.frames, x.jobs, x.working, x.waiting), turn_filled r output)

-- K on two processors
abbrev k : List ℕ × ℕ × List ℕ
k = (K, 2, plan)

abbrev calls : List (Asked × Told)
calls =
    -- job 2 outputs the sample: 15 working turns; words past the output stay
    ((k, (1, first, replicate 15 0, 9)), ((0, 0), (1, 0, 15, 0), 0 ∷ 0 ∷ 0 ∷ 0 ∷ 1 ∷ 42 ∷ 0 ∷ 0 ∷ 9 ∷ []))
    -- and once more in a frame that has no samples, from the board: 13 working turns; after the last frame every turn waits
    ∷ ((k, (2, both, replicate 30 0, 16)), ((0, 0), (2, 0, 28, 2), 0 ∷ 0 ∷ 0 ∷ 0 ∷ 1 ∷ 42 ∷ 0 ∷ 0 ∷ 0 ∷ 0 ∷ 0 ∷ 0 ∷ 1 ∷ 42 ∷ 0 ∷ 0 ∷ []))
    -- no turns at all
    ∷ ((k, (1, first, [], 8)), ((0, 0), (0, 0, 0, 0), replicate 8 0))
    -- a processor without jobs
    ∷ ((k, (1, first, 1 ∷ 1 ∷ 0 ∷ 1 ∷ [], 8)), ((0, 0), (0, 0, 1, 3), replicate 8 0))
    -- job 1 is on processor 1: it waits until job 0 has finished
    ∷ (((K, 2, 0 ∷ 0 ∷ 1 ∷ 3 ∷ 0 ∷ 7 ∷ 0 ∷ 13 ∷ []), (1, first, 1 ∷ 0 ∷ 1 ∷ 0 ∷ 0 ∷ 0 ∷ 1 ∷ [], 8)), ((0, 0), (0, 1, 5, 2), replicate 8 0))
    -- job 2 has finished, and job 3 is under way
    ∷ ((k, (1, first, replicate 14 0, 8)), ((0, 0), (0, 3, 14, 0), 0 ∷ 0 ∷ 0 ∷ 0 ∷ 1 ∷ 42 ∷ 0 ∷ 0 ∷ []))
    -- a job under way that has output leaves nothing until it has finished
    ∷ (((outputs, 1, 0 ∷ 0 ∷ []), (1, 0 ∷ 0 ∷ [], 0 ∷ 0 ∷ [], 2)), ((0, 0), (0, 0, 2, 0), 0 ∷ 0 ∷ []))
    ∷ (((outputs, 1, 0 ∷ 0 ∷ []), (1, 0 ∷ 0 ∷ [], 0 ∷ 0 ∷ 0 ∷ [], 2)), ((0, 0), (1, 0, 3, 0), 1 ∷ 0 ∷ []))
    -- refused: processors are 1 to 4, frames 1 to 100, and then the file
    ∷ ((([], 0, []), (0, [], [], 1)), ((4, 0), (0, 0, 0, 0), 9 ∷ []))
    ∷ ((([], 5, []), (1, [], [], 1)), ((4, 0), (0, 0, 0, 0), 9 ∷ []))
    ∷ ((([], 4, []), (0, [], [], 1)), ((4, 0), (0, 0, 0, 0), 9 ∷ []))
    ∷ ((([], 4, []), (101, [], [], 1)), ((4, 0), (0, 0, 0, 0), 9 ∷ []))
    ∷ ((([], 4, []), (100, [], [], 1)), ((1, 0), (0, 0, 0, 0), 9 ∷ []))
    -- plan, input or output a word too short, before the plan is judged
    ∷ (((K, 2, replicate 7 0), (2, both, [], 16)), ((10, 0), (0, 0, 0, 0), replicate 16 9))
    ∷ (((K, 2, replicate 8 0), (2, replicate 15 0, [], 16)), ((10, 0), (0, 0, 0, 0), replicate 16 9))
    ∷ (((K, 2, replicate 8 0), (2, both, [], 15)), ((10, 0), (0, 0, 0, 0), replicate 15 9))
    -- a faulty plan, before the samples
    ∷ (((K, 2, 0 ∷ 0 ∷ 0 ∷ 2 ∷ 0 ∷ 7 ∷ 0 ∷ 13 ∷ []), (1, replicate 8 5, 2 ∷ [], 8)), ((14, 1), (0, 0, 0, 0), replicate 8 9))
    -- a wrong sample, before a wrong turn
    ∷ ((k, (1, 0 ∷ 0 ∷ 2 ∷ 0 ∷ 0 ∷ 0 ∷ 0 ∷ 0 ∷ [], 0 ∷ 2 ∷ [], 8)), ((16, 1), (0, 0, 0, 0), replicate 8 9))
    ∷ ((k, (1, first, 0 ∷ 1 ∷ 2 ∷ 3 ∷ [], 8)), ((17, 2), (0, 0, 0, 0), replicate 8 9))
    ∷ []

calls_hold : map (λ (e : Asked × Told). told e.0) calls ≡ map (λ (e : Asked × Told). e.1) calls
unfolding turn_definitions
calls_hold = refl

-- after both frames the queue is empty and the board holds the value
k_channels : (turned_of (turn_call K 2 2 plan both (replicate 28 0) (replicate 16 9))).channels
    ≡ no_held ∷ record { number = 1; values = 42 ∷ 0 ∷ 0 ∷ 0 ∷ 0 ∷ 0 ∷ 0 ∷ 0 ∷ []; loss = 0 } ∷ replicate 14 no_held
unfolding turn_definitions
k_channels = refl
