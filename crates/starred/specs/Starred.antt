-- The starred cases: one table of questions and what is to be reported, and one statement, that the definitions report just that.
use Rattle.std.specs.Prelude.{ℕ, ◌≡◌, refl, List, [], ◌∷◌, map, length, replicate}
use Rattle.reply.specs.Reply.{reply_number}
use Rattle.reply.specs.Result.{Result, done, refused}
use Rattle.number.specs.Parts.{Part}
use Rattle.number.specs.Number.{number_at}
use Rattle.roundtrip.specs.Examples.{K}
use Rattle.plan.specs.Plan.{plan_call, plan_filled, check_call}
use Rattle.plan.specs.Opens.{plan_definitions}
use Rattle.promises.specs.Turns.{Between, turn_call}
use Rattle.turns.specs.Turned.{turn_filled}
use Rattle.turns.specs.Opens.{turn_definitions}
use Rattle.timed.specs.Timed.{timed_call}
use Rattle.timed.specs.Opens.{timed_definitions}
use Rattle.zero_delay.specs.ZeroDelay.{Sofar, zero_delay, filled_by}
use Rattle.zero_delay.specs.Opens.{run_definitions}

pub data Question : Type 0 where
  -- the number at the start of some bytes
  number_of : List ℕ → Question
  -- the zero-delay run of a file, for so many frames, with some input; as many words are lent for the output
  run_of : List ℕ → ℕ → List ℕ → Question
  -- the turn run of a file by a plan on one processor, for so many frames, with some input and so many turns of that processor
  turns_of : List ℕ → List ℕ → ℕ → List ℕ → ℕ → Question
  -- the plan of a file for so many processors, in some lent words
  plan_of : List ℕ → ℕ → List ℕ → Question
  -- what the checker says of a plan of a file for so many processors
  check_of : List ℕ → ℕ → List ℕ → Question
  -- the times of a file on a plan for so many processors, with a duration for each job, in some lent words
  timed_of : List ℕ → ℕ → List ℕ → List ℕ → List ℕ → Question

pub data Reported : Type 0 where
  value : ℕ → Reported
  -- reply and place
  refusal : ℕ → ℕ → Reported
  -- the lent words afterwards
  output : List ℕ → Reported
  accepted : Reported
  -- the frames finished, the turns that worked, and the lent words afterwards
  turned : ℕ → ℕ → List ℕ → Reported

abbrev pub number_reported : Result (Part ℕ) → Reported
number_reported (done p) = value p.it
number_reported (refused reply place) = refusal (reply_number reply) place

abbrev pub run_reported : List ℕ → Result Sofar → Reported
run_reported lent (done s) = output (filled_by (done s) lent)
run_reported lent (refused reply place) = refusal (reply_number reply) place

abbrev pub turns_reported : List ℕ → Result Between → Reported
turns_reported lent (done c) = turned c.frames c.working (turn_filled (done c) lent)
turns_reported lent (refused reply place) = refusal (reply_number reply) place

-- of a plan, or of times
abbrev pub words_reported : List ℕ → Result (List ℕ) → Reported
words_reported lent (done words) = output (plan_filled (done words) lent)
words_reported lent (refused reply place) = refusal (reply_number reply) place

abbrev pub check_reported : Result (Unit {0}) → Reported
check_reported (done ok) = accepted
check_reported (refused reply place) = refusal (reply_number reply) place

-- three tasks of period and deadline 25 and budgets 1, 12 and 6; the first is above the others
abbrev pub three_tasks : List ℕ
three_tasks =
    1 ∷ 3 ∷ 25 ∷ 1 ∷ 25 ∷ 1 ∷ 25 ∷ 1 ∷ 25 ∷ 12 ∷ 25 ∷ 1 ∷ 25 ∷ 6
    ∷ 2 ∷ 0 ∷ 1 ∷ 0 ∷ 2
    ∷ 0
    ∷ 0 ∷ 0 ∷ 0 ∷ []

abbrev pub report : Question → Reported
report (number_of bytes) = number_reported (number_at bytes 0)
report (run_of file frames input) = let lent : List ℕ = replicate (length input) 0 in run_reported lent (zero_delay file frames input lent)
report (turns_of file plan frames input turns) =
    let lent : List ℕ = replicate (length input) 0 in
    turns_reported lent (turn_call file 1 frames plan input (replicate turns 0) lent)
report (plan_of file processors lent) = words_reported lent (plan_call file processors lent)
report (check_of file processors plan) = check_reported (check_call file processors plan)
report (timed_of file processors plan durations lent) = words_reported lent (timed_call file processors plan durations lent)

pub starred : List (Question × Reported)
starred =
    (number_of (0x7F ∷ []), value 127)
    ∷ (number_of (0x80 ∷ 0x01 ∷ []), value 128)
    ∷ (number_of (0x80 ∷ 0x00 ∷ []), refusal 2 0)
    ∷ (number_of (0xFF ∷ 0xFF ∷ 0xFF ∷ 0xFF ∷ 0x0F ∷ []), value 4294967295)
    ∷ (number_of (0x80 ∷ []), refusal 1 0)
    ∷ (run_of K 1 (1 ∷ 42 ∷ 0 ∷ 0 ∷ 0 ∷ 0 ∷ 0 ∷ 0 ∷ []), output (0 ∷ 0 ∷ 0 ∷ 0 ∷ 1 ∷ 42 ∷ 0 ∷ 0 ∷ []))
    ∷ (
      run_of K 2 (1 ∷ 42 ∷ 0 ∷ 0 ∷ 0 ∷ 0 ∷ 0 ∷ 0 ∷ 0 ∷ 0 ∷ 0 ∷ 0 ∷ 0 ∷ 0 ∷ 0 ∷ 0 ∷ []),
      output (0 ∷ 0 ∷ 0 ∷ 0 ∷ 1 ∷ 42 ∷ 0 ∷ 0 ∷ 0 ∷ 0 ∷ 0 ∷ 0 ∷ 1 ∷ 42 ∷ 0 ∷ 0 ∷ []),
    )
    ∷ (
      turns_of K (0 ∷ 0 ∷ 0 ∷ 3 ∷ 0 ∷ 7 ∷ 0 ∷ 13 ∷ []) 1 (1 ∷ 42 ∷ 0 ∷ 0 ∷ 0 ∷ 0 ∷ 0 ∷ 0 ∷ []) 15,
      turned 1 15 (0 ∷ 0 ∷ 0 ∷ 0 ∷ 1 ∷ 42 ∷ 0 ∷ 0 ∷ []),
    )
    ∷ (
      turns_of K (0 ∷ 0 ∷ 0 ∷ 3 ∷ 0 ∷ 7 ∷ 0 ∷ 13 ∷ []) 2 (1 ∷ 42 ∷ 0 ∷ 0 ∷ 0 ∷ 0 ∷ 0 ∷ 0 ∷ 0 ∷ 0 ∷ 0 ∷ 0 ∷ 0 ∷ 0 ∷ 0 ∷ 0 ∷ []) 28,
      turned 2 28 (0 ∷ 0 ∷ 0 ∷ 0 ∷ 1 ∷ 42 ∷ 0 ∷ 0 ∷ 0 ∷ 0 ∷ 0 ∷ 0 ∷ 1 ∷ 42 ∷ 0 ∷ 0 ∷ []),
    )
    ∷ (check_of K 2 (0 ∷ 0 ∷ 0 ∷ 2 ∷ 0 ∷ 7 ∷ 0 ∷ 13 ∷ []), refusal 14 1)
    ∷ (check_of K 2 (0 ∷ 0 ∷ 1 ∷ 2 ∷ 0 ∷ 7 ∷ 0 ∷ 13 ∷ []), refusal 15 1)
    ∷ (check_of K 2 (0 ∷ 0 ∷ 0 ∷ 3 ∷ 0 ∷ 7 ∷ 0 ∷ 17 ∷ []), refusal 13 3)
    ∷ (
      timed_of K 2 (0 ∷ 0 ∷ 0 ∷ 3 ∷ 0 ∷ 7 ∷ 0 ∷ 13 ∷ []) (1 ∷ 4 ∷ 6 ∷ 4 ∷ []) (9 ∷ 9 ∷ 9 ∷ 9 ∷ 9 ∷ 9 ∷ 9 ∷ 9 ∷ []),
      output (0 ∷ 1 ∷ 1 ∷ 5 ∷ 5 ∷ 11 ∷ 11 ∷ 15 ∷ []),
    )
    ∷ (plan_of three_tasks 2 (9 ∷ 9 ∷ 9 ∷ 9 ∷ 9 ∷ 9 ∷ 9 ∷ []), output (0 ∷ 0 ∷ 0 ∷ 1 ∷ 1 ∷ 1 ∷ 9 ∷ []))
    ∷ []

pub starred_hold : map (λ (e : Question × Reported). report e.0) starred ≡ map (λ (e : Question × Reported). e.1) starred
unfolding starred run_definitions plan_definitions turn_definitions timed_definitions
starred_hold = refl
