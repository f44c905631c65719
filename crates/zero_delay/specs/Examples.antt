-- The zero-delay run of network K, as the definitions compute it.
use Rattle.std.specs.Prelude.{ℕ, ◌≡◌, refl, List, [], ◌∷◌, ◌++◌, map, replicate}
use Rattle.reply.specs.Reply.{reply_number}
use Rattle.reply.specs.declared.Answer.{Answer}
use Rattle.machine.specs.HeldOf.{no_held}
use Rattle.roundtrip.specs.Examples.{K}
use Rattle.zero_delay.specs.ZeroDelay.{zero_delay, ran_of, filled_by}
use Rattle.zero_delay.specs.Opens.{run_definitions}

-- the output words after a call
abbrev outputs : ℕ → List ℕ → List ℕ → List ℕ
outputs frames input output = filled_by (zero_delay K frames input output) output

-- a frame in which job 0 has the sample 42 and the others have none
abbrev first : List ℕ
first = 1 ∷ 42 ∷ 0 ∷ 0 ∷ 0 ∷ 0 ∷ 0 ∷ 0 ∷ []

-- job 2 outputs it
k_frame : outputs 1 first (replicate 8 9) ≡ 0 ∷ 0 ∷ 0 ∷ 0 ∷ 1 ∷ 42 ∷ 0 ∷ 0 ∷ []
unfolding run_definitions
k_frame = refl

-- and once more in a frame that has no samples, from the board; words past the output stay
abbrev both : List ℕ
both = first ++ replicate 8 0

k_frames : outputs 2 both (replicate 17 9) ≡ 0 ∷ 0 ∷ 0 ∷ 0 ∷ 1 ∷ 42 ∷ 0 ∷ 0 ∷ 0 ∷ 0 ∷ 0 ∷ 0 ∷ 1 ∷ 42 ∷ 0 ∷ 0 ∷ 9 ∷ []
unfolding run_definitions
k_frames = refl

-- afterwards the queue is empty and the board holds the value
k_channels : (ran_of (zero_delay K 2 both (replicate 16 9))).channels
    ≡ no_held ∷ record { number = 1; values = 42 ∷ 0 ∷ 0 ∷ 0 ∷ 0 ∷ 0 ∷ 0 ∷ 0 ∷ []; loss = 0 } ∷ replicate 14 no_held
unfolding run_definitions
k_channels = refl

-- reply and place, by number
abbrev told : Answer → ℕ × ℕ
told a = (reply_number a.reply, a.place)

-- frames, input, output; the reply and the place
abbrev calls : List ((ℕ × List ℕ × List ℕ) × (ℕ × ℕ))
calls =
    ((1, first, replicate 8 9), (0, 0))
    -- frames are 1 to 100
    ∷ ((0, first, replicate 8 9), (4, 0))
    ∷ ((101, first, replicate 8 9), (4, 0))
    -- a word too short
    ∷ ((1, replicate 7 0, replicate 8 9), (10, 0))
    ∷ ((1, first, replicate 7 9), (10, 0))
    -- samples: a value that is not present; present above 1
    ∷ ((2, replicate 15 0 ++ (5 ∷ []), replicate 16 9), (16, 7))
    ∷ ((1, 0 ∷ 0 ∷ 2 ∷ 0 ∷ 0 ∷ 0 ∷ 0 ∷ 0 ∷ [], replicate 8 9), (16, 1))
    ∷ []

calls_hold : map (λ (e : (ℕ × List ℕ × List ℕ) × (ℕ × ℕ)). told (ran_of (zero_delay K e.0.0 e.0.1 e.0.2)).answer) calls
    ≡ map (λ (e : (ℕ × List ℕ × List ℕ) × (ℕ × ℕ)). e.1) calls
unfolding run_definitions
calls_hold = refl

-- a refused call leaves the output as it was
k_refused : outputs 1 (replicate 7 0) (replicate 8 9) ≡ replicate 8 9
unfolding run_definitions
k_refused = refl
