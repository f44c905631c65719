-- What a number of a file is: groups of seven bits, low group first, the high bit set on all groups but the last, at most five groups.
-- It begins at `start`, which is the place of its refusals.
use Rattle.std.specs.Prelude.{ℕ, zero, suc, ◌+◌, ◌*◌, ◌%◌, cond, List, [], ◌∷◌, drop, ltb, leb, eqb}
use Rattle.reply.specs.Result.{Result, refused}
use Rattle.reply.specs.declared.Reply.TheVariants.{FileEnds, MalformedNumber}
use Rattle.number.specs.Parts.{Part, part, reading}

-- groups worth `low` together, and the rest of the number, which counts `weight` times
abbrev pub plus : ℕ → ℕ → Result (Part ℕ) → Result (Part ℕ)
plus low weight rest = reading rest λ high next. part (low + weight * high) next

-- a byte b at `at`: the last group, or a group with the high bit set and the rest after it
abbrev pub group : ℕ → ℕ → Result (Part ℕ) → Result (Part ℕ)
group b at rest = cond (ltb b 128) (part b (at + 1)) (plus (b % 128) 128 rest)

-- "a fifth byte above 15 is malformed"
abbrev pub fifth : ℕ → ℕ → ℕ → Result (Part ℕ)
fifth start b at = cond (leb b 15) (part b (at + 1)) (refused MalformedNumber start)

-- "and so is a zero last group after another group"
abbrev pub nonzero : ℕ → ℕ → Result (Part ℕ) → Result (Part ℕ)
nonzero start b number = cond (eqb b 0) (refused MalformedNumber start) number

-- the bytes from `at` on, after a first group: at most `more` groups of seven bits, and the fifth
unfoldable pub rest_from : ℕ → ℕ → List ℕ → ℕ → Result (Part ℕ)
rest_from start more [] at = refused FileEnds start
rest_from start zero (b ∷ bytes) at = nonzero start b (fifth start b at)
rest_from start (suc more) (b ∷ bytes) at = nonzero start b (group b at (rest_from start more bytes (at + 1)))

-- the bytes from `start` on
unfoldable pub number_from : List ℕ → ℕ → Result (Part ℕ)
number_from [] start = refused FileEnds start
number_from (b ∷ bytes) start = group b start (rest_from start 3 bytes (start + 1))

-- the number at a position of a file
unfoldable pub number_at : List ℕ → ℕ → Result (Part ℕ)
number_at file start = number_from (drop start file) start
