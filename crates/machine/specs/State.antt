-- What a run carries from job to job: the variables of the processes, and what the channels hold; and what a read and a write do to a channel.
use Rattle.std.specs.Prelude.{ℕ, ◌+◌, ◌*◌, cond, List, [], ◌∷◌, ◌++◌, length, replicate, ◌==◌, nat_lt, slice_index, slice_index_or, slice_set}

-- what a channel holds, oldest first, and how many writes met it full
pub record Contents : Type 0 where
  pub held : List ℕ
  pub loss : ℕ

-- eight variables for each of twelve processes, one after another; sixteen channels
pub record State : Type 0 where
  pub variables : List ℕ
  pub channels : List Contents

abbrev pub nothing : Contents
nothing = record { held = []; loss = 0 }

abbrev pub start_state : State
start_state = record { variables = replicate 96 0; channels = replicate 16 nothing }

-- variable a of process p
abbrev pub var : ℕ → ℕ → State → ℕ
var p a s = slice_index s.variables (8 * p + a)

abbrev pub set_var : ℕ → ℕ → ℕ → State → State
set_var p a x s = record { variables = slice_set s.variables (8 * p + a) x; channels = s.channels }

abbrev pub contents_of : ℕ → State → Contents
contents_of c s = slice_index_or s.channels c nothing

abbrev pub set_contents : ℕ → Contents → State → State
set_contents c x s = record { variables = s.variables; channels = slice_set s.channels c x }

-- "a read with nothing there gives value 0 and flag 0"
abbrev pub oldest : List ℕ → ℕ
oldest [] = 0
oldest (v ∷ vs) = v

abbrev pub flag : List ℕ → ℕ
flag [] = 0
flag (v ∷ vs) = 1

abbrev pub rest : List ℕ → List ℕ
rest [] = []
rest (v ∷ vs) = vs

-- "a queue read takes the oldest value; a board read takes a copy of the last"; kind 1 is a board
unfoldable pub after_read : ℕ → Contents → Contents
after_read kind c = cond (kind == 1) c (record { held = rest c.held; loss = c.loss })

-- "a write to a full queue is not done and adds one to that channel's loss count"
unfoldable pub after_write : ℕ → ℕ → ℕ → Contents → Contents
after_write kind capacity x c =
    cond (kind == 1) (record { held = x ∷ []; loss = c.loss })
    (cond (nat_lt (length c.held) capacity) (record { held = c.held ++ (x ∷ []); loss = c.loss })
    (record { held = c.held; loss = c.loss + 1 }))
