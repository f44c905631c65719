-- Promise P10 in the words of the rules: "A refused call returns reply and place with all else zero, and writes to no lent memory. A call that is done
-- changes no lent memory beyond what it fills."
use Rattle.std.specs.Prelude.{ℕ, ◌≤◌, ◌<◌, ◌≡◌, ◌↔◌, List, length, get_or}
use Rattle.reply.specs.Reply.{reply_number}
use Rattle.reply.specs.Result.{Result, done, refused}
use Rattle.reply.specs.declared.Answer.{Answer}
use Rattle.graph.specs.Graph.{frame_file}

-- a call is done if its reply is 0, and refused if it is another
abbrev pub IsDone : Answer → Type 0
IsDone answer = reply_number answer.reply ≡ 0

abbrev pub IsRefused : Answer → Type 0
IsRefused answer = 0 < reply_number answer.reply

-- what a call returns: its answer, given its definition, and what it says of the rest of the result that all of it is zero
pub record Returns {A : Type 0} (call : Result A) (answer : Answer) (AllElseZero : Type 0) : Type 0 where
  -- it is done exactly when the definition is
  pub done_exactly : IsDone answer ↔ ((a : A) × (call ≡ done a))
  -- and refused exactly when the definition is, by the same reply at the same place
  pub refused_exactly : IsRefused answer ↔ (call ≡ refused answer.reply answer.place)
  -- reply 0 has place 0
  pub done_place : IsDone answer → answer.place ≡ 0
  -- "returns reply and place with all else zero"
  pub refused_zero : IsRefused answer → AllElseZero

-- of a call that returns reply and place alone
abbrev pub NothingElse : Type 0
NothingElse = Unit {0}

-- memory that is lent to be written, before and after the call; a call that is done fills the first so many of its words or bytes.
-- (Memory that is lent to be read cannot be written at all.)
pub record Leaves (answer : Answer) (filled : ℕ) (before after : List ℕ) : Type 0 where
  -- "writes to no lent memory"
  pub refused_same : IsRefused answer → after ≡ before
  -- what is filled is there
  pub done_there : IsDone answer → filled ≤ length before
  -- "changes no lent memory beyond what it fills"
  pub beyond_same : (k : ℕ) → filled ≤ k → get_or after k 0 ≡ get_or before k 0
  pub length_same : length after ≡ length before

-- J, the number of jobs in a frame of the file, as `graph::frame` and `graph::graph` return it; 0 for a file that is refused
abbrev pub jobs_in : List ℕ → ℕ
jobs_in file = (frame_file file).job_count
