-- The code's answers on programs, from the results of the definitions; and what the lent memory then holds.
use Rattle.std.specs.Prelude.{ℕ, ◌*◌, ◌≤◌, ◌≡◌, List, length, replicate}
use Rattle.std.proofs.lemmas.List.Edits.{sets}
use Rattle.std.specs.declared.result.Result as Std
use Rattle.reply.specs.Result.{Result}
use Rattle.reply.specs.Told.{told}
use Rattle.reply.specs.declared.Refusal.{Refusal}
use Rattle.number.specs.Parts.{Part, part, reading, many}
use Rattle.number.specs.Number.{number_at}
use Rattle.number.specs.Told.{part_told}
use Rattle.network.specs.Lists.{each_of, fill_to}
use Rattle.network.specs.Net.{four_fields, program_room, lengths}
use Rattle.network.specs.Read.{ranged, one_action, one_program}
use Rattle.network.specs.declared.Channel.{Channel}
use Rattle.network.specs.declared.Four.{Four}

-- ---- one action

-- the four numbers of an action, whatever they are
unfoldable pub four_numbers : List ℕ → ℕ → Result (Part Four)
four_numbers file at =
    reading (number_at file at) λ head at₁.
    reading (number_at file at₁) λ a at₂.
    reading (number_at file at₂) λ b at₃.
    reading (number_at file at₃) λ c next.
    part (record { head = head; a = a; b = b; c = c }) next

-- ---- programs

-- where reading goes on
abbrev pub next_told : {A : Type 0} → Result (Part A) → Std.Result ℕ Refusal
next_told = told (λ p. p.next)

-- the program of process p: its count of actions, then the actions
unfoldable pub program_of : List ℕ → List Channel → ℕ → ℕ → Result (Part (List Four))
program_of file channels p at =
    reading (ranged file 0 24 at) λ n here.
    many n (one_action file channels p n) here

-- how many actions a program has, and the position after it
unfoldable pub program_length : Result (Part (List Four)) → Result (Part ℕ)
program_length r = reading r λ program next. part (length program) next

-- the n actions of process p are read, and stand from 96 * p on
pub record ActionsTold (file : List ℕ) (channels : List Channel) (p n from : ℕ) (before after : List ℕ) (r : Std.Result ℕ Refusal) : Type 0 where
  pub answer : r ≡ next_told (many n (one_action file channels p n) from)
  pub stored : (program : List Four) (next : ℕ) → many n (one_action file channels p n) from ≡ part program next
      → after ≡ sets before (96 * p) (each_of four_fields program)

-- the program of process p is read, and stands from 96 * p on
pub record ProgramTold (file : List ℕ) (channels : List Channel) (p from : ℕ) (before after : List ℕ) (r : Std.Result (ℕ × ℕ) Refusal) : Type 0 where
  pub answer : r ≡ part_told (program_length (program_of file channels p from))
  pub stored : (program : List Four) (next : ℕ) → program_of file channels p from ≡ part program next
      → after ≡ sets before (96 * p) (each_of four_fields program)

-- what the reader of all programs requires: so many processes at most, and zeros in the lent memory
pub record Ready (count : ℕ) (counts actions : List ℕ) : Type 0 where
  pub processes : count ≤ 12
  pub counts_zero : counts ≡ replicate 12 0
  pub actions_zero : actions ≡ replicate 1152 0

-- the programs of all processes are read, and stand as in the struct of a network; after a refusal the memory may hold anything
pub record ProgramsTold (file : List ℕ) (channels : List Channel) (count from : ℕ) (counts actions : List ℕ) (r : Std.Result ℕ Refusal) : Type 0 where
  pub answer : r ≡ next_told (many count (one_program file channels) from)
  pub counted : (programs : List (List Four)) (next : ℕ) → many count (one_program file channels) from ≡ part programs next
      → counts ≡ fill_to 12 0 (lengths programs)
  pub stored : (programs : List (List Four)) (next : ℕ) → many count (one_program file channels) from ≡ part programs next
      → actions ≡ fill_to 1152 0 (each_of program_room programs)
