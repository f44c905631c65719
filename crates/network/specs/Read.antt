-- Reading a network file, number by number: "Numbers in the file" and replies 1 to 9.
use Rattle.std.specs.Prelude.{ℕ, ◌+◌, Bool, false, cond, not, ◌&&◌, List, length, get_or, ltb, leb, eqb}
use Rattle.reply.specs.Result.{Result, done, and_then, require, answer_of, or_zero}
use Rattle.reply.specs.declared.Reply.TheVariants.{WrongVersion, OutOfRange, BadPair, BadChannel, BadAction, BytesLeft, TooLarge}
use Rattle.number.specs.Parts.{Part, part, reading, many}
use Rattle.number.specs.Number.{number_at}
use Rattle.network.specs.Frame.{fits_frame}
use Rattle.network.specs.Pairs.{good_pair, good_ends, cyclic}
use Rattle.network.specs.Net.{Net, no_channel, fill, no_network}
use Rattle.network.specs.declared.Process.{Process}
use Rattle.network.specs.declared.Pair.{Pair}
use Rattle.network.specs.declared.Channel.{Channel}
use Rattle.network.specs.declared.Four.{Four}
use Rattle.network.specs.declared.Loaded.{Loaded}

-- a number in a range, or reply 4 there
unfoldable pub ranged : List ℕ → ℕ → ℕ → ℕ → Result (Part ℕ)
ranged file low high at =
    reading (number_at file at) λ n next.
    and_then (require (leb low n && leb n high) OutOfRange at) λ ok.
    part n next

abbrev pub process_part : ℕ → ℕ → ℕ → ℕ → ℕ → Result (Part Process)
process_part period burst deadline budget next = part (record { period = period; burst = burst; deadline = deadline; budget = budget }) next

-- "each process: period 1..1000, burst 1..4, deadline 1..period, budget 1..deadline"
unfoldable pub one_process : List ℕ → List Process → ℕ → Result (Part Process)
one_process file before at =
    reading (ranged file 1 1000 at) λ period at₁.
    reading (ranged file 1 4 at₁) λ burst at₂.
    reading (ranged file 1 period at₂) λ deadline at₃.
    reading (ranged file 1 deadline at₃) λ budget next.
    process_part period burst deadline budget next

-- "each pair: higher process, lower process", of n processes
unfoldable pub one_pair : List ℕ → ℕ → List Pair → ℕ → Result (Part Pair)
one_pair file n before at =
    reading (number_at file at) λ higher at₁.
    reading (number_at file at₁) λ lower next.
    and_then (require (good_pair n before higher lower) BadPair at) λ ok.
    part (record { higher = higher; lower = lower }) next

-- "capacity 1..8 (a board: exactly 1)"
abbrev pub most_capacity : ℕ → ℕ
most_capacity kind = cond (eqb kind 1) 1 8

abbrev pub channel_part : (ℕ → ℕ → Bool) → ℕ → ℕ → ℕ → ℕ → ℕ → ℕ → Result (Part Channel)
channel_part ends at kind writer reader capacity next =
    and_then (require (ends writer reader) BadChannel at) λ ok.
    part (record { kind = kind; writer = writer; reader = reader; capacity = capacity }) next

-- "each: kind (0 queue, 1 board), writer, reader, capacity", with ends that pass a test
unfoldable pub channel_with : List ℕ → (ℕ → ℕ → Bool) → ℕ → Result (Part Channel)
channel_with file ends at =
    reading (ranged file 0 1 at) λ kind at₁.
    reading (number_at file at₁) λ writer at₂.
    reading (number_at file at₂) λ reader at₃.
    reading (ranged file 1 (most_capacity kind) at₃) λ capacity next.
    channel_part ends at kind writer reader capacity next

unfoldable pub one_channel : List ℕ → ℕ → List Pair → List Channel → ℕ → Result (Part Channel)
one_channel file n pairs before at = channel_with file (good_ends n pairs) at

-- the table of actions, column by column: what the operands of action k of n of process p may be
abbrev pub is_var : ℕ → Bool
is_var a = ltb a 8

abbrev pub is_zero : ℕ → Bool
is_zero a = eqb a 0

abbrev pub is_read : List Channel → ℕ → ℕ → Bool
is_read channels p ch = ltb ch (length channels) && eqb (get_or channels ch no_channel).reader p

abbrev pub is_written : List Channel → ℕ → ℕ → Bool
is_written channels p ch = ltb ch (length channels) && eqb (get_or channels ch no_channel).writer p

-- "skip the next n actions, n at least 1, not past the end"
abbrev pub is_skip : ℕ → ℕ → ℕ → Bool
is_skip n k skipped = leb 1 skipped && leb (k + 1 + skipped) n

unfoldable pub good_action : List Channel → ℕ → ℕ → ℕ → Four → Bool
good_action channels p n k f =
    cond (eqb f.head 0) (is_var f.a && is_zero f.c)
    (cond (eqb f.head 1) (is_var f.a && (is_var f.b && is_var f.c))
    (cond (eqb f.head 2) (is_var f.a && (is_var f.b && is_var f.c))
    (cond (eqb f.head 3) (is_read channels p f.a && (is_var f.b && is_var f.c))
    (cond (eqb f.head 4) (is_written channels p f.a && (is_var f.b && is_zero f.c))
    (cond (eqb f.head 5) (is_var f.a && (is_var f.b && is_zero f.c))
    (cond (eqb f.head 6) (is_var f.a && (is_zero f.b && is_zero f.c))
    (cond (eqb f.head 7) (is_var f.a && (is_skip n k f.b && is_zero f.c))
    false)))))))

unfoldable pub one_action : List ℕ → List Channel → ℕ → ℕ → List Four → ℕ → Result (Part Four)
one_action file channels p n before at =
    reading (number_at file at) λ head at₁.
    reading (number_at file at₁) λ a at₂.
    reading (number_at file at₂) λ b at₃.
    reading (number_at file at₃) λ c next.
    and_then (require (good_action channels p n (length before) (record { head = head; a = a; b = b; c = c })) BadAction at) λ ok.
    part (record { head = head; a = a; b = b; c = c }) next

-- "each process: action count 0..24; each action four numbers"
unfoldable pub one_program : List ℕ → List Channel → List (List Four) → ℕ → Result (Part (List Four))
one_program file channels before at =
    reading (ranged file 0 24 at) λ n here.
    many n (one_action file channels (length before) n) here

-- ---- the whole file, in order; each of these goes on after what its name says

unfoldable pub after_channels : List ℕ → ℕ → List Process → List Pair → List Channel → ℕ → Result Net
after_channels file n processes pairs channels at =
    reading (many n (one_program file channels) at) λ programs end.
    and_then (require (leb (length file) end) BytesLeft end) λ ok.
    done (record { processes = processes; pairs = pairs; channels = channels; programs = programs })

unfoldable pub after_channel_count : List ℕ → ℕ → List Process → List Pair → ℕ → ℕ → Result Net
after_channel_count file n processes pairs count at =
    reading (many count (one_channel file n pairs) at) λ channels next.
    after_channels file n processes pairs channels next

unfoldable pub after_pairs : List ℕ → ℕ → List Process → List Pair → ℕ → Result Net
after_pairs file n processes pairs at =
    reading (ranged file 0 16 at) λ count next.
    after_channel_count file n processes pairs count next

unfoldable pub after_pair_count : List ℕ → ℕ → List Process → ℕ → ℕ → Result Net
after_pair_count file n processes count at =
    reading (many count (one_pair file n) at) λ pairs next.
    and_then (require (not (cyclic n pairs)) BadPair next) λ ok.
    after_pairs file n processes pairs next

unfoldable pub after_processes : List ℕ → ℕ → List Process → ℕ → Result Net
after_processes file n processes at =
    reading (ranged file 0 66 at) λ count next.
    after_pair_count file n processes count next

unfoldable pub after_process_count : List ℕ → ℕ → ℕ → Result Net
after_process_count file n at =
    reading (many n (one_process file) at) λ processes next.
    and_then (require (fits_frame processes) TooLarge next) λ ok.
    after_processes file n processes next

unfoldable pub after_version : List ℕ → ℕ → Result Net
after_version file at =
    reading (ranged file 1 12 at) λ n next.
    after_process_count file n next

unfoldable pub load : List ℕ → Result Net
load file =
    reading (number_at file 0) λ version next.
    and_then (require (eqb version 1) WrongVersion 0) λ ok.
    after_version file next

-- what the reader returns
abbrev pub loaded_of : Result Net → Loaded
loaded_of r = record { answer = answer_of r; network = or_zero no_network fill r }

unfoldable pub read_file : List ℕ → Loaded
read_file file = loaded_of (load file)
