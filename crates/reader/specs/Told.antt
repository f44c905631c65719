-- The parts of a file, each with its count before it, and how the code says them; and whole lists, at the front of an array.
use Rattle.std.specs.Prelude.{ℕ, ◌^◌, ◌<◌, ◌≡◌, Bool, not, List, length}
use Rattle.std.specs.declared.result.Result as Std
use Rattle.reply.specs.Result.{Result, and_then, require}
use Rattle.reply.specs.Told.{told}
use Rattle.reply.specs.declared.Reply.TheVariants.{TooLarge, BadPair}
use Rattle.reply.specs.declared.Refusal.{Refusal}
use Rattle.number.specs.Parts.{Part, part, reading, many}
use Rattle.number.specs.Told.{part_told}
use Rattle.marks.specs.declared.Row.{Row}
use Rattle.network.specs.Lists.{fill_to}
use Rattle.network.specs.Frame.{no_process, fits_frame}
use Rattle.network.specs.Pairs.{no_pair, cyclic}
use Rattle.network.specs.Net.{no_channel}
use Rattle.network.specs.Read.{ranged, one_process, one_pair, channel_with}
use Rattle.network.specs.Told.{pair_rows}
use Rattle.network.specs.declared.Process.{Process}
use Rattle.network.specs.declared.Pair.{Pair}
use Rattle.network.specs.declared.Channel.{Channel}

-- a list that was read, at the front of an array with zeros past it, and the position after it
abbrev pub list_told : {A : Type 0} → ℕ → A → Result (Part (List A)) → Std.Result (List A × ℕ) Refusal
list_told room none = told (λ p. (fill_to room none p.it, p.next))

-- what a step may return at each position is what one record gives there, whatever was read before
pub record Reads {A : Type 0} (gives : ℕ → Std.Result (A × ℕ) Refusal → Type 0) (one : List A → ℕ → Result (Part A)) : Type 0 where
  pub each : (before : List A) (at : ℕ) (r : Std.Result (A × ℕ) Refusal) → at < 2 ^ 64 → gives at r → r ≡ part_told (one before at)

-- ---- processes

-- "each process", so many as the number before them says; their frame fits
unfoldable pub processes_at : List ℕ → ℕ → Result (Part (List Process))
processes_at file at =
    reading (ranged file 1 12 at) λ n here.
    reading (many n (one_process file) here) λ processes next.
    and_then (require (fits_frame processes) TooLarge next) λ ok.
    part processes next

abbrev pub processes_told : Result (Part (List Process)) → Std.Result (ℕ × List Process × ℕ) Refusal
processes_told = told (λ p. (length p.it, fill_to 12 no_process p.it, p.next))

-- ---- pairs

-- "each pair", so many as the number before them says, of n processes; they form no cycle
unfoldable pub pairs_at : List ℕ → ℕ → ℕ → Result (Part (List Pair))
pairs_at file n at =
    reading (ranged file 0 66 at) λ count here.
    reading (many count (one_pair file n) here) λ pairs next.
    and_then (require (not (cyclic n pairs)) BadPair next) λ ok.
    part pairs next

-- with the rows that mark them
abbrev pub marked_told : Result (Part (List Pair)) → Std.Result (List Pair × List Row × ℕ) Refusal
marked_told = told (λ p. (fill_to 66 no_pair p.it, pair_rows p.it, p.next))

abbrev pub pairs_told : Result (Part (List Pair)) → Std.Result (ℕ × List Pair × List Row × ℕ) Refusal
pairs_told = told (λ p. (length p.it, fill_to 66 no_pair p.it, pair_rows p.it, p.next))

-- ---- channels

-- each channel, so many as the number before them says, with ends that pass a test
unfoldable pub channels_at : List ℕ → (ℕ → ℕ → Bool) → ℕ → Result (Part (List Channel))
channels_at file ends at =
    reading (ranged file 0 16 at) λ count here.
    reading (many count (λ before. channel_with file ends) here) λ channels next.
    part channels next

abbrev pub channels_told : Result (Part (List Channel)) → Std.Result (ℕ × List Channel × ℕ) Refusal
channels_told = told (λ p. (length p.it, fill_to 16 no_channel p.it, p.next))
