-- A part of the file with its count: the number before it, and then the list.
use Prim.Native.Nat.{ℕ, ◌≤◌}
use mathlib.Core.Path.{◌≡◌, sym, ap, ◌∙◌}
use mathlib.Core.Bool.{Bool, true, false}
use mathlib.Core.List.{List}
use lib.ListN.{get_or, take}
use Rattle.std.specs.Prelude.{Ok, Err}
use Rattle.reply.specs.Tools.{any}
use Rattle.reply.specs.Result.{Result, done, refused}
use Rattle.reply.specs.declared.Reply.TheVariants.{TooLarge, BadPair}
use Rattle.reply.specs.declared.Refusal.{Refusal}
use Rattle.number.specs.Parts.{Part, part, many}
use Rattle.number.specs.Told.{part_told, part_ok, ok_same}
use Rattle.marks.specs.Row.{marked, no_marks}
use Rattle.marks.specs.declared.Row.{Row}
use Rattle.network.specs.Chains.{holds, chains}
use Rattle.network.specs.Frame.{no_process, fits_frame}
use Rattle.network.specs.Pairs.{no_pair, cyclic}
use Rattle.network.specs.Net.{no_channel}
use Rattle.network.specs.Read.{ranged, one_process, one_pair, channel_with}
use Rattle.network.specs.RowLaws.{cycle_rows}
use Rattle.network.specs.Told.{pair_rows}
use Rattle.network.specs.declared.Process.{Process}
use Rattle.network.specs.declared.Pair.{Pair}
use Rattle.network.specs.declared.Channel.{Channel}
use Rattle.network.specs.Lists.{fill_to}
use Rattle.reader.specs.Told.{list_told, marked_told, processes_at, processes_told, pairs_at, pairs_told, channels_at, channels_told}
use Rattle.reader.proofs.Lists.{Listed, listed, list_err, size, taken}

-- ---- processes

module _ (file : List ℕ) (at : ℕ) {count here : ℕ} (n : Ok (count, here) ≡ part_told (ranged file 1 12 at)) {processes : List Process} {next : ℕ}
    (l : Ok (processes, next) ≡ list_told 12 no_process (many count (one_process file) here)) {t : Bool} (told : t ≡ fits_frame (take count processes)) where
  abbrev all : Listed 12 no_process (one_process file) count here processes next
  all = listed (one_process file) count here l

  fits : t ≡ fits_frame all.list
  fits = told ∙ ap fits_frame (taken (one_process file) count here all)

  pub frame_fits : t ≡ true → Ok (count, processes, next) ≡ processes_told (processes_at file at)
  unfolding processes_at
  frame_fits e = rw (part_ok (ranged file 1 12 at) n, all.is, sym fits ∙ e, size (one_process file) count here all, ← all.stands)

  pub frame_large : t ≡ false → Err (record { reply = TooLarge; place = next }) ≡ processes_told (processes_at file at)
  unfolding processes_at
  frame_large e = rw (part_ok (ranged file 1 12 at) n, all.is, sym fits ∙ e)

-- ---- pairs

marked_is : (r : Result (Part (List Pair))) {pairs : List Pair} {rows : List Row} {next : ℕ} → Ok (pairs, rows, next) ≡ marked_told r
    → (list : List Pair) × (r ≡ part list next) × (pairs ≡ fill_to 66 no_pair list) × (rows ≡ pair_rows list)
marked_is (done p) e =
    let same = ok_same e in
    let n = ap (λ (q : List Pair × List Row × ℕ). q.2) same in
    (p.it, rw n, ap (λ (q : List Pair × List Row × ℕ). q.0) same, ap (λ (q : List Pair × List Row × ℕ). q.1) same)
marked_is (refused reply place) e = cc

module _ (file : List ℕ) (k : ℕ) (small : k ≤ 12) (at : ℕ) {count here : ℕ} (n : Ok (count, here) ≡ part_told (ranged file 0 66 at)) {pairs : List Pair} {rows : List Row} {next : ℕ}
    (l : Ok (pairs, rows, next) ≡ marked_told (many count (one_pair file k) here))
    {t : Bool} (told : t ≡ any k (λ a. holds (chains k (λ a b. marked (get_or rows a no_marks) b)) a a)) where
  abbrev list : List Pair
  list = (marked_is (many count (one_pair file k) here) l).0

  abbrev all_pairs : Listed 66 no_pair (one_pair file k) count here pairs next
  all_pairs = let (list, is, stands, marks) = marked_is (many count (one_pair file k) here) l in record { list = list; is = is; stands = stands }

  marks : rows ≡ pair_rows all_pairs.list
  marks = let (list, is, stands, marks) = marked_is (many count (one_pair file k) here) l in marks

  turns : t ≡ cyclic k all_pairs.list
  turns = told ∙ ap (λ (q : List Row). any k (λ a. holds (chains k (λ a b. marked (get_or q a no_marks) b)) a a)) marks ∙ cycle_rows k all_pairs.list small

  pub pairs_turn : t ≡ true → Err (record { reply = BadPair; place = next }) ≡ pairs_told (pairs_at file k at)
  unfolding pairs_at
  pairs_turn e = rw (part_ok (ranged file 0 66 at) n, all_pairs.is, sym turns ∙ e)

  pub pairs_lead : t ≡ false → Ok (count, pairs, rows, next) ≡ pairs_told (pairs_at file k at)
  unfolding pairs_at
  pairs_lead e = rw (part_ok (ranged file 0 66 at) n, all_pairs.is, sym turns ∙ e, size (one_pair file k) count here all_pairs, ← all_pairs.stands, ← marks)

-- ---- channels

pub channels_listed : (file : List ℕ) (ends : ℕ → ℕ → Bool) (at : ℕ) {count here : ℕ} → Ok (count, here) ≡ part_told (ranged file 0 16 at) → {channels : List Channel} {next : ℕ}
    → Ok (channels, next) ≡ list_told 16 no_channel (many count (λ before. channel_with file ends) here) → Ok (count, channels, next) ≡ channels_told (channels_at file ends at)
unfolding channels_at
channels_listed file ends at {count} {here} n l =
    let one = λ (before : List Channel). channel_with file ends in
    let all = listed one count here l in
    rw (part_ok (ranged file 0 16 at) n, all.is, size one count here all, ← all.stands)

pub channels_cut : (file : List ℕ) (ends : ℕ → ℕ → Bool) (at : ℕ) {count here : ℕ} → Ok (count, here) ≡ part_told (ranged file 0 16 at) → {e : Refusal}
    → Err e ≡ list_told 16 no_channel (many count (λ before. channel_with file ends) here) → Err e ≡ channels_told (channels_at file ends at)
unfolding channels_at
channels_cut file ends at {count} {here} n l = rw (part_ok (ranged file 0 16 at) n, list_err 16 no_channel (many count (λ before. channel_with file ends) here) l)
