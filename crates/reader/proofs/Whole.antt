-- The whole file: after each part, what is left of its definition to read.
use Prim.Native.Nat.{ℕ, ◌≤◌, ◌<◌}
use mathlib.Core.Path.{◌≡◌, refl, sym, ap, fun_ext}
use mathlib.Core.Logic.{◌≢◌}
use mathlib.Core.Bool.{Bool, not}
use mathlib.Core.List.{List}
use native.Mathlib.Omega.{arith}
use lib.ListN.{length, take}
use borrow.Author.Tests.{eq-eqb, ne_eqb, le-leb, lt-leb}
use Rattle.std.specs.Prelude.{Ok, Err}
use Rattle.std.proofs.Common.{subst}
use Rattle.reply.specs.Result.{Result, done, refused, and_then, require}
use Rattle.reply.specs.ResultLaws.{accepted}
use Rattle.reply.specs.Told.{told}
use Rattle.reply.specs.declared.Reply.TheVariants.{WrongVersion, BytesLeft, TooLarge, BadPair}
use Rattle.reply.specs.declared.Refusal.{Refusal}
use Rattle.number.specs.Parts.{Part, part, reading, many}
use Rattle.number.specs.PartLaws.{same_part, many_length}
use Rattle.number.specs.Number.{number_at}
use Rattle.number.specs.Told.{part_told, part_ok, part_err, ok_same}
use Rattle.marks.specs.declared.Row.{Row}
use Rattle.network.specs.Lists.{fill_to}
use Rattle.network.specs.ListLaws.{take_fill}
use Rattle.network.specs.Frame.{no_process, fits_frame}
use Rattle.network.specs.Pairs.{no_pair, good_ends, cyclic}
use Rattle.network.specs.Net.{no_channel, fill}
use Rattle.network.specs.Read.{ranged, one_process, one_pair, channel_with, one_channel, one_program, after_channels, after_channel_count, after_pairs, after_pair_count, after_processes, after_process_count, after_version, load}
use Rattle.network.specs.RowLaws.{ends_rows}
use Rattle.network.specs.Told.{pair_rows, ends_by}
use Rattle.network.specs.declared.Process.{Process}
use Rattle.network.specs.declared.Pair.{Pair}
use Rattle.network.specs.declared.Channel.{Channel}
use Rattle.reader.specs.Told.{processes_at, processes_told, pairs_at, pairs_told, channels_at, channels_told}
use Rattle.reader.specs.ProgramsTold.{ProgramsTold}
use Rattle.reader.proofs.Lists.{ranged_most}
use Rattle.reader.proofs.ProgramLoop.{next_ok, next_err}

-- ---- a part with its count, read by itself

-- the number, so many records, and a judgement of them; then the rest
module _ {A : Type 0} (one : List A → ℕ → Result (Part A)) (judge : List A → ℕ → Result (Unit {0})) where
  abbrev counted : Result (Part ℕ) → Result (Part (List A))
  counted r = reading r λ n here. reading (many n one here) λ l next. and_then (judge l next) λ ok. part l next

  apart : {B : Type 0} (r : Result (Part ℕ)) (then : ℕ → List A → ℕ → Result B)
      → (reading r λ n here. reading (many n one here) λ l next. and_then (judge l next) λ ok. then n l next) ≡ (reading (counted r) λ l next. then (length l) l next)
  apart (refused reply place) then = refl
  apart (done n) then = list (many n.it one n.next) refl
    where
      list : (q : Result (Part (List A))) → many n.it one n.next ≡ q → (reading q λ l next. and_then (judge l next) λ ok. then n.it l next)
          ≡ (reading (reading q λ l next. and_then (judge l next) λ ok. part l next) λ l next. then (length l) l next)
      list (refused reply place) e = refl
      list (done l) e = judged (judge l.it l.next)
        where
          judged : (j : Result (Unit {0})) → (and_then j λ ok. then n.it l.it l.next) ≡ (reading (and_then j λ ok. part l.it l.next) λ l next. then (length l) l next)
          judged (refused reply place) = refl
          judged (done ok) = rw (many_length one n.next n.it l.it l.next e)

  few : (file : List ℕ) (low high at : ℕ) {l : List A} {next : ℕ} → counted (ranged file low high at) ≡ part l next → length l ≤ high
  few file low high at e =
      accepted (ranged file low high at) _ _ e λ n r e₁.
      accepted (many n.it one n.next) _ _ e₁ λ q s e₂.
      accepted (judge q.it q.next) _ _ e₂ λ ok t e₃.
      let size : length q.it ≡ n.it = many_length one n.next n.it q.it q.next s in
      let most : n.it ≤ high = ranged_most file low high at r in
      same_part q _ (λ l m. length l ≤ high) e₃ (omega arith)

told_not : {A B : Type 0} (f : A → B) (r : Result A) {e : Refusal} → Err e ≡ told f r → r ≡ refused e.reply e.place
told_not f (done a) is = cc
told_not f (refused reply place) is = cc

-- ---- the version

-- the version is read, up to `at`
pub record HasVersion (file : List ℕ) (at : ℕ) : Type 0 where
  pub rest : load file ≡ after_version file at

module _ (file : List ℕ) where
  pub version_none : {e : Refusal} → Err e ≡ part_told (number_at file 0) → Err e ≡ told fill (load file)
  unfolding load
  version_none told = rw (part_err (number_at file 0) told)

  pub version_other : {v at : ℕ} → Ok (v, at) ≡ part_told (number_at file 0) → v ≢ 1 → Err (record { reply = WrongVersion; place = 0 }) ≡ told fill (load file)
  unfolding load
  version_other {v} got n = rw (part_ok (number_at file 0) got, ne_eqb v 1 n)

  version_one : {v at : ℕ} → Ok (v, at) ≡ part_told (number_at file 0) → v ≡ 1 → HasVersion file at
  unfolding load
  version_one {v} got e = record { rest = rw (part_ok (number_at file 0) got, eq-eqb v 1 e) }

-- ---- the processes

-- n processes are read, up to `at`
pub record HasProcesses (file : List ℕ) (n : ℕ) (processes : List Process) (at : ℕ) : Type 0 where
  pub list : List Process
  pub rest : load file ≡ after_processes file n list at
  pub size : length list ≡ n
  pub stands : processes ≡ fill_to 12 no_process list
  pub few : n ≤ 12

module _ (file : List ℕ) (at : ℕ) where
  processes_apart : after_version file at ≡ (reading (processes_at file at) λ l next. after_processes file (length l) l next)
  unfolding after_version after_process_count processes_at
  processes_apart = apart (one_process file) (λ l next. require (fits_frame l) TooLarge next) (ranged file 1 12 at) (after_processes file)

  processes_few : {l : List Process} {next : ℕ} → processes_at file at ≡ part l next → length l ≤ 12
  unfolding processes_at
  processes_few e = few (one_process file) (λ l next. require (fits_frame l) TooLarge next) file 1 12 at e

  processes_go : (r : Result (Part (List Process))) → processes_at file at ≡ r → HasVersion file at → {n : ℕ} {processes : List Process} {next : ℕ} → Ok (n, processes, next) ≡ processes_told r
      → HasProcesses file n processes next
  processes_go (refused reply place) e v is = cc
  processes_go (done p) e v is =
      let same = ok_same is in
      let size = ap (λ (q : ℕ × List Process × ℕ). q.0) same in
      let here = ap (λ (q : ℕ × List Process × ℕ). q.2) same in
      record {
        list = p.it;
        rest = rw (v.rest, processes_apart, e, size, here);
        size = sym size;
        stands = ap (λ (q : ℕ × List Process × ℕ). q.1) same;
        few = rw size (processes_few e);
      }

module _ {file : List ℕ} {at : ℕ} (v : HasVersion file at) where
  processes_step : {n : ℕ} {processes : List Process} {next : ℕ} → Ok (n, processes, next) ≡ processes_told (processes_at file at) → HasProcesses file n processes next
  processes_step is = processes_go file at (processes_at file at) refl v is

  pub processes_stop : {e : Refusal} → Err e ≡ processes_told (processes_at file at) → Err e ≡ told fill (load file)
  processes_stop is = rw (v.rest, processes_apart file at, told_not _ (processes_at file at) is)

-- ---- the pairs

-- and k pairs, marked in rows
pub record HasPairs (file : List ℕ) (n : ℕ) (processes : List Process) (k : ℕ) (pairs : List Pair) (rows : List Row) (at : ℕ) : Type 0 where
  pub before : List Process
  pub before_size : length before ≡ n
  pub before_stands : processes ≡ fill_to 12 no_process before
  pub before_few : n ≤ 12
  pub list : List Pair
  pub rest : load file ≡ after_pairs file n before list at
  pub size : length list ≡ k
  pub stands : pairs ≡ fill_to 66 no_pair list
  pub marks : rows ≡ pair_rows list

module _ (file : List ℕ) (n : ℕ) (at : ℕ) where
  pairs_apart : (before : List Process) → after_processes file n before at ≡ (reading (pairs_at file n at) λ l next. after_pairs file n before l next)
  unfolding after_processes after_pair_count pairs_at
  pairs_apart before = apart (one_pair file n) (λ l next. require (not (cyclic n l)) BadPair next) (ranged file 0 66 at) (λ k. after_pairs file n before)

  pairs_go : (r : Result (Part (List Pair))) → pairs_at file n at ≡ r → {processes : List Process} → HasProcesses file n processes at
      → {k : ℕ} {pairs : List Pair} {rows : List Row} {next : ℕ} → Ok (k, pairs, rows, next) ≡ pairs_told r → HasPairs file n processes k pairs rows next
  pairs_go (refused reply place) e p is = cc
  pairs_go (done q) e p is =
      let same = ok_same is in
      let here = ap (λ (q : ℕ × List Pair × List Row × ℕ). q.3) same in
      record {
        before = p.list;
        before_size = p.size;
        before_stands = p.stands;
        before_few = p.few;
        list = q.it;
        rest = rw (p.rest, pairs_apart p.list, e, here);
        size = sym (ap (λ (q : ℕ × List Pair × List Row × ℕ). q.0) same);
        stands = ap (λ (q : ℕ × List Pair × List Row × ℕ). q.1) same;
        marks = ap (λ (q : ℕ × List Pair × List Row × ℕ). q.2) same;
      }

module _ {file : List ℕ} {n : ℕ} {processes : List Process} {at : ℕ} (p : HasProcesses file n processes at) where
  pairs_step : {k : ℕ} {pairs : List Pair} {rows : List Row} {next : ℕ} → Ok (k, pairs, rows, next) ≡ pairs_told (pairs_at file n at) → HasPairs file n processes k pairs rows next
  pairs_step is = pairs_go file n at (pairs_at file n at) refl p is

  pub pairs_stop : {e : Refusal} → Err e ≡ pairs_told (pairs_at file n at) → Err e ≡ told fill (load file)
  pairs_stop is = rw (p.rest, pairs_apart file n at p.list, told_not _ (pairs_at file n at) is)

-- ---- the channels

-- and w channels
pub record HasChannels (file : List ℕ) (n : ℕ) (processes : List Process) (k : ℕ) (pairs : List Pair) (w : ℕ) (channels : List Channel) (at : ℕ) : Type 0 where
  pub rows : List Row
  pub here : ℕ
  pub read : HasPairs file n processes k pairs rows here
  pub list : List Channel
  pub rest : load file ≡ after_channels file n read.before read.list list at
  pub size : length list ≡ w
  pub stands : channels ≡ fill_to 16 no_channel list
  pub few : w ≤ 16

module _ (file : List ℕ) (n : ℕ) (small : n ≤ 12) (at : ℕ) where
  -- judged by rows or by pairs, the ends are the same
  same_ends : (pairs : List Pair) → ends_by n (pair_rows pairs) ≡ good_ends n pairs
  same_ends pairs = fun_ext (λ w. fun_ext (λ r. ends_rows n pairs w r small))

  channels_apart : (before : List Process) (pairs : List Pair)
      → after_pairs file n before pairs at ≡ (reading (channels_at file (ends_by n (pair_rows pairs)) at) λ l next. after_channels file n before pairs l next)
  unfolding after_pairs after_channel_count channels_at one_channel
  channels_apart before pairs =
      rw (same_ends pairs)
      (apart (λ (l : List Channel). channel_with file (good_ends n pairs)) (λ l next. done tt) (ranged file 0 16 at) (λ w. after_channels file n before pairs))

  channels_few : (ends : ℕ → ℕ → Bool) {l : List Channel} {next : ℕ} → channels_at file ends at ≡ part l next → length l ≤ 16
  unfolding channels_at
  channels_few ends e = few (λ (l : List Channel). channel_with file ends) (λ l next. done tt) file 0 16 at e

  channels_go : (rows : List Row) (r : Result (Part (List Channel))) → channels_at file (ends_by n rows) at ≡ r → {processes : List Process} {k : ℕ} {pairs : List Pair}
      → HasPairs file n processes k pairs rows at → {w : ℕ} {channels : List Channel} {next : ℕ} → Ok (w, channels, next) ≡ channels_told r → HasChannels file n processes k pairs w channels next
  channels_go rows (refused reply place) e p is = cc
  channels_go rows (done c) e p is =
      let same = ok_same is in
      let size = ap (λ (q : ℕ × List Channel × ℕ). q.0) same in
      let here = ap (λ (q : ℕ × List Channel × ℕ). q.2) same in
      record {
        rows = rows;
        here = at;
        read = p;
        list = c.it;
        rest = rw (p.rest, channels_apart p.before p.list, ← p.marks, e, here);
        size = sym size;
        stands = ap (λ (q : ℕ × List Channel × ℕ). q.1) same;
        few = rw size (channels_few (ends_by n rows) e);
      }

module _ {file : List ℕ} {n : ℕ} {processes : List Process} {k : ℕ} {pairs : List Pair} {rows : List Row} {at : ℕ} (p : HasPairs file n processes k pairs rows at) where
  channels_step : {w : ℕ} {channels : List Channel} {next : ℕ} → Ok (w, channels, next) ≡ channels_told (channels_at file (ends_by n rows) at)
      → HasChannels file n processes k pairs w channels next
  channels_step is = channels_go file n p.before_few at rows (channels_at file (ends_by n rows) at) refl p is

  pub channels_stop : {e : Refusal} → Err e ≡ channels_told (channels_at file (ends_by n rows) at) → Err e ≡ told fill (load file)
  channels_stop is = rw (p.rest, channels_apart file n p.before_few at p.before p.list, ← p.marks, told_not _ (channels_at file (ends_by n rows) at) is)

-- ---- the programs, and no byte left over

array_is : {A : Type 0} (room : ℕ) (none : A) {count : ℕ} {stored : List A} (list : List A) → length list ≡ count → stored ≡ fill_to room none list → take count stored ≡ list
array_is room none list size stands = rw stands (subst (λ k. take k (fill_to room none list) ≡ list) size (take_fill room none list))

module _ {file : List ℕ} {n : ℕ} {processes : List Process} {k : ℕ} {pairs : List Pair} {w : ℕ} {channels : List Channel} {at : ℕ} (c : HasChannels file n processes k pairs w channels at) where
  known : take w channels ≡ c.list
  known = array_is 16 no_channel c.list c.size c.stands

  pub programs_stop : {counts actions : List ℕ} {e : Refusal} → ProgramsTold file (take w channels) n at counts actions (Err e) → Err e ≡ told fill (load file)
  unfolding after_channels
  programs_stop told = rw (c.rest, ← known, next_err (many n (one_program file (take w channels)) at) told.answer)

  module _ {counts actions : List ℕ} {next : ℕ} (gives : ProgramsTold file (take w channels) n at counts actions (Ok next)) where
    pub bytes_left : next < length file → Err (record { reply = BytesLeft; place = next }) ≡ told fill (load file)
    unfolding after_channels
    bytes_left h = next_ok (many n (one_program file (take w channels)) at) gives.answer λ programs got. rw (c.rest, ← known, got, lt-leb (length file) next h)

    pub whole_file : length file ≤ next → Ok (record {
      process_count = n;
      processes = processes;
      pair_count = k;
      pairs = pairs;
      channel_count = w;
      channels = channels;
      action_counts = counts;
      actions = actions;
    }) ≡ told fill (load file)
    unfolding after_channels fill
    whole_file h = next_ok (many n (one_program file (take w channels)) at) gives.answer λ programs got.
        let r = c.read in
        rw (
          c.rest,
          ← known,
          got,
          le-leb (length file) next h,
          gives.counted programs next got,
          gives.stored programs next got,
          known,
          r.before_size,
          r.size,
          c.size,
          ← r.before_stands,
          ← r.stands,
          ← c.stands,
        )

-- ---- what the code was told, part after part

module _ (file : List ℕ) {v at₀ : ℕ} (version : Ok (v, at₀) ≡ part_told (number_at file 0)) (one : v ≡ 1) where
  pub has_version : HasVersion file at₀
  has_version = version_one file version one

  module _ {n : ℕ} {processes : List Process} {at₁ : ℕ} (ps : Ok (n, processes, at₁) ≡ processes_told (processes_at file at₀)) where
    pub has_processes : HasProcesses file n processes at₁
    has_processes = processes_step has_version ps

    module _ {k : ℕ} {pairs : List Pair} {rows : List Row} {at₂ : ℕ} (qs : Ok (k, pairs, rows, at₂) ≡ pairs_told (pairs_at file n at₁)) where
      pub has_pairs : HasPairs file n processes k pairs rows at₂
      has_pairs = pairs_step has_processes qs

      module _ {w : ℕ} {channels : List Channel} {at₃ : ℕ} (cs : Ok (w, channels, at₃) ≡ channels_told (channels_at file (ends_by n rows) at₂)) where
        pub has_channels : HasChannels file n processes k pairs w channels at₃
        has_channels = channels_step has_pairs cs
