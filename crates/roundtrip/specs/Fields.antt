-- The struct of a network and back; the bytes that the writer gives for it.
use Rattle.std.specs.Prelude.{ℕ, suc, ◌<◌, ◌≡◌, refl, get_or, drop}
use Rattle.std.proofs.Math.Path.{sym}
use Rattle.std.proofs.Common.{ap, ◌∙◌, arith}
use mathlib.Core.List.{List, [], ◌∷◌, ◌++◌, append_assoc}
use Rattle.std.proofs.Math.ListN.{length, get_or-map}
use Rattle.std.proofs.Math.Seq.{ext_get_or}
use Rattle.number.specs.Encode.{encode}
use Rattle.network.specs.Lists.{each_of, fill_to}
use Rattle.network.specs.ListLaws.{each_append, take_fill, fill_at}
use Rattle.network.specs.Frame.{no_process}
use Rattle.network.specs.Pairs.{no_pair}
use Rattle.network.specs.Net.{Net, no_channel, no_four, process_fields, pair_fields, channel_fields, four_fields, program_room, lengths, fill, program_at, within}
use Rattle.network.specs.Write.{program_fields, fields, encode_network}
use Rattle.network.specs.Valid.{Valid}
use Rattle.network.specs.declared.Four.{Four}
use Rattle.roundtrip.specs.Kinds.{numbers_bytes, program_bytes}
use Rattle.roundtrip.specs.Whole.{bytes_with, net_bytes}
use Rattle.roundtrip.specs.Flat.{flat_four}
use Rattle.roundtrip.specs.Within.{program_length_lem, program_four, within_length, within_program}

-- ---- counts

-- the counts are the lengths of the programs
abbrev pub Counts : List ℕ → List (List Four) → Type 0
Counts counts ps = (p : ℕ) → p < length ps → get_or counts p 0 ≡ length (get_or ps p [])

pub lengths_are : (ps : List (List Four)) → Counts (lengths ps) ps
lengths_are ps p h = get_or-map (λ (p : List Four). length p) ps p []

pub filled_are : (ps : List (List Four)) → Counts (fill_to 12 0 (lengths ps)) ps
filled_are ps p h = fill_at 12 0 (lengths ps) p ∙ lengths_are ps p h

pub drop_one : (l : List ℕ) (i : ℕ) → get_or (drop 1 l) i 0 ≡ get_or l (suc i) 0
drop_one [] i = refl
drop_one (x ∷ l) i = refl

pub counts_rest : (counts : List ℕ) (p : List Four) (ps : List (List Four)) → Counts counts (p ∷ ps) → Counts (drop 1 counts) ps
counts_rest counts p ps c i h = drop_one counts i ∙ c (suc i) (omega arith)

-- ---- the struct and back

module _ (net : Net) (v : Valid net) where
  abbrev actions : List ℕ
  actions = fill_to 1152 0 (each_of program_room net.programs)

  abbrev counts : List ℕ
  counts = fill_to 12 0 (lengths net.programs)

  program_back : (p : ℕ) → p < length net.programs → program_at actions (get_or counts p 0) p ≡ get_or net.programs p []
  program_back p h =
      let q = get_or net.programs p [] in
      let size : length (program_at actions (length q) p) ≡ length q = program_length_lem actions (length q) p (v.action_count p h) in
      rw (filled_are net.programs p h) (ext_get_or no_four (program_at actions (length q) p) q size (λ k l.
      program_four actions (length q) p k l ∙ flat_four net.programs v.action_count p h k (omega arith)))

  programs_back : (within (fill net)).programs ≡ net.programs
  unfolding fill
  programs_back =
      let size : length (within (fill net)).programs ≡ length net.processes = within_length (fill net) v.process_count.1 in
      ext_get_or [] (within (fill net)).programs net.programs (size ∙ sym v.programs) (λ p l.
      within_program (fill net) p l ∙ program_back p (omega (arith, v.programs)))

  pub fill_within : within (fill net) ≡ net
  unfolding within fill
  fill_within i = record {
    processes = take_fill 12 no_process net.processes i;
    pairs = take_fill 66 no_pair net.pairs i;
    channels = take_fill 16 no_channel net.channels i;
    programs = programs_back i;
  }

-- ---- the bytes

each_each : {A : Type 0} (f : ℕ → List ℕ) (g : A → List ℕ) (l : List A) → each_of f (each_of g l) ≡ each_of (λ x. each_of f (g x)) l
unfolding each_of
each_each f g [] = refl
each_each f g (x ∷ l) = each_append f (g x) (each_of g l) ∙ ap (λ (r : List ℕ). each_of f (g x) ++ r) (each_each f g l)

-- records, and more numbers after them
then_bytes : {A : Type 0} (g : A → List ℕ) (l : List A) (rest r : List ℕ) → numbers_bytes rest ≡ r
    → numbers_bytes (each_of g l ++ rest) ≡ each_of (λ (x : A). numbers_bytes (g x)) l ++ r
then_bytes g l rest r e = each_append encode (each_of g l) rest ∙ rw (each_each encode g l, e)

pub program_bytes_lem : (counts : List ℕ) (ps : List (List Four)) → Counts counts ps → numbers_bytes (program_fields counts ps) ≡ each_of program_bytes ps
unfolding program_fields each_of
program_bytes_lem counts [] c = refl
program_bytes_lem counts (p ∷ ps) c =
    rw (c 0 (omega arith), append_assoc)
    (ap (λ (r : List ℕ). encode (length p) ++ r) (then_bytes four_fields p _ _ (program_bytes_lem (drop 1 counts) ps (counts_rest counts p ps c))))

-- the numbers of a network with its counts apart, as the writer puts them
abbrev pub numbers_with : ℕ → ℕ → ℕ → Net → List ℕ → List ℕ
numbers_with n k w net gs =
    1 ∷ n ∷ (each_of process_fields net.processes ++ (k ∷ (each_of pair_fields net.pairs ++ (w ∷ (each_of channel_fields net.channels ++ gs)))))

pub bytes_of : (n k w : ℕ) (net : Net) (gs : List ℕ) → numbers_bytes gs ≡ each_of program_bytes net.programs
    → numbers_bytes (numbers_with n k w net gs) ≡ bytes_with n k w net
unfolding bytes_with each_of
bytes_of n k w net gs e =
    ap (λ (r : List ℕ). encode 1 ++ (encode n ++ r)) (then_bytes process_fields net.processes _ _
    (ap (λ (r : List ℕ). encode k ++ r) (then_bytes pair_fields net.pairs _ _
    (ap (λ (r : List ℕ). encode w ++ r) (then_bytes channel_fields net.channels gs _ e)))))

pub fill_encodes : (net : Net) → Valid net → encode_network (fill net) ≡ net_bytes net
unfolding encode_network fields fill
fill_encodes net v = rw (fill_within net v) (bytes_of _ _ _ net _ (program_bytes_lem (counts net v) net.programs (filled_are net.programs)))
