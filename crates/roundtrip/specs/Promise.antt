-- Reading and writing are one rule. What is written is read back; what is read is what would have been written; and accepted files are exactly
-- the encodings of valid networks. A file's bytes are below 256; a struct's numbers are below 2 ^ 32, and its arrays as long as they are declared.
use Rattle.std.specs.Prelude.{ℕ, ◌≤◌, ◌<◌, ◌≡◌, refl, ◌↔◌, List, [], length, get_or}
use Rattle.std.proofs.Common.{sym, ap, subst, ◌∙◌}
use Rattle.std.proofs.lemmas.List.Edits.{sets}
use borrow.Author.Tests.{le-leb}
use Rattle.reply.specs.Result.{done}
use Rattle.reply.specs.ResultLaws.{Honest}
use Rattle.reply.specs.declared.Reply.TheVariants.{Done}
use Rattle.number.specs.Stands.{Bytes}
use Rattle.network.specs.Net.{Net, no_four, fill, within}
use Rattle.network.specs.Read.{load, read_file}
use Rattle.network.specs.Write.{encode_network, given, writing, told_of, filled_by, wrote, wrote_to}
use Rattle.network.specs.Valid.{Valid}
use Rattle.network.specs.declared.Network.{Network}
use Rattle.roundtrip.specs.Actions.{Small, good_small}
use Rattle.roundtrip.specs.Whole.{net_bytes}
use Rattle.roundtrip.specs.Accept.{accepted_valid, accepted_bytes, valid_accepted}
use Rattle.roundtrip.specs.Fields.{fill_within, fill_encodes}
use Rattle.roundtrip.specs.Sizes.{bytes_most}
use Rattle.roundtrip.specs.Structs.{Arrays, Words}
use Rattle.roundtrip.specs.Back.{valid_bytes}
use Rattle.roundtrip.specs.Kept.{Kept, fill_arrays}
use Rattle.network.specs.Honest.{honest_load, read_done}
use Rattle.roundtrip.specs.Given.{writer_gives, written_to, writer_done}

-- ---- a valid network and its struct

-- the struct holds the network
pub within_fill : (net : Net) → Valid net → within (fill net) ≡ net
within_fill net v = fill_within net v

-- the bytes of the struct are those of the network
pub encode_fill : (net : Net) → Valid net → encode_network (fill net) ≡ net_bytes net
encode_fill net v = fill_encodes net v

-- two valid networks with one struct are one
pub struct_tells : (net other : Net) → Valid net → Valid other → fill net ≡ fill other → net ≡ other
struct_tells net other v w e = sym (within_fill net v) ∙ ap within e ∙ within_fill other w

-- what is written of a valid network is read back
pub read_after_write : (net : Net) → Valid net → load (encode_network (fill net)) ≡ done net
read_after_write net v = valid_accepted (encode_network (fill net)) net v (encode_fill net v)

-- its bytes are bytes
pub written_bytes : (net : Net) → Valid net → Bytes (encode_network (fill net))
written_bytes net v = subst Bytes (sym (encode_fill net v)) (valid_bytes net v)

-- and 2,600 of them at most
pub written_most : (net : Net) → Valid net → length (encode_network (fill net)) ≤ 2600
written_most net v = subst (λ (l : List ℕ). length l ≤ 2600) (sym (encode_fill net v)) (bytes_most net v)

-- ---- a file and the network that it is accepted as

-- an accepted network is valid, whatever the bytes
pub read_valid : (file : List ℕ) (net : Net) → load file ≡ done net → Valid net
read_valid file net e = accepted_valid file net e

module _ (file : List ℕ) (bytes : Bytes file) (net : Net) where
  -- writing what the reader accepted gives back the bytes
  pub write_after_read : load file ≡ done net → encode_network (fill net) ≡ file
  write_after_read e = encode_fill net (read_valid file net e) ∙ sym (accepted_bytes file net bytes e)

  -- accepted files are exactly the encodings of valid networks
  pub accepted_exactly : (load file ≡ done net) ↔ (Valid net × (file ≡ encode_network (fill net)))
  accepted_exactly = (
    (λ e. (read_valid file net e, sym (write_after_read e))),
    (λ h. rw h.1 (read_after_write net h.0)),
  )

  -- no accepted file is longer than 2,600 bytes
  pub file_most : load file ≡ done net → length file ≤ 2600
  file_most e = subst (λ (l : List ℕ). length l ≤ 2600) (write_after_read e) (written_most net (read_valid file net e))

  -- the writer gives the bytes of the file, where there is room for them
  pub rewritten : (room : ℕ) → load file ≡ done net → length file ≤ room → writing (fill net) room ≡ done file
  unfolding writing given
  rewritten room e h = rw (write_after_read e, e, le-leb (length file) room h)

-- ---- the calls

-- no refusal of a file says "done"
pub load_honest : (file : List ℕ) → Honest (load file)
load_honest file = honest_load file

-- reply 0: there is a network, and the struct is it
pub done_read : (file : List ℕ) → (read_file file).answer.reply ≡ Done → (net : Net) × (load file ≡ done net) × ((read_file file).network ≡ fill net)
done_read file e = read_done file e

-- a file that was read is written back: all of its bytes, from the start of the lent ones
pub read_then_written : (file : List ℕ) → Bytes file → (read_file file).answer.reply ≡ Done → (out : List ℕ) → length file ≤ length out
    → (wrote (read_file file).network out ≡ record { answer = record { reply = Done; place = 0 }; length = length file })
    × (wrote_to (read_file file).network out ≡ sets out 0 file)
unfolding wrote wrote_to told_of filled_by
read_then_written file bytes e out room =
    let (net, l, f) = done_read file e in
    let w : writing (read_file file).network (length out) ≡ done file = rw f (rewritten file bytes net (length out) l room) in
    (rw w, rw w)

-- ---- any struct

module _ (s : Network) (arrays : Arrays s) (words : Words s) where
  -- what the writer gives is read as what stands within the counts, with zero past them
  pub reads_back : (room : ℕ) (file : List ℕ) → writing s room ≡ done file → (load file ≡ done (within s)) × Kept s (fill (within s))
  reads_back room file e = let w = writer_gives s arrays words room file e in (w.read, w.kept)

  -- the writer does not look past the counts: with zero there the bytes are the same
  pub past_counts : (room : ℕ) (file : List ℕ) → writing s room ≡ done file → encode_network (fill (within s)) ≡ file
  past_counts room file e = let w = writer_gives s arrays words room file e in write_after_read file w.bytes (within s) w.read

  -- the same of the calls: the bytes that were written are read as the struct within its counts, with zero past them
  pub given_back : (out : List ℕ) → (wrote s out).answer.reply ≡ Done
      → ((read_file (written_to s out)).answer.reply ≡ Done) × Kept s (read_file (written_to s out)).network
  unfolding read_file
  given_back out e =
      writer_done s out e λ file w same.
      let (got, keeps) = reads_back (length out) file w in
      rw (same (writer_gives s arrays words (length out) file w).fits_room, got) (refl, keeps)

-- ---- what the crates above know of an accepted network

pub record Known (net : Net) : Type 0 where
  pub valid : Valid net
  -- its struct holds it, in arrays of the declared lengths
  pub struct : within (fill net) ≡ net
  pub arrays : Arrays (fill net)
  -- all four numbers of an action have 32 bits
  pub small : (p k : ℕ) → p < length net.programs → k < length (get_or net.programs p []) → Small (get_or (get_or net.programs p []) k no_four)

pub known : (file : List ℕ) (net : Net) → load file ≡ done net → Known net
known file net e =
    let v = read_valid file net e in
    record {
      valid = v;
      struct = within_fill net v;
      arrays = fill_arrays net v;
      small = λ p k h l. good_small net.channels p (length (get_or net.programs p [])) k _ v.channel_count (v.actions p k h l);
    }
