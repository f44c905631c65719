-- What the writer gives for any struct, and what the reader makes of it.
use Rattle.std.specs.Prelude.{ℕ, ◌≤◌, ◌≡◌, List, length, take, leb}
use Rattle.std.proofs.Common.{sym, ap, ◌∙◌, arith, leb-true}
use Rattle.std.proofs.Math.Path.{subst}
use Rattle.std.proofs.lemmas.List.Edits.{sets, sets-eq}
use Rattle.std.proofs.Math.Seq.{take-append_seam}
use Rattle.reply.specs.Result.{done}
use Rattle.reply.specs.ResultLaws.{accepted, required, done_same, Honest, honest_done, honest_then, honest_require, done_means}
use Rattle.reply.specs.declared.Reply.TheVariants.{Done, ShortBuffer}
use Rattle.number.specs.Stands.{Bytes}
use Rattle.network.specs.Net.{Net, fill, within}
use Rattle.network.specs.Read.{load}
use Rattle.network.specs.Write.{fields, encode_network, given, writing, told_of, filled_by, wrote, wrote_to}
use Rattle.network.specs.declared.Network.{Network}
use Rattle.roundtrip.specs.Accept.{accepted_valid, accepted_bytes}
use Rattle.roundtrip.specs.Under.{numbers_bytes_lem}
use Rattle.roundtrip.specs.Structs.{Arrays, Words}
use Rattle.roundtrip.specs.Words.{words_fields}
use Rattle.roundtrip.specs.Back.{Tells, bytes_tell}
use Rattle.roundtrip.specs.Kept.{Kept, kept}
use Rattle.network.specs.Honest.{honest_load}

-- ---- the bytes that the writer gives

-- where there are `room` of them, for a struct s
pub record Gives (s : Network) (room : ℕ) (file : List ℕ) : Type 0 where
  pub fits_room : length file ≤ room
  pub bytes : Bytes file
  -- they are read as what stands within the counts, with zero past them
  pub read : load file ≡ done (within s)
  pub kept : Kept s (fill (within s))

module _ (s : Network) (arrays : Arrays s) (words : Words s) where
  struct_bytes : Bytes (encode_network s)
  unfolding encode_network
  struct_bytes = numbers_bytes_lem (fields s) (words_fields s words)

  gives : (room : ℕ) (net : Net) → load (encode_network s) ≡ done net → length (encode_network s) ≤ room → Gives s room (encode_network s)
  gives room net e h =
      let v = accepted_valid (encode_network s) net e in
      let t : Tells s net = bytes_tell s arrays net v (words_fields s words) (accepted_bytes (encode_network s) net struct_bytes e) in
      record { fits_room = h; bytes = struct_bytes; read = e ∙ ap done (sym t.same); kept = subst (λ (n : Net). Kept s (fill n)) (sym t.same) (kept s net v t) }

  pub writer_gives : (room : ℕ) (file : List ℕ) → writing s room ≡ done file → Gives s room file
  unfolding writing given
  writer_gives room file e =
      accepted (load (encode_network s)) _ _ e λ net r e₁. required (leb (length (encode_network s)) room) ShortBuffer 0 _ _ e₁ λ t e₂.
      subst (Gives s room) (done_same e₂) (gives room net r (leb-true (length (encode_network s)) room t))

-- ---- the call

-- the bytes that the writer has written
abbrev pub written_to : Network → List ℕ → List ℕ
written_to s out = take (wrote s out).length (wrote_to s out)

front : (out file : List ℕ) → length file ≤ length out → take (length file) (sets out 0 file) ≡ file
front out file h = ap (take (length file)) (sets-eq file out 0 (omega arith)) ∙ take-append_seam file _

pub writing_honest : (s : Network) (room : ℕ) → Honest (writing s room)
unfolding writing given
writing_honest s room =
    honest_then _ _ (honest_load (encode_network s)) λ net.
    honest_then _ _ (honest_require (leb (length (encode_network s)) room) ShortBuffer 0 (omega arith)) λ ok.
    honest_done _

-- reply 0: there are bytes to write, and they are written
pub writer_done : {P : Type 0} (s : Network) (out : List ℕ) → (wrote s out).answer.reply ≡ Done
    → ((file : List ℕ) → writing s (length out) ≡ done file → (length file ≤ length out → written_to s out ≡ file) → P) → P
unfolding wrote wrote_to told_of filled_by
writer_done s out e k = done_means (writing s (length out)) (writing_honest s (length out)) e λ file w. k file w (λ h. rw w (front out file h))
