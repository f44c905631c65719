-- The writer over the reader: what the reader says of the bytes, and the room.
use Prim.Native.Nat.{ℕ, ◌+◌, ◌≤◌}
use mathlib.Core.Path.{◌≡◌, refl, sym, ap, ◌∙◌}
use mathlib.Core.List.{List, ◌++◌}
use native.Mathlib.Decide.{dec_lt}
use native.Mathlib.Omega.{arith}
use lib.ListN.{length, take, drop}
use lib.Seq.{sets-eq, take_all}
use borrow.Author.Tests.{le-leb}
use mathlib.Core.Bool.{Bool, true, false}
use Rattle.reply.specs.Tests.{clash}
use Rattle.reply.specs.Result.{Result, done, refused, and_then, answer_of}
use Rattle.reply.specs.Told.{told, refusal_in, refusal_told}
use Rattle.reply.specs.declared.Refusal.{Refusal}
use Rattle.std.specs.Prelude.{Ok, Err}
use Rattle.std.specs.declared.result.Result as Std
use Rattle.std.proofs.Common.{zero-add}
use Rattle.network.specs.Read.{load, read_file}
use Rattle.network.specs.Honest.{honest_load}
use Rattle.network.specs.Write.{encode_network, given, writing, told_of, filled_by, wrote_to}
use Rattle.writer.specs.Laid.{Encoded, written_of}
use Rattle.network.specs.Net.{Net}
use Rattle.network.specs.declared.Loaded.{Loaded}
use Rattle.network.specs.declared.Network.{Network}

pub answer_is : (file : List ℕ) (r : Loaded) → r ≡ read_file file → r.answer ≡ answer_of (load file)
unfolding read_file
answer_is file r e = ap (λ (l : Loaded). l.answer) e

-- ---- the bytes of a file given

-- the outcome of a call, as it is returned
pub told_written : (r : Result (List ℕ)) → written_of (told (λ b. length b) r) ≡ told_of r
unfolding told_of
told_written (done b) = refl
told_written (refused reply place) = refl

module _ (file out : List ℕ) where
  -- all of it
  pub filled : length file ≤ length out → (front : List ℕ) → front ≡ file → front ++ drop (length file) out ≡ filled_by out (given file (length out))
  unfolding given filled_by
  filled h front e =
      let z : 0 + length file ≤ length out = omega arith in
      rw (le-leb (length file) (length out) h, e, sets-eq file out 0 z, zero-add)

-- ---- the writer

-- the refusal in what the reader returns
pub judged_as : (file : List ℕ) (r : Loaded) → r ≡ read_file file → refusal_in r.answer ≡ told (λ net. tt) (load file)
judged_as file r e = ap refusal_in (answer_is file r e) ∙ refusal_told (load file) (honest_load file)

abbrev Judged : Type 0
Judged = Std.Result (Unit {0}) Refusal

is_ok : Judged → Bool
is_ok (Ok u) = true
is_ok (Err refusal) = false

no_bytes : Judged → Std.Result ℕ Refusal
no_bytes (Ok u) = Ok 0
no_bytes (Err refusal) = Err refusal

abbrev judgement : Result Net → Judged
judgement = told (λ net. tt {0})

-- a refusal of the reader is that of the call, which writes nothing
refused_gives : (refusal : Refusal) (r : Result Net) (next : Net → Result (List ℕ)) (out : List ℕ) → judgement r ≡ Err refusal
    → (told (λ b. length b) (and_then r next) ≡ Err refusal) × (out ≡ filled_by out (and_then r next))
unfolding filled_by is_ok no_bytes
refused_gives refusal (done net) next out e = clash refl (ap is_ok e)
refused_gives refusal (refused reply place) next out e = (ap no_bytes e, refl)

accepted_gives : (u : Unit {0}) (r : Result Net) → judgement r ≡ Ok u → (net : Net) × (r ≡ done net)
unfolding is_ok
accepted_gives u (done net) e = (net, refl)
accepted_gives u (refused reply place) e = clash (ap is_ok e) refl

module _ (network : Network) (out : List ℕ) {size : ℕ} {buffer : List ℕ} (encoded : Encoded network size buffer) where
  pub put_refused : (refusal : Refusal) → judgement (load (take size buffer)) ≡ Err refusal
      → (told (λ b. length b) (writing network (length out)) ≡ Err refusal) × (out ≡ wrote_to network out)
  unfolding wrote_to writing
  put_refused refusal e =
      refused_gives refusal (load (encode_network network)) (λ net. given (encode_network network) (length out)) out
      (ap (λ (file : List ℕ). judgement (load file)) (sym encoded.bytes) ∙ e)

  -- the reader accepts the bytes, so they are given
  pub put_accepted : {net : Net} → load (encode_network network) ≡ done net → (r : Std.Result ℕ Refusal) (filled : List ℕ)
      → r ≡ told (λ b. length b) (given (take size buffer) (length out)) → filled ≡ filled_by out (given (take size buffer) (length out))
      → (r ≡ told (λ b. length b) (writing network (length out))) × (filled ≡ wrote_to network out)
  unfolding wrote_to writing
  put_accepted e r filled t f = (t ∙ rw (encoded.bytes, e), f ∙ rw (encoded.bytes, e))

  pub put_read : (u : Unit {0}) → judgement (load (take size buffer)) ≡ Ok u → (r : Std.Result ℕ Refusal) (filled : List ℕ)
      → r ≡ told (λ b. length b) (given (take size buffer) (length out)) → filled ≡ filled_by out (given (take size buffer) (length out))
      → (r ≡ told (λ b. length b) (writing network (length out))) × (filled ≡ wrote_to network out)
  put_read u e r filled t f =
      let (net, d) = accepted_gives u (load (encode_network network)) (ap (λ (file : List ℕ). judgement (load file)) (sym encoded.bytes) ∙ e) in
      put_accepted d r filled t f

-- the bytes to write are a front of the buffer
module _ {network : Network} {size : ℕ} {buffer : List ℕ} (encoded : Encoded network size buffer) where
  pub front_size : size ≡ length (take size buffer)
  front_size = encoded.size_is ∙ sym (ap length encoded.bytes)

  pub front_fits : size ≤ length buffer
  front_fits = elim (dec_lt (length buffer) size) [
    | yes h ↦ absurd (omega (arith, front_size, ap length (take_all size buffer (omega arith))))
    | no h ↦ omega arith
  ]
