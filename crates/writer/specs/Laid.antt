-- Numbers laid in a buffer of bytes, encoded, one after another.
use Rattle.std.specs.Prelude.{ℕ, ◌+◌, ◌≤◌, ◌≡◌, List, length, take, Ok, Err}
use Rattle.std.specs.declared.result.Result as Std
use Rattle.std.proofs.lemmas.List.Edits.{sets}
use Rattle.number.specs.Encode.{encode}
use Rattle.network.specs.Lists.{each_of}
use Rattle.network.specs.Write.{encode_network}
use Rattle.network.specs.declared.Network.{Network}
use Rattle.network.specs.declared.Written.{Written}
use Rattle.reply.specs.declared.Reply.TheVariants.{Done}
use Rattle.reply.specs.declared.Refusal.{Refusal}

-- the numbers stand in `after` from `at` on, up to `next`; they are at most `most` bytes, and elsewhere the buffer is as it was before
pub record Laid (before : List ℕ) (at : ℕ) (numbers : List ℕ) (most : ℕ) (after : List ℕ) (next : ℕ) : Type 0 where
  pub stands : after ≡ sets before at (each_of encode numbers)
  pub ends : next ≡ at + length (each_of encode numbers)
  pub near : next ≤ at + most

-- the network's bytes are the first `size` of the buffer
pub record Encoded (network : Network) (size : ℕ) (buffer : List ℕ) : Type 0 where
  pub size_is : size ≡ length (encode_network network)
  pub bytes : take size buffer ≡ encode_network network
  pub most : size ≤ 7060

-- what the writer returns of its outcome: how many bytes, or the refusal and none
abbrev pub written_of : Std.Result ℕ Refusal → Written
written_of (Ok length) = record { answer = record { reply = Done; place = 0 }; length = length }
written_of (Err refusal) = record { answer = record { reply = refusal.reply; place = refusal.place }; length = 0 }
