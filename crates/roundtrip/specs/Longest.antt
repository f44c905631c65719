-- An accepted file of 2,600 bytes: 12 processes, 66 pairs, 16 channels, 24 actions each, every number as long as it can be.
use Rattle.std.specs.Prelude.{ℕ, zero, suc, ◌≡◌, refl, List, [], ◌++◌, length, replicate}
use Rattle.std.proofs.Common.{ap, ◌∙◌}
use Rattle.reply.specs.Result.{done}
use Rattle.network.specs.Lists.{table}
use Rattle.network.specs.Net.{Net, fill}
use Rattle.network.specs.Read.{load}
use Rattle.network.specs.Write.{encode_network}
use Rattle.network.specs.Opens.{file_definitions}
use Rattle.network.specs.declared.Pair.{Pair}
use Rattle.roundtrip.specs.Whole.{net_bytes, bytes_with}
use Rattle.roundtrip.specs.Promise.{read_valid, encode_fill}

-- every pair of the first processes
abbrev pairs_to : ℕ → List Pair
pairs_to zero = []
pairs_to (suc k) = pairs_to k ++ table k (λ i. let p : Pair = record { higher = i; lower = k } in p)

abbrev pub longest : Net
longest = record {
  processes = replicate 12 (record { period = 1000; burst = 1; deadline = 1000; budget = 128 });
  pairs = pairs_to 12;
  channels = replicate 16 (record { kind = 0; writer = 0; reader = 1; capacity = 8 });
  programs = replicate 12 (replicate 24 (record { head = 0; a = 7; b = 4294967295; c = 0 }));
}

bytes_accepted : load (net_bytes longest) ≡ done longest
unfolding file_definitions bytes_with
bytes_accepted = refl

bytes_length : length (net_bytes longest) ≡ 2600
unfolding file_definitions bytes_with
bytes_length = refl

same_bytes : encode_network (fill longest) ≡ net_bytes longest
same_bytes = encode_fill longest (read_valid (net_bytes longest) longest bytes_accepted)

pub longest_accepted : load (encode_network (fill longest)) ≡ done longest
longest_accepted = ap load same_bytes ∙ bytes_accepted

pub longest_length : length (encode_network (fill longest)) ≡ 2600
longest_length = ap length same_bytes ∙ bytes_length
