-- Writing a network: its fields in order, each number encoded. The writer gives what the reader would give on those bytes, then 10.
use Rattle.std.specs.Prelude.{ℕ, List, [], ◌∷◌, ◌++◌, length, get_or, drop, leb}
use Rattle.std.proofs.lemmas.List.Edits.{sets}
use Rattle.reply.specs.Result.{Result, done, and_then, require, answer_of, or_zero}
use Rattle.reply.specs.declared.Reply.TheVariants.{ShortBuffer}
use Rattle.number.specs.Encode.{encode}
use Rattle.network.specs.Lists.{each_of}
use Rattle.network.specs.Net.{within, process_fields, pair_fields, channel_fields, four_fields}
use Rattle.network.specs.Read.{load}
use Rattle.network.specs.declared.Four.{Four}
use Rattle.network.specs.declared.Network.{Network}
use Rattle.network.specs.declared.Written.{Written}

-- each program: its count, whatever it is, and its numbers
unfoldable pub program_fields : List ℕ → List (List Four) → List ℕ
program_fields counts [] = []
program_fields counts (p ∷ ps) = get_or counts 0 0 ∷ (each_of four_fields p ++ program_fields (drop 1 counts) ps)

-- the numbers of the file, in order; the counts are the struct's own, whatever they are
unfoldable pub fields : Network → List ℕ
fields n =
    1 ∷ n.process_count ∷ (each_of process_fields (within n).processes
    ++ (n.pair_count ∷ (each_of pair_fields (within n).pairs
    ++ (n.channel_count ∷ (each_of channel_fields (within n).channels
    ++ program_fields n.action_counts (within n).programs)))))

unfoldable pub encode_network : Network → List ℕ
encode_network n = each_of encode (fields n)

-- the bytes of a file, where there is room for them
unfoldable pub given : List ℕ → ℕ → Result (List ℕ)
given file room =
    and_then (require (leb (length file) room) ShortBuffer 0) λ ok.
    done file

-- the bytes to write where there are `room`
unfoldable pub writing : Network → ℕ → Result (List ℕ)
writing n room =
    and_then (load (encode_network n)) λ net.
    given (encode_network n) room

-- what the writer returns, and the lent bytes afterwards
unfoldable pub told_of : Result (List ℕ) → Written
told_of r = record { answer = answer_of r; length = or_zero 0 (λ (b : List ℕ). length b) r }

unfoldable pub filled_by : List ℕ → Result (List ℕ) → List ℕ
filled_by out r = or_zero out (λ (b : List ℕ). sets out 0 b) r

unfoldable pub wrote : Network → List ℕ → Written
wrote n out = told_of (writing n (length out))

unfoldable pub wrote_to : Network → List ℕ → List ℕ
wrote_to n out = filled_by out (writing n (length out))
