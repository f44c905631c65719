-- How many bytes a valid network has: 2,600 at most.
use Rattle.std.specs.Prelude.{ℕ, suc, ◌+◌, ◌*◌, ◌≤◌, ◌<◌, ◌≡◌, get_or}
use Rattle.std.proofs.Common.{sym, mul-suc}
use mathlib.Core.List.{List, [], ◌∷◌, ◌++◌}
use native.Mathlib.Omega.{arith}
use Rattle.std.proofs.Math.Decide.{dec_lt}
use Rattle.std.proofs.Math.ListN.{length, length-append}
use Rattle.number.specs.Encode.{encode}
use Rattle.number.specs.Groups.{encode_most, size_one, size_two}
use Rattle.network.specs.Lists.{each_of}
use Rattle.network.specs.Frame.{no_process}
use Rattle.network.specs.Pairs.{no_pair}
use Rattle.network.specs.Net.{Net, no_channel, no_four}
use Rattle.network.specs.Valid.{GoodProcess, GoodPair, GoodChannel, GoodAction, Valid}
use Rattle.network.specs.declared.Process.{Process}
use Rattle.network.specs.declared.Pair.{Pair}
use Rattle.network.specs.declared.Channel.{Channel}
use Rattle.network.specs.declared.Four.{Four}
use Rattle.roundtrip.specs.Actions.{good_ends_lem}
use Rattle.roundtrip.specs.Kinds.{numbers_bytes, process_bytes, pair_bytes, channel_bytes, four_bytes, program_bytes, most_eight}
use Rattle.roundtrip.specs.Whole.{bytes_with, net_bytes}

one_byte : (n : ℕ) → n < 128 → length (encode n) ≡ 1
one_byte n h = sym (size_one n h)

two_bytes : (n : ℕ) → n < 128 * 128 → length (encode n) ≤ 2
two_bytes n h = elim (dec_lt n 128) [ yes l ↦ omega (arith, size_one n l) | no l ↦ omega (arith, size_two n (omega arith) (omega arith)) ]

each_length : {A : Type 0} (d : A) (f : A → List ℕ) (m : ℕ) (l : List A) → ((k : ℕ) → k < length l → length (f (get_or l k d)) ≤ m) → length (each_of f l) ≤ m * length l
unfolding each_of
each_length d f m [] h = omega arith
each_length d f m (x ∷ l) h =
    omega (arith, length-append (f x) (each_of f l), h 0 (omega arith), each_length d f m l (λ k j. h (suc k) (omega arith)), mul-suc m (length l))

-- ---- each kind

numbers4 : (a b c d : ℕ) → length (numbers_bytes (a ∷ b ∷ c ∷ d ∷ [])) ≡ length (encode a) + length (encode b) + length (encode c) + length (encode d)
unfolding each_of
numbers4 a b c d =
    omega (
      arith,
      length-append (encode a) (numbers_bytes (b ∷ c ∷ d ∷ [])),
      length-append (encode b) (numbers_bytes (c ∷ d ∷ [])),
      length-append (encode c) (numbers_bytes (d ∷ [])),
      length-append (encode d) [],
    )

process_length : (p : Process) → GoodProcess p → length (process_bytes p) ≤ 7
process_length p g =
    omega (
      arith,
      numbers4 p.period p.burst p.deadline p.budget,
      two_bytes p.period (omega arith),
      one_byte p.burst (omega arith),
      two_bytes p.deadline (omega arith),
      two_bytes p.budget (omega arith),
    )

pair_length : (n : ℕ) (p : Pair) → n ≤ 12 → GoodPair n p → length (pair_bytes p) ≤ 2
unfolding each_of
pair_length n p h g =
    omega (
      arith,
      length-append (encode p.higher) (numbers_bytes (p.lower ∷ [])),
      length-append (encode p.lower) [],
      one_byte p.higher (omega (arith, g.higher)),
      one_byte p.lower (omega (arith, g.lower)),
    )

channel_length : (n : ℕ) (pairs : List Pair) (c : Channel) → n ≤ 12 → GoodChannel n pairs c → length (channel_bytes c) ≤ 4
channel_length n pairs c h g =
    omega (
      arith,
      numbers4 c.kind c.writer c.reader c.capacity,
      one_byte c.kind (omega (arith, g.kind)),
      one_byte c.writer (omega (arith, g.writer)),
      one_byte c.reader (omega (arith, g.reader)),
      one_byte c.capacity (omega (arith, g.capacity, most_eight c.kind)),
    )

action_length : (channels : List Channel) (p n k : ℕ) (f : Four) → length channels ≤ 16 → GoodAction channels p n k f → length (four_bytes f) ≤ 8
action_length channels p n k f h g =
    let (sa, sc) = good_ends_lem channels p n k f h g in
    omega (
      arith,
      numbers4 f.head f.a f.b f.c,
      one_byte f.head (omega (arith, g.known)),
      one_byte f.a (omega arith),
      encode_most f.b,
      one_byte f.c (omega arith),
    )

-- ---- all of it

module _ (net : Net) (v : Valid net) where
  program_most : (p : ℕ) → p < length net.programs → length (program_bytes (get_or net.programs p [])) ≤ 193
  program_most p h =
      let q = get_or net.programs p [] in
      let count = v.action_count p h in
      let l = each_length no_four four_bytes 8 q (λ k m. action_length net.channels p (length q) k (get_or q k no_four) v.channel_count (v.actions p k h m)) in
      omega (arith, length-append (encode (length q)) (each_of four_bytes q), one_byte (length q) (omega arith))

  pub bytes_most : length (net_bytes net) ≤ 2600
  unfolding bytes_with
  bytes_most =
      let n = length net.processes in
      let (n₁, n₂) = v.process_count in
      let l₁ = each_length no_process process_bytes 7 net.processes (λ k h. process_length (get_or net.processes k no_process) (v.processes k h)) in
      let l₂ = each_length no_pair pair_bytes 2 net.pairs (λ k h. pair_length n (get_or net.pairs k no_pair) n₂ (v.pairs k h)) in
      let l₃ = each_length no_channel channel_bytes 4 net.channels (λ k h. channel_length n net.pairs (get_or net.channels k no_channel) n₂ (v.channels k h)) in
      let l₄ = each_length [] program_bytes 193 net.programs program_most in
      let c₀ = one_byte 1 (omega arith) in
      let c₁ = one_byte n (omega arith) in
      let c₂ = one_byte (length net.pairs) (omega (arith, v.pair_count)) in
      let c₃ = one_byte (length net.channels) (omega (arith, v.channel_count)) in
      let b₇ = each_of channel_bytes net.channels ++ each_of program_bytes net.programs in
      let b₆ = encode (length net.channels) ++ b₇ in
      let b₅ = each_of pair_bytes net.pairs ++ b₆ in
      let b₄ = encode (length net.pairs) ++ b₅ in
      let b₃ = each_of process_bytes net.processes ++ b₄ in
      omega (
        arith,
        length-append (encode 1) (encode n ++ b₃),
        length-append (encode n) b₃,
        length-append (each_of process_bytes net.processes) b₄,
        length-append (encode (length net.pairs)) b₅,
        length-append (each_of pair_bytes net.pairs) b₆,
        length-append (encode (length net.channels)) b₇,
        length-append (each_of channel_bytes net.channels) (each_of program_bytes net.programs),
        v.programs,
        v.pair_count,
        v.channel_count,
      )
