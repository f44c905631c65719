-- The bytes of a struct tell the network within its counts.
use Rattle.std.specs.Prelude.{ℕ, zero, suc, ◌≤◌, ◌<◌, ◌^◌, ◌≡◌, refl, List, [], ◌∷◌, ◌++◌, length, get_or, drop}
use Rattle.std.proofs.Math.Path.{sym}
use Rattle.std.proofs.Common.{ap, subst, ◌∙◌, append_assoc, arith}
use Rattle.std.proofs.Math.Seq.{length-take-le}
use Rattle.number.specs.Stands.{Bytes}
use Rattle.network.specs.Lists.{each_of}
use Rattle.network.specs.Net.{Net, process_fields, pair_fields, channel_fields, four_fields, lengths, within}
use Rattle.network.specs.Write.{program_fields, fields, encode_network}
use Rattle.network.specs.Valid.{Valid}
use Rattle.network.specs.declared.Process.{Process}
use Rattle.network.specs.declared.Pair.{Pair}
use Rattle.network.specs.declared.Channel.{Channel}
use Rattle.network.specs.declared.Four.{Four}
use Rattle.network.specs.declared.Network.{Network}
use Rattle.roundtrip.specs.Kinds.{numbers_bytes}
use Rattle.roundtrip.specs.Whole.{net_bytes}
use Rattle.roundtrip.specs.Flat.{FewActions}
use Rattle.roundtrip.specs.Within.{program_length_lem, within_length, within_program}
use Rattle.roundtrip.specs.Fields.{Counts, lengths_are, drop_one, bytes_of, program_bytes_lem}
use Rattle.roundtrip.specs.Under.{Under, numbers_bytes_lem, numbers_same}
use Rattle.roundtrip.specs.Structs.{Arrays}
use Rattle.roundtrip.specs.Words.{net_numbers, valid_under}

-- ---- records are told by their numbers

cons_same : {A : Type 0} {x y : A} {l m : List A} → x ∷ l ≡ y ∷ m → (x ≡ y) × (l ≡ m)
cons_same e = ((cc), (cc))

-- what begins with the numbers of a thing tells the thing
abbrev Told : {A : Type 0} → (A → List ℕ) → Type 0
Told {A} f = (x y : A) (a b : List ℕ) → f x ++ a ≡ f y ++ b → (x ≡ y) × (a ≡ b)

each_same : {A : Type 0} (f : A → List ℕ) → Told f → (xs ys : List A) (a b : List ℕ) → length xs ≡ length ys
    → each_of f xs ++ a ≡ each_of f ys ++ b → (xs ≡ ys) × (a ≡ b)
unfolding each_of
each_same f told [] [] a b h e = (refl, e)
each_same f told [] (y ∷ ys) a b h e = absurd (omega arith)
each_same f told (x ∷ xs) [] a b h e = absurd (omega arith)
each_same f told (x ∷ xs) (y ∷ ys) a b h e =
    let (same, rest) = told x y (each_of f xs ++ a) (each_of f ys ++ b) (sym (append_assoc (f x) (each_of f xs) a) ∙ e ∙ append_assoc (f y) (each_of f ys) b) in
    let (sames, rests) = each_same f told xs ys a b (omega arith) rest in
    (rw (same, sames), rests)

same4 : {A : Type 0} (make : ℕ → ℕ → ℕ → ℕ → A) {a b c d a' b' c' d' : ℕ} {l m : List ℕ}
    → a ∷ b ∷ c ∷ d ∷ l ≡ a' ∷ b' ∷ c' ∷ d' ∷ m → (make a b c d ≡ make a' b' c' d') × (l ≡ m)
same4 make {a} {b} {c} {d} {a'} {b'} {c'} {d'} {l} {m} e =
    let e₁ : a ≡ a' = cc in let e₂ : b ≡ b' = cc in let e₃ : c ≡ c' = cc in let e₄ : d ≡ d' = cc in
    (rw (e₁, e₂, e₃, e₄), (cc))

process_told : Told process_fields
process_told x y a b e = same4 (λ p q r s. let z : Process = record { period = p; burst = q; deadline = r; budget = s } in z) e

channel_told : Told channel_fields
channel_told x y a b e = same4 (λ p q r s. let z : Channel = record { kind = p; writer = q; reader = r; capacity = s } in z) e

four_told : Told four_fields
four_told x y a b e = same4 (λ p q r s. let z : Four = record { head = p; a = q; b = r; c = s } in z) e

pair_told : Told pair_fields
pair_told x y a b e = go e
  where
    make : ℕ → ℕ → Pair
    make p q = record { higher = p; lower = q }

    go : {p q p' q' : ℕ} {l m : List ℕ} → p ∷ q ∷ l ≡ p' ∷ q' ∷ m → (make p q ≡ make p' q') × (l ≡ m)
    go {p} {q} {p'} {q'} {l} {m} e = let e₁ : p ≡ p' = cc in let e₂ : q ≡ q' = cc in (rw (e₁, e₂), (cc))

-- ---- programs are told by their counts and numbers

-- a program has as many actions as its count says, where that is possible
abbrev Counted : List ℕ → List (List Four) → Type 0
Counted counts ps = (p : ℕ) → p < length ps → get_or counts p 0 ≤ 24 → length (get_or ps p []) ≡ get_or counts p 0

-- the programs are the same, and the counts are their lengths
record Same (counts : List ℕ) (ps qs : List (List Four)) : Type 0 where
  same : ps ≡ qs
  counts_are : Counts counts qs

same_more : (counts : List ℕ) (p q : List Four) (ps qs : List (List Four)) → get_or counts 0 0 ≡ length q → p ≡ q → Same (drop 1 counts) ps qs → Same counts (p ∷ ps) (q ∷ qs)
same_more counts p q ps qs count e s = record { same = rw (e, s.same); counts_are = go }
  where
    go : Counts counts (q ∷ qs)
    go zero l = count
    go (suc i) l = sym (drop_one counts i) ∙ s.counts_are i (omega arith)

programs_same : (counts : List ℕ) (ps qs : List (List Four)) → length ps ≡ length qs → Counted counts ps → FewActions qs
    → program_fields counts ps ≡ program_fields (lengths qs) qs → Same counts ps qs
unfolding program_fields
programs_same counts [] [] h c fit e = record { same = refl; counts_are = λ i l. absurd (omega arith) }
programs_same counts [] (q ∷ qs) h c fit e = absurd (omega arith)
programs_same counts (p ∷ ps) [] h c fit e = absurd (omega arith)
programs_same counts (p ∷ ps) (q ∷ qs) h c fit e =
    let (count, tail) = cons_same e in
    let size : length p ≡ length q = omega (arith, c 0 (omega arith) (omega (arith, fit 0 (omega arith)))) in
    let (same, more) = each_same four_fields four_told p q _ _ size tail in
    same_more counts p q ps qs count same
    (programs_same (drop 1 counts) ps qs (omega arith)
    (λ i l small. c (suc i) (omega arith) (rw (← drop_one counts i) small) ∙ sym (drop_one counts i)) (λ i l. fit (suc i) (omega arith)) more)

-- ---- a valid network

net_bytes_are : (net : Net) → numbers_bytes (net_numbers net) ≡ net_bytes net
net_bytes_are net = bytes_of _ _ _ net _ (program_bytes_lem (lengths net.programs) net.programs (lengths_are net.programs))

pub valid_bytes : (net : Net) → Valid net → Bytes (net_bytes net)
valid_bytes net v = subst Bytes (net_bytes_are net) (numbers_bytes_lem (net_numbers net) (valid_under net v))

-- ---- the struct

-- a struct and the network within its counts
pub record Tells (s : Network) (net : Net) : Type 0 where
  pub same : within s ≡ net
  pub process_count : s.process_count ≡ length net.processes
  pub pair_count : s.pair_count ≡ length net.pairs
  pub channel_count : s.channel_count ≡ length net.channels
  pub action_counts : Counts s.action_counts net.programs

module _ (s : Network) where
  counted : Counted s.action_counts (within s).programs
  counted p l h = ap length (within_program s p l) ∙ program_length_lem s.actions (get_or s.action_counts p 0) p h

  processes_length : length s.processes ≡ 12 → s.process_count ≤ 12 → length (within s).processes ≡ s.process_count
  unfolding within
  processes_length h l = length-take-le s.process_count s.processes (omega arith)

  pairs_length : length s.pairs ≡ 66 → s.pair_count ≤ 66 → length (within s).pairs ≡ s.pair_count
  unfolding within
  pairs_length h l = length-take-le s.pair_count s.pairs (omega arith)

  channels_length : length s.channels ≡ 16 → s.channel_count ≤ 16 → length (within s).channels ≡ s.channel_count
  unfolding within
  channels_length h l = length-take-le s.channel_count s.channels (omega arith)

module _ (s : Network) (arrays : Arrays s) (net : Net) (v : Valid net) (small : Under (2 ^ 32) (fields s)) (e : encode_network s ≡ net_bytes net) where
  same_numbers : fields s ≡ net_numbers net
  unfolding encode_network
  same_numbers = numbers_same (fields s) (net_numbers net) small (valid_under net v) (e ∙ sym (net_bytes_are net))

  pub bytes_tell : Tells s net
  unfolding fields
  bytes_tell =
      let (f₁, e₁) = cons_same same_numbers in
      let (n, e₂) = cons_same e₁ in
      let np : s.process_count ≤ 12 = omega (arith, v.process_count) in
      let (ps, e₃) = each_same process_fields process_told (within s).processes net.processes _ _ (processes_length s arrays.processes np ∙ n) e₂ in
      let (k, e₄) = cons_same e₃ in
      let (qs, e₅) = each_same pair_fields pair_told (within s).pairs net.pairs _ _ (pairs_length s arrays.pairs (omega (arith, v.pair_count)) ∙ k) e₄ in
      let (w, e₆) = cons_same e₅ in
      let (cs, e₇) = each_same channel_fields channel_told (within s).channels net.channels _ _ (channels_length s arrays.channels (omega (arith, v.channel_count)) ∙ w) e₆ in
      let gs = programs_same s.action_counts (within s).programs net.programs (within_length s np ∙ n ∙ sym v.programs) (counted s) v.action_count e₇ in
      record {
        same = λ i. record { processes = ps i; pairs = qs i; channels = cs i; programs = gs.same i };
        process_count = n;
        pair_count = k;
        channel_count = w;
        action_counts = gs.counts_are;
      }
