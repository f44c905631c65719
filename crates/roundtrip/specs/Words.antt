-- All numbers of a file are below 2 ^ 32: those of a struct whose members are 32-bit numbers, and those of a valid network.
use Rattle.std.specs.Prelude.{ℕ, suc, ◌<◌, ◌^◌, List, [], ◌∷◌, length, get_or, drop}
use Rattle.std.proofs.Common.{arith}
use Rattle.std.proofs.Math.Decide.{dec_lt}
use Rattle.std.proofs.Math.ListN.{length-take, get_or-map, get_or-eq_default}
use Rattle.network.specs.Lists.{each_of}
use Rattle.network.specs.Frame.{no_process}
use Rattle.network.specs.Pairs.{no_pair}
use Rattle.network.specs.Net.{Net, no_channel, no_four, process_fields, pair_fields, channel_fields, four_fields, lengths, program_at, within}
use Rattle.network.specs.Write.{program_fields, fields}
use Rattle.network.specs.Valid.{Valid}
use Rattle.network.specs.declared.Four.{Four}
use Rattle.network.specs.declared.Network.{Network}
use Rattle.roundtrip.specs.Actions.{Small, good_small}
use Rattle.roundtrip.specs.Kinds.{most_eight}
use Rattle.roundtrip.specs.Under.{Under, under_none, under_cons, under_append, under_each}
use Rattle.roundtrip.specs.Structs.{Words}
use Rattle.roundtrip.specs.Within.{take_at, program_four, within_program}
use Rattle.roundtrip.specs.Flat.{FewActions}
use Rattle.roundtrip.specs.Fields.{drop_one, numbers_with}

some : 0 < 2 ^ 32
some = omega arith

under4 : (a b c d : ℕ) → a < 2 ^ 32 → b < 2 ^ 32 → c < 2 ^ 32 → d < 2 ^ 32 → Under (2 ^ 32) (a ∷ b ∷ c ∷ d ∷ [])
under4 a b c d ha hb hc hd = under_cons some ha (under_cons some hb (under_cons some hc (under_cons some hd (under_none some))))

-- ---- programs

-- every action of every program is small
abbrev AllSmall : List (List Four) → Type 0
AllSmall ps = (p k : ℕ) → p < length ps → k < length (get_or ps p []) → Small (get_or (get_or ps p []) k no_four)

programs_under : (counts : List ℕ) (ps : List (List Four)) → Under (2 ^ 32) counts → AllSmall ps → Under (2 ^ 32) (program_fields counts ps)
unfolding program_fields
programs_under counts [] u h = under_none some
programs_under counts (p ∷ ps) u h =
    under_cons some (u.at 0)
    (under_append some (each_of four_fields p) (program_fields (drop 1 counts) ps)
    (under_each some no_four four_fields p (λ k l. let s = h 0 k (omega arith) l in under4 _ _ _ _ s.head s.a s.b s.c))
    (programs_under (drop 1 counts) ps (record { at = λ i. rw (drop_one counts i) (u.at (suc i)) }) (λ p k a b. h (suc p) k (omega arith) b)))

-- ---- a network and its counts

module _ (n k w : ℕ) (net : Net) (gs : List ℕ) (hn : n < 2 ^ 32) (hk : k < 2 ^ 32) (hw : w < 2 ^ 32) where
  numbers_under : ((i : ℕ) → i < length net.processes → Under (2 ^ 32) (process_fields (get_or net.processes i no_process)))
      → ((i : ℕ) → i < length net.pairs → Under (2 ^ 32) (pair_fields (get_or net.pairs i no_pair)))
      → ((i : ℕ) → i < length net.channels → Under (2 ^ 32) (channel_fields (get_or net.channels i no_channel)))
      → Under (2 ^ 32) gs → Under (2 ^ 32) (numbers_with n k w net gs)
  numbers_under ps qs cs u =
      under_cons some (omega arith) (under_cons some hn
      (under_append some (each_of process_fields net.processes) _ (under_each some no_process process_fields net.processes ps)
      (under_cons some hk
      (under_append some (each_of pair_fields net.pairs) _ (under_each some no_pair pair_fields net.pairs qs)
      (under_cons some hw
      (under_append some (each_of channel_fields net.channels) _ (under_each some no_channel channel_fields net.channels cs) u))))))

-- ---- a struct

module _ (s : Network) (words : Words s) where
  within_processes : (i : ℕ) → i < length (within s).processes → Under (2 ^ 32) (process_fields (get_or (within s).processes i no_process))
  unfolding within
  within_processes i h =
      rw (take_at s.process_count s.processes no_process i h) (words.processes i (omega (arith, length-take s.process_count s.processes)))

  within_pairs : (i : ℕ) → i < length (within s).pairs → Under (2 ^ 32) (pair_fields (get_or (within s).pairs i no_pair))
  unfolding within
  within_pairs i h =
      rw (take_at s.pair_count s.pairs no_pair i h) (words.pairs i (omega (arith, length-take s.pair_count s.pairs)))

  within_channels : (i : ℕ) → i < length (within s).channels → Under (2 ^ 32) (channel_fields (get_or (within s).channels i no_channel))
  unfolding within
  within_channels i h =
      rw (take_at s.channel_count s.channels no_channel i h) (words.channels i (omega (arith, length-take s.channel_count s.channels)))

  within_small : AllSmall (within s).programs
  within_small p k h l =
      let same = within_program s p h in
      let count = get_or s.action_counts p 0 in
      let m : k < length (program_at s.actions count p) = rw same at l in
      rw (same, program_four s.actions count p k m)
      (record { head = words.actions.at _; a = words.actions.at _; b = words.actions.at _; c = words.actions.at _ })

  pub words_fields : Under (2 ^ 32) (fields s)
  unfolding fields
  words_fields =
      numbers_under s.process_count s.pair_count s.channel_count (within s) (program_fields s.action_counts (within s).programs)
      words.process_count words.pair_count words.channel_count
      within_processes within_pairs within_channels (programs_under s.action_counts (within s).programs words.action_counts within_small)

-- ---- a valid network

lengths_under : (ps : List (List Four)) → FewActions ps → Under (2 ^ 32) (lengths ps)
lengths_under ps fit = record {
  at = λ i. rw (get_or-map (λ (p : List Four). length p) ps i []) (elim (dec_lt i (length ps)) [
    | yes h ↦ omega (arith, fit i h)
    | no h ↦ rw (get_or-eq_default ps [] {n = i} (omega arith)) some
  ]);
}

-- its numbers, in the order of the file
abbrev pub net_numbers : Net → List ℕ
net_numbers net =
    numbers_with (length net.processes) (length net.pairs) (length net.channels) net (program_fields (lengths net.programs) net.programs)

pub valid_under : (net : Net) → Valid net → Under (2 ^ 32) (net_numbers net)
valid_under net v =
    let (n₁, n₂) = v.process_count in
    numbers_under _ _ _ net _ (omega arith) (omega (arith, v.pair_count)) (omega (arith, v.channel_count))
    (λ i h.
    let g = v.processes i h in
    let (p₁, p₂) = g.period in let (b₁, b₂) = g.burst in let (d₁, d₂) = g.deadline in let (c₁, c₂) = g.budget in
    under4 _ _ _ _ (omega arith) (omega arith) (omega arith) (omega arith))
    (λ i h.
    let g = v.pairs i h in
    under_cons some (omega (arith, g.higher)) (under_cons some (omega (arith, g.lower)) (under_none some)))
    (λ i h.
    let g = v.channels i h in
    under4 _ _ _ _ (omega (arith, g.kind)) (omega (arith, g.writer)) (omega (arith, g.reader))
    (omega (arith, g.capacity, most_eight (get_or net.channels i no_channel).kind)))
    (programs_under (lengths net.programs) net.programs (lengths_under net.programs v.action_count)
    (λ p k h l. good_small net.channels p (length (get_or net.programs p [])) k _ v.channel_count (v.actions p k h l)))
