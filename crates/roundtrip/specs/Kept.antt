-- What is read back of a struct that was written: the struct as it was within its counts, and zero past them.
use Rattle.std.specs.Prelude.{ℕ, ◌+◌, ◌*◌, ◌≤◌, ◌<◌, ◌≡◌}
use Rattle.std.proofs.Math.Path.{sym, ap}
use Rattle.std.proofs.Common.{subst, ◌∙◌}
use mathlib.Core.List.{List, []}
use native.Mathlib.Omega.{arith}
use Rattle.std.proofs.Math.ListN.{length, get_or, length-map}
use Rattle.std.proofs.Math.Seq.{get_or-take}
use Rattle.network.specs.Lists.{each_of}
use Rattle.network.specs.ListLaws.{length_fill, fill_kept, fill_past}
use Rattle.network.specs.Frame.{no_process}
use Rattle.network.specs.Pairs.{no_pair}
use Rattle.network.specs.Net.{Net, no_channel, no_four, program_room, lengths, fill, four_at, program_at, within}
use Rattle.network.specs.Valid.{Valid}
use Rattle.network.specs.declared.Four.{Four}
use Rattle.network.specs.declared.Network.{Network}
use Rattle.roundtrip.specs.Flat.{length_flat, flat_four, flat_past}
use Rattle.roundtrip.specs.Within.{program_four, within_program}
use Rattle.roundtrip.specs.Fields.{filled_are}
use Rattle.roundtrip.specs.Structs.{Arrays}
use Rattle.roundtrip.specs.Back.{Tells}

-- t is s within the counts, and zero past them
pub record Kept (s t : Network) : Type 0 where
  pub process_count : t.process_count ≡ s.process_count
  pub pair_count : t.pair_count ≡ s.pair_count
  pub channel_count : t.channel_count ≡ s.channel_count
  pub processes : (i : ℕ) → i < s.process_count → get_or t.processes i no_process ≡ get_or s.processes i no_process
  pub pairs : (i : ℕ) → i < s.pair_count → get_or t.pairs i no_pair ≡ get_or s.pairs i no_pair
  pub channels : (i : ℕ) → i < s.channel_count → get_or t.channels i no_channel ≡ get_or s.channels i no_channel
  pub action_counts : (p : ℕ) → p < s.process_count → get_or t.action_counts p 0 ≡ get_or s.action_counts p 0
  pub actions : (p k : ℕ) → p < s.process_count → k < get_or s.action_counts p 0 → four_at t.actions p k ≡ four_at s.actions p k
  pub processes_past : (i : ℕ) → s.process_count ≤ i → get_or t.processes i no_process ≡ no_process
  pub pairs_past : (i : ℕ) → s.pair_count ≤ i → get_or t.pairs i no_pair ≡ no_pair
  pub channels_past : (i : ℕ) → s.channel_count ≤ i → get_or t.channels i no_channel ≡ no_channel
  pub action_counts_past : (p : ℕ) → s.process_count ≤ p → get_or t.action_counts p 0 ≡ 0
  pub actions_past : (p r : ℕ) → p < s.process_count → 4 * get_or s.action_counts p 0 ≤ r → r < 96 → get_or t.actions (96 * p + r) 0 ≡ 0
  pub programs_past : (i : ℕ) → 96 * s.process_count ≤ i → get_or t.actions i 0 ≡ 0

module _ (s : Network) (net : Net) (v : Valid net) (t : Tells s net) where
  process_at_lem : (i : ℕ) → i < s.process_count → get_or net.processes i no_process ≡ get_or s.processes i no_process
  unfolding within
  process_at_lem i h = ap (λ (n : Net). get_or n.processes i no_process) (sym t.same) ∙ get_or-take s.process_count s.processes i no_process h

  pair_at_lem : (i : ℕ) → i < s.pair_count → get_or net.pairs i no_pair ≡ get_or s.pairs i no_pair
  unfolding within
  pair_at_lem i h = ap (λ (n : Net). get_or n.pairs i no_pair) (sym t.same) ∙ get_or-take s.pair_count s.pairs i no_pair h

  channel_at_lem : (i : ℕ) → i < s.channel_count → get_or net.channels i no_channel ≡ get_or s.channels i no_channel
  unfolding within
  channel_at_lem i h = ap (λ (n : Net). get_or n.channels i no_channel) (sym t.same) ∙ get_or-take s.channel_count s.channels i no_channel h

  four_at_lem : (p k : ℕ) → p < length net.programs → k < length (get_or net.programs p []) → get_or (get_or net.programs p []) k no_four ≡ four_at s.actions p k
  four_at_lem p k h l =
      let count = get_or s.action_counts p 0 in
      let hp : p < length (within s).programs = subst (λ (n : Net). p < length n.programs) (sym t.same) h in
      let same : get_or net.programs p [] ≡ program_at s.actions count p = ap (λ (n : Net). get_or n.programs p []) (sym t.same) ∙ within_program s p hp in
      ap (λ (q : List Four). get_or q k no_four) same ∙ program_four s.actions count p k (subst (λ (q : List Four). k < length q) same l)

  pub kept : Kept s (fill net)
  unfolding fill
  kept =
      let n = t.process_count in
      let m = v.programs in
      record {
        process_count = sym n;
        pair_count = sym t.pair_count;
        channel_count = sym t.channel_count;
        processes = λ i h. fill_kept 12 no_process net.processes i (omega arith) ∙ process_at_lem i h;
        pairs = λ i h. fill_kept 66 no_pair net.pairs i (omega (arith, t.pair_count)) ∙ pair_at_lem i h;
        channels = λ i h. fill_kept 16 no_channel net.channels i (omega (arith, t.channel_count)) ∙ channel_at_lem i h;
        action_counts = λ p h. filled_are net.programs p (omega arith) ∙ sym (t.action_counts p (omega arith));
        actions = λ p k h l.
            let hp : p < length net.programs = omega arith in
            let hk : k < length (get_or net.programs p []) = omega (arith, t.action_counts p hp) in
            flat_four net.programs v.action_count p hp k hk ∙ four_at_lem p k hp hk;
        processes_past = λ i h. fill_past 12 no_process net.processes i (omega arith);
        pairs_past = λ i h. fill_past 66 no_pair net.pairs i (omega (arith, t.pair_count));
        channels_past = λ i h. fill_past 16 no_channel net.channels i (omega (arith, t.channel_count));
        action_counts_past = λ p h. fill_past 12 0 (lengths net.programs) p (omega (arith, length-map net.programs (λ (p : List Four). length p)));
        actions_past = λ p r h l small.
            let hp : p < length net.programs = omega arith in
            flat_past net.programs v.action_count p hp r (omega (arith, t.action_counts p hp)) small;
        programs_past = λ i h. fill_past 1152 0 (each_of program_room net.programs) i (omega (arith, length_flat net.programs v.action_count));
      }

-- the arrays of a valid network's struct are as long as they are declared
pub fill_arrays : (net : Net) → Valid net → Arrays (fill net)
unfolding fill
fill_arrays net v =
    let m = v.programs in
    let (n₁, n₂) = v.process_count in
    record {
      processes = length_fill 12 no_process net.processes n₂;
      pairs = length_fill 66 no_pair net.pairs v.pair_count;
      channels = length_fill 16 no_channel net.channels v.channel_count;
      action_counts = length_fill 12 0 (lengths net.programs) (omega (arith, length-map net.programs (λ (p : List Four). length p)));
      actions = length_fill 1152 0 (each_of program_room net.programs) (omega (arith, length_flat net.programs v.action_count));
    }
