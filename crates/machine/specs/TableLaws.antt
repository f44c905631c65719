-- The tables of a valid network's struct are what a job needs of them: its kinds and capacities, and the program of each process.
use Rattle.std.specs.Prelude.{◌≡◌, ℕ, ◌+◌, ◌*◌, ◌<◌, ◌≤◌, List, [], length, get_or, slice_index, slice_index_or, refl}
use Rattle.std.proofs.Math.Path.{sym, ap}
use Rattle.std.proofs.Common.{◌∙◌, arith}
use Rattle.std.proofs.Math.Decide.{dec_lt}
use Rattle.std.proofs.Math.ListN.{length-map, get_or-eq_default}
use Rattle.network.specs.ListLaws.{fill_at}
use Rattle.network.specs.Net.{Net, no_channel, fill, four_at}
use Rattle.network.specs.Valid.{Valid}
use Rattle.network.specs.declared.Channel.{Channel}
use Rattle.network.specs.declared.Four.{Four}
use Rattle.roundtrip.specs.Flat.{flat_four}
use Rattle.roundtrip.specs.Fields.{filled_are}
use Rattle.roundtrip.specs.Kinds.{most_eight}
use Rattle.machine.specs.Actions.{decode, channel_of}
use Rattle.machine.specs.WholeJob.{program_of}
use Rattle.machine.specs.Acting.{KindsOf, KindsTold, Capacities}
use Rattle.machine.specs.Jobs.{ProgramIs, Runnable}
use Rattle.machine.specs.GoodActions.{operands_in, decoded_at, net_good}
use Rattle.machine.specs.declared.Action.TheVariants.{Unknown}

module _ (net : Net) (ok : Valid net) where
  -- ---- kinds and capacities

  module _ (kinds : List ℕ) (told : KindsTold (fill net).channels kinds) where
    -- a number that the table has of channel c; past the table it is 0, as it is of no channel
    told_of : (field : Channel → ℕ) → field no_channel ≡ 0 → (c i : ℕ) → 2 * c ≤ i → (c < 16 → slice_index kinds i ≡ field (slice_index_or (fill net).channels c no_channel))
        → slice_index kinds i ≡ field (channel_of net c)
    unfolding fill
    told_of field none c i l here = elim (dec_lt c 16) [
      | yes h ↦ here h ∙ ap field (fill_at 16 no_channel net.channels c)
      | no h ↦
          get_or-eq_default kinds 0 {n = i} (omega (arith, told.size))
          ∙ sym (ap field (get_or-eq_default net.channels no_channel {n = c} (omega (arith, ok.channel_count))) ∙ none)
    ]

    pub kinds_are : KindsOf net kinds
    kinds_are = record {
      kind = λ c. told_of (λ x. x.kind) refl c (2 * c) (omega arith) (told.kind c);
      capacity = λ c. told_of (λ x. x.capacity) refl c (2 * c + 1) (omega arith) (told.capacity c);
    }

    pub capacities_are : Capacities kinds
    capacities_are = record { most = λ c. rw (kinds_are.capacity c) (small c) }
      where
        small : (c : ℕ) → (channel_of net c).capacity ≤ 8
        small c = elim (dec_lt c (length net.channels)) [
          | yes h ↦ omega (arith, (ok.channels c h).capacity.1, most_eight (channel_of net c).kind)
          | no h ↦ rw (get_or-eq_default net.channels no_channel {n = c} (omega arith)) (omega arith)
        ]

  -- ---- the program of process p

  module _ (p : ℕ) (h : p < length net.programs) where
    abbrev fours : List Four
    fours = slice_index_or net.programs p []

    decoded : (k : ℕ) → k < length (program_of net p) → decode (four_at (fill net).actions p k) ≡ slice_index_or (program_of net p) k Unknown
    unfolding fill
    decoded k l =
        let b : k < length fours = omega (arith, length-map fours decode) in
        ap decode (flat_four net.programs ok.action_count p h k b) ∙ sym (decoded_at fours k b)

    pub programs_are : ProgramIs net (fill net).actions p (length (program_of net p))
    programs_are = record { size = refl; action = decoded }

    pub counts_are : get_or (fill net).action_counts p 0 ≡ length (program_of net p)
    unfolding fill
    counts_are = filled_are net.programs p h ∙ sym (length-map fours decode)

    pub runnable_are : Runnable (fill net).actions p (length (program_of net p))
    runnable_are =
        let few : length (program_of net p) ≤ 24 = omega (arith, length-map fours decode, ok.action_count p h) in
        record {
          process = omega (arith, ok.programs, ok.process_count.1);
          most = few;
          operands = λ k l. rw (decoded k l) (operands_in net.channels p (length (program_of net p)) k ok.channel_count few (slice_index_or (program_of net p) k Unknown) (net_good net ok p k h l));
        }
