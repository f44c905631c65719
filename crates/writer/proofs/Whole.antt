-- A network that is seen to be good: the reader accepts its bytes.
use Prim.Native.Nat.{ℕ, ◌+◌, ◌*◌, ◌≤◌, ◌<◌, ◌^◌, min}
use mathlib.Core.Path.{◌≡◌, refl, sym, ap, subst, ◌∙◌}
use mathlib.Core.Bool.{true, ◌&&◌}
use mathlib.Core.List.{List, []}
use native.Mathlib.Omega.{arith}
use lib.Dec.{leb}
use lib.ListN.{length, get_or}
use Rattle.std.proofs.Common.{leb-true}
use Rattle.std.specs.List.{list_all, range_with_len}
use Rattle.reply.specs.Tests.{both}
use Rattle.reply.specs.Result.{done}
use Rattle.network.specs.Lists.{table}
use Rattle.network.specs.ListLaws.{length_table}
use Rattle.network.specs.Frame.{no_process, fits_frame}
use Rattle.network.specs.Net.{no_four, four_at, program_at, within}
use Rattle.network.specs.Read.{good_action, load}
use Rattle.network.specs.Write.{fields, encode_network}
use Rattle.network.specs.Valid.{GoodProcess, GoodAction}
use Rattle.network.specs.declared.Process.{Process}
use Rattle.network.specs.declared.Channel.{Channel}
use Rattle.network.specs.declared.Four.{Four}
use Rattle.network.specs.declared.Network.{Network}
use Rattle.roundtrip.specs.Actions.{accepted_good}
use Rattle.roundtrip.specs.Exactly.{Goods}
use Rattle.roundtrip.specs.Kinds.{GoodProgram}
use Rattle.roundtrip.specs.Whole.{bytes_with, net_bytes, Tests, Passes, passes_load}
use Rattle.roundtrip.specs.Within.{program_length_lem, within_length, within_program}
use Rattle.roundtrip.specs.Fields.{Counts, bytes_of, program_bytes_lem}
use Rattle.writer.specs.Good.{Few, good_process, good_program, GoodEnds, ProgramGood, GoodNetwork}
use Rattle.writer.proofs.Laying.{take_table, programs_are}
use Rattle.writer.proofs.Passing.{goods_table, all_true, all_below}

-- ---- what the tests say

process_good : (p : Process) → good_process p ≡ true → GoodProcess p
process_good p e =
    let (a, e₁) = both (leb 1 p.period && leb p.period 1000) _ e in
    let (b, e₂) = both (leb 1 p.burst && leb p.burst 4) _ e₁ in
    let (c, d) = both (leb 1 p.deadline && leb p.deadline p.period) _ e₂ in
    record { period = between 1 p.period 1000 a; burst = between 1 p.burst 4 b; deadline = between 1 p.deadline p.period c; budget = between 1 p.budget p.deadline d }
  where
    between : (low n high : ℕ) → (leb low n && leb n high) ≡ true → (low ≤ n) × (n ≤ high)
    between low n high t = let (l, h) = both (leb low n) (leb n high) t in (leb-true low n l, leb-true n high h)

program_good : (channels : List Channel) (p count : ℕ) (actions : List ℕ) → ((i : ℕ) → get_or actions i 0 < 2 ^ 32) → good_program channels p count actions ≡ true → ProgramGood channels p count actions
unfolding program_at
program_good channels p count actions fit e =
    let four : ℕ → Four = λ k. four_at actions p k in
    let (t, u) = both (leb count 24) _ e in
    let few : count ≤ 24 = leb-true count 24 t in
    let program = table count four in
    let same : program_at actions count p ≡ program = take_table 24 four count few in
    let size : length program ≡ count = length_table count four in
    let each : (k : ℕ) → k < count → GoodAction channels p count k (four k) =
    λ k h. accepted_good channels p count k (four k) (all_below (λ k. good_action channels p count k (four k)) count u k h) (fit (96 * p + 4 * k + 2)) in
    let goods : Goods no_four (λ earlier f. GoodAction channels p count (length earlier) f) count program = goods_table no_four (λ earlier f. GoodAction channels p count (length earlier) f) count four
    (λ k h. rw (take_table count four k (omega arith), length_table k four) (each k h)) in
    record {
      few = few;
      good = rw same (record {
        count = omega (arith, size);
        actions = subst (λ (n : ℕ). Goods no_four (λ earlier f. GoodAction channels p n (length earlier) f) n program) (sym size) goods;
      });
    }

module _ (s : Network) where
  abbrev n : ℕ
  n = s.process_count

  abbrev k : ℕ
  k = s.pair_count

  abbrev w : ℕ
  w = s.channel_count

  abbrev program : ℕ → List Four
  program p = program_at s.actions (get_or s.action_counts p 0) p

  pub network_good : Few n k w → length (within s).processes ≡ min n 12 → length (within s).pairs ≡ min k 66 → length (within s).channels ≡ min w 16
      → list_all good_process (within s).processes ≡ true → fits_frame (within s).processes ≡ true
      → GoodEnds n (within s).pairs (within s).channels → ((i : ℕ) → get_or s.actions i 0 < 2 ^ 32)
      → list_all (λ p. good_program (within s).channels p (get_or s.action_counts p 0) s.actions) (range_with_len 0 n) ≡ true → GoodNetwork s
  network_good few size₁ size₂ size₃ ps fits ends fit gs = record {
    few = few;
    sizes = (omega (arith, few.processes.1), omega (arith, few.pairs), omega (arith, few.channels));
    processes = record { size = refl; good = λ i h. process_good (get_or (within s).processes i no_process) (all_true good_process (within s).processes no_process ps i h) };
    fits = fits;
    ends = ends;
    programs = λ p h. program_good (within s).channels p (get_or s.action_counts p 0) s.actions fit
        (all_below (λ p. good_program (within s).channels p (get_or s.action_counts p 0) s.actions) n gs p h);
  }

  module _ (g : GoodNetwork s) where
    programs_lem : table n program ≡ (within s).programs
    programs_lem = programs_are s n (omega (arith, g.few.processes.1))

    counted : Counts s.action_counts (within s).programs
    counted p h =
        let l : p < n = omega (arith, within_length s g.few.processes.1) in
        sym (ap length (within_program s p h) ∙ program_length_lem s.actions (get_or s.action_counts p 0) p (g.programs p l).few)

    tests : Tests n (length (within s).pairs) (length (within s).channels) (within s)
    tests = record {
      process_count = g.few.processes;
      processes = subst (λ a. Goods no_process (λ before. GoodProcess) a (within s).processes) g.sizes.0 g.processes;
      fits = g.fits;
      pair_count = (omega arith, omega (arith, g.sizes.1, g.few.pairs));
      pairs = g.ends.pairs_good;
      acyclic = g.ends.acyclic;
      channel_count = (omega arith, omega (arith, g.sizes.2, g.few.channels));
      channels = g.ends.channels_good;
      programs = subst (λ (ps : List (List Four)). Goods [] (λ before. GoodProgram (within s).channels (length before)) n ps) programs_lem
          (goods_table [] (λ before. GoodProgram (within s).channels (length before)) n program
          (λ p h. rw (take_table n program p (omega arith), length_table p program) (g.programs p h).good));
    }

    passes : Passes (within s)
    passes = subst (λ (a : ℕ). Tests a (length (within s).pairs) (length (within s).channels) (within s)) (sym g.sizes.0) tests

    bytes_are : encode_network s ≡ net_bytes (within s)
    unfolding encode_network fields
    bytes_are =
        bytes_of n k w (within s) _ (program_bytes_lem s.action_counts (within s).programs counted)
        ∙ (λ i. bytes_with (sym g.sizes.0 i) (sym g.sizes.1 i) (sym g.sizes.2 i) (within s))

    pub good_accepted : load (encode_network s) ≡ done (within s)
    good_accepted = passes_load (encode_network s) (within s) passes bytes_are
