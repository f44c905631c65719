-- What the code is sure of where it takes things to be good.
use Rattle.std.specs.Prelude.{ℕ, ◌≤◌, ◌<◌, ◌≡◌, Bool, true, not, ◌&&◌, List, length, get_or, leb}
use Rattle.std.specs.List.{list_all, range_with_len}
use Rattle.marks.specs.declared.Row.{Row}
use Rattle.network.specs.Frame.{no_process, fits_frame}
use Rattle.network.specs.Pairs.{no_pair, good_pair, cyclic}
use Rattle.network.specs.Net.{no_channel, four_at, program_at, within}
use Rattle.network.specs.Read.{most_capacity, good_action}
use Rattle.network.specs.Told.{pair_rows, ends_by}
use Rattle.network.specs.Valid.{GoodProcess, GoodChannel}
use Rattle.network.specs.declared.Process.{Process}
use Rattle.network.specs.declared.Pair.{Pair}
use Rattle.network.specs.declared.Channel.{Channel}
use Rattle.network.specs.declared.Network.{Network}
use Rattle.roundtrip.specs.Exactly.{Goods}
use Rattle.roundtrip.specs.Kinds.{GoodProgram}

-- ---- processes, pairs and channels

pub record Few (n k w : ℕ) : Type 0 where
  pub processes : (1 ≤ n) × (n ≤ 12)
  pub pairs : k ≤ 66
  pub channels : w ≤ 16

-- every field of a process in its range
abbrev pub good_process : Process → Bool
good_process p =
    (leb 1 p.period && leb p.period 1000)
    && ((leb 1 p.burst && leb p.burst 4) && ((leb 1 p.deadline && leb p.deadline p.period) && (leb 1 p.budget && leb p.budget p.deadline)))

-- a pair of n processes, after others
abbrev pub NewPair : ℕ → List Pair → Pair → Type 0
NewPair n earlier p = good_pair n earlier p.higher p.lower ≡ true

-- pairs, and their rows of marks
pub record PairsMarked (n : ℕ) (pairs : List Pair) (rows : List Row) : Type 0 where
  pub good : Goods no_pair (NewPair n) (length pairs) pairs
  pub marks : rows ≡ pair_rows pairs

-- a channel whose ends are judged by rows
abbrev pub good_channel : ℕ → List Row → Channel → Bool
good_channel n rows c = leb c.kind 1 && ((leb 1 c.capacity && leb c.capacity (most_capacity c.kind)) && ends_by n rows c.writer c.reader)

pub record GoodEnds (n : ℕ) (pairs : List Pair) (channels : List Channel) : Type 0 where
  pub pairs_good : Goods no_pair (NewPair n) (length pairs) pairs
  pub acyclic : not (cyclic n pairs) ≡ true
  pub channels_good : Goods no_channel (λ earlier. GoodChannel n pairs) (length channels) channels

-- ---- programs

-- the program of process p, of so many actions
abbrev pub good_program : List Channel → ℕ → ℕ → List ℕ → Bool
good_program channels p count actions = leb count 24 && list_all (λ k. good_action channels p count k (four_at actions p k)) (range_with_len 0 count)

pub record ProgramGood (channels : List Channel) (p count : ℕ) (actions : List ℕ) : Type 0 where
  pub few : count ≤ 24
  pub good : GoodProgram channels p (program_at actions count p)

-- ---- the whole

pub record GoodNetwork (s : Network) : Type 0 where
  pub few : Few s.process_count s.pair_count s.channel_count
  pub sizes : (length (within s).processes ≡ s.process_count) × (length (within s).pairs ≡ s.pair_count) × (length (within s).channels ≡ s.channel_count)
  pub processes : Goods no_process (λ earlier. GoodProcess) (length (within s).processes) (within s).processes
  pub fits : fits_frame (within s).processes ≡ true
  pub ends : GoodEnds s.process_count (within s).pairs (within s).channels
  pub programs : (p : ℕ) → p < s.process_count → ProgramGood (within s).channels p (get_or s.action_counts p 0) s.actions
