-- What an accepted network is, in plain words.
use Rattle.std.specs.Prelude.{ℕ, ◌+◌, ◌≤◌, ◌<◌, ◌^◌, ◌≡◌, ◌≢◌, ◌⊎◌, true, List, [], length, get_or}
use Rattle.network.specs.Chains.{Chain}
use Rattle.network.specs.Frame.{process_at, frame_length, job_count}
use Rattle.network.specs.Pairs.{no_pair, is_pair}
use Rattle.network.specs.Net.{Net, no_channel, no_four}
use Rattle.network.specs.Read.{most_capacity}
use Rattle.network.specs.declared.Process.{Process}
use Rattle.network.specs.declared.Pair.{Pair}
use Rattle.network.specs.declared.Channel.{Channel}
use Rattle.network.specs.declared.Four.{Four}

pub record GoodProcess (p : Process) : Type 0 where
  pub period : (1 ≤ p.period) × (p.period ≤ 1000)
  pub burst : (1 ≤ p.burst) × (p.burst ≤ 4)
  pub deadline : (1 ≤ p.deadline) × (p.deadline ≤ p.period)
  pub budget : (1 ≤ p.budget) × (p.budget ≤ p.deadline)

pub record GoodPair (n : ℕ) (p : Pair) : Type 0 where
  pub higher : p.higher < n
  pub lower : p.lower < n
  pub apart : p.higher ≢ p.lower

pub record GoodChannel (n : ℕ) (pairs : List Pair) (c : Channel) : Type 0 where
  pub kind : c.kind ≤ 1
  pub capacity : (1 ≤ c.capacity) × (c.capacity ≤ most_capacity c.kind)
  pub writer : c.writer < n
  pub reader : c.reader < n
  pub apart : c.writer ≢ c.reader
  pub pair : (is_pair pairs c.writer c.reader ≡ true) ⊎ (is_pair pairs c.reader c.writer ≡ true)

-- the four numbers of action k of n of process p
pub record GoodAction (channels : List Channel) (p n k : ℕ) (f : Four) : Type 0 where
  pub known : f.head < 8
  pub set : f.head ≡ 0 → (f.a < 8) × (f.c ≡ 0)
  pub add : f.head ≡ 1 → (f.a < 8) × (f.b < 8) × (f.c < 8)
  pub subtract : f.head ≡ 2 → (f.a < 8) × (f.b < 8) × (f.c < 8)
  pub read : f.head ≡ 3 → ((f.a < length channels) × ((get_or channels f.a no_channel).reader ≡ p)) × (f.b < 8) × (f.c < 8)
  pub write : f.head ≡ 4 → ((f.a < length channels) × ((get_or channels f.a no_channel).writer ≡ p)) × (f.b < 8) × (f.c ≡ 0)
  pub input : f.head ≡ 5 → (f.a < 8) × (f.b < 8) × (f.c ≡ 0)
  pub output : f.head ≡ 6 → (f.a < 8) × (f.b ≡ 0) × (f.c ≡ 0)
  pub skip : f.head ≡ 7 → (f.a < 8) × ((1 ≤ f.b) × (k + 1 + f.b ≤ n)) × (f.c ≡ 0)
  -- the number that action 0 sets
  pub number : f.b < 2 ^ 32

pub record Valid (net : Net) : Type 0 where
  pub process_count : (1 ≤ length net.processes) × (length net.processes ≤ 12)
  pub processes : (p : ℕ) → p < length net.processes → GoodProcess (process_at net.processes p)
  pub frame : frame_length net.processes ≤ 2000
  pub jobs : job_count net.processes ≤ 128
  pub pair_count : length net.pairs ≤ 66
  pub pairs : (k : ℕ) → k < length net.pairs → GoodPair (length net.processes) (get_or net.pairs k no_pair)
  pub once : (i k : ℕ) → i < k → k < length net.pairs → get_or net.pairs i no_pair ≢ get_or net.pairs k no_pair
  pub no_cycle : (a : ℕ) → ¬ (Chain (is_pair net.pairs) a a)
  pub channel_count : length net.channels ≤ 16
  pub channels : (k : ℕ) → k < length net.channels → GoodChannel (length net.processes) net.pairs (get_or net.channels k no_channel)
  pub programs : length net.programs ≡ length net.processes
  pub action_count : (p : ℕ) → p < length net.programs → length (get_or net.programs p []) ≤ 24
  pub actions : (p k : ℕ) → p < length net.programs → k < length (get_or net.programs p [])
      → GoodAction net.channels p (length (get_or net.programs p [])) k (get_or (get_or net.programs p []) k no_four)
