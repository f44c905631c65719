-- A network: its processes, pairs, channels and programs as lists. And as the struct: counts, and zero in all fields past them.
use Rattle.std.specs.Prelude.{ℕ, ◌+◌, ◌*◌, List, [], ◌∷◌, map, length, get_or, take, replicate}
use Rattle.network.specs.Lists.{table, each_of, fill_to}
use Rattle.network.specs.Frame.{no_process}
use Rattle.network.specs.Pairs.{no_pair}
use Rattle.network.specs.declared.Process.{Process}
use Rattle.network.specs.declared.Pair.{Pair}
use Rattle.network.specs.declared.Channel.{Channel}
use Rattle.network.specs.declared.Four.{Four}
use Rattle.network.specs.declared.Network.{Network}

pub record Net : Type 0 where
  pub processes : List Process
  pub pairs : List Pair
  pub channels : List Channel
  pub programs : List (List Four)

abbrev pub no_channel : Channel
no_channel = record { kind = 0; writer = 0; reader = 0; capacity = 0 }

abbrev pub no_four : Four
no_four = record { head = 0; a = 0; b = 0; c = 0 }

-- the numbers of each kind of record, in the order of the file
abbrev pub process_fields : Process → List ℕ
process_fields p = p.period ∷ p.burst ∷ p.deadline ∷ p.budget ∷ []

abbrev pub pair_fields : Pair → List ℕ
pair_fields p = p.higher ∷ p.lower ∷ []

abbrev pub channel_fields : Channel → List ℕ
channel_fields c = c.kind ∷ c.writer ∷ c.reader ∷ c.capacity ∷ []

abbrev pub four_fields : Four → List ℕ
four_fields f = f.head ∷ f.a ∷ f.b ∷ f.c ∷ []

-- the programs one after another, each with room for 24 actions of four numbers
abbrev pub program_room : List Four → List ℕ
program_room program = fill_to 96 0 (each_of four_fields program)

abbrev pub lengths : List (List Four) → List ℕ
lengths programs = map (λ (p : List Four). length p) programs

-- the struct of a network
unfoldable pub fill : Net → Network
fill net = record {
  process_count = length net.processes;
  processes = fill_to 12 no_process net.processes;
  pair_count = length net.pairs;
  pairs = fill_to 66 no_pair net.pairs;
  channel_count = length net.channels;
  channels = fill_to 16 no_channel net.channels;
  action_counts = fill_to 12 0 (lengths net.programs);
  actions = fill_to 1152 0 (each_of program_room net.programs);
}

abbrev pub no_network : Network
no_network = record {
  process_count = 0;
  processes = replicate 12 no_process;
  pair_count = 0;
  pairs = replicate 66 no_pair;
  channel_count = 0;
  channels = replicate 16 no_channel;
  action_counts = replicate 12 0;
  actions = replicate 1152 0;
}

-- the four numbers of action k of process p
abbrev pub four_at : List ℕ → ℕ → ℕ → Four
four_at actions p k = record {
  head = get_or actions (96 * p + 4 * k) 0;
  a = get_or actions (96 * p + 4 * k + 1) 0;
  b = get_or actions (96 * p + 4 * k + 2) 0;
  c = get_or actions (96 * p + 4 * k + 3) 0;
}

-- the first actions of process p
unfoldable pub program_at : List ℕ → ℕ → ℕ → List Four
program_at actions count p = take count (table 24 (λ k. four_at actions p k))

-- the network of a struct: what stands within the counts
unfoldable pub within : Network → Net
within n = record {
  processes = take n.process_count n.processes;
  pairs = take n.pair_count n.pairs;
  channels = take n.channel_count n.channels;
  programs = take n.process_count (table 12 (λ p. program_at n.actions (get_or n.action_counts p 0) p));
}
