-- The run that a call is of.
use Rattle.std.specs.Prelude.{ℕ, List}
use Rattle.network.specs.Net.{Net}
use Rattle.graph.specs.Work.{work_of}
use Rattle.promises.specs.Turns.{Run}

-- the run of a call on a network
abbrev pub run_of : Net → ℕ → List ℕ → List ℕ → Run
run_of net frames plan input = record { work = work_of net; asked = frames; plan = plan; input = input }
