-- What the entry points know of a network that was read.
use Rattle.std.specs.Prelude.{◌≡◌, take}
use Rattle.network.specs.Frame.{frame_length}
use Rattle.network.specs.AheadTold.{AheadTold}
use Rattle.network.specs.Net.{Net, fill, within}
use Rattle.network.specs.Valid.{Valid}
use Rattle.network.specs.declared.Network.{Network}
use Rattle.graph.specs.Order.{row_relation}
use Rattle.graph.specs.Sequence.{sequence_to}
use Rattle.graph.specs.SequenceTold.{HoldsJobs}
use Rattle.graph.specs.declared.Sequenced.{Sequenced}

-- the struct of a valid network
pub record Accepted (network : Network) : Type 0 where
  pub net : Net
  pub valid : Valid net
  pub is : network ≡ fill net

-- the frame of a network in sequence: its length, which process comes before which, and its jobs
pub record IsSequenced (network : Network) (r : Sequenced) : Type 0 where
  pub frame : r.frame ≡ frame_length (within network).processes
  pub ahead : AheadTold network r.ahead
  pub table : HoldsJobs (sequence_to (take network.process_count network.processes) (row_relation network.process_count r.ahead) r.frame) r.table
