-- What "all else zero" says of each result, field by field.
use Rattle.std.specs.Prelude.{◌≡◌, replicate}
use Rattle.network.specs.declared.Network.{Network}
use Rattle.graph.specs.declared.Framed.{Framed}
use Rattle.graph.specs.declared.PrecedenceGraph.{PrecedenceGraph}
use Rattle.zero_delay.specs.declared.Ran.{Ran}

-- of the reader's result
pub record NoNetwork (n : Network) : Type 0 where
  pub process_count : n.process_count ≡ 0
  pub processes : n.processes ≡ replicate 12 (record { period = 0; burst = 0; deadline = 0; budget = 0 })
  pub pair_count : n.pair_count ≡ 0
  pub pairs : n.pairs ≡ replicate 66 (record { higher = 0; lower = 0 })
  pub channel_count : n.channel_count ≡ 0
  pub channels : n.channels ≡ replicate 16 (record { kind = 0; writer = 0; reader = 0; capacity = 0 })
  pub action_counts : n.action_counts ≡ replicate 12 0
  pub actions : n.actions ≡ replicate 1152 0

-- of the frame
pub record NoFrame (r : Framed) : Type 0 where
  pub network : NoNetwork r.network
  pub frame : r.frame ≡ 0
  pub job_count : r.job_count ≡ 0
  pub jobs : r.jobs ≡ replicate 128 (record { process = 0; release = 0; deadline = 0; budget = 0 })
  pub before : r.before ≡ replicate 128 (record { low = 0; high = 0 })

-- of the graph
pub record NoGraph (r : PrecedenceGraph) : Type 0 where
  pub job_count : r.job_count ≡ 0
  pub frame : r.frame ≡ 0
  pub edges : r.edges ≡ 0
  pub jobs : r.jobs ≡ replicate 128 (record { process = 0; release = 0; deadline = 0; budget = 0 })
  pub rows : r.rows ≡ replicate 128 (record { low = 0; high = 0 })

-- of the zero-delay run
pub record NoRun (r : Ran) : Type 0 where
  pub variables : r.variables ≡ replicate 96 0
  pub channels : r.channels ≡ replicate 16 (record { number = 0; values = replicate 8 0; loss = 0 })
