-- `graph` meets its contract.
use Rattle.std.proofs.Common.{◌∙◌}
use Rattle.graph.specs.FileLaws.{read_accepted, graph_done}
use Rattle.graph.proofs.Answered.{ok_zero, no_graph}
use Rattle.graph.proofs.graph.Goals as goal

pub graph_work-requires : goal.graph_work-requires
graph_work-requires c = read_accepted _ _ c.read-loaded.ensures (ok_zero _ c.in-Ok.ensures)

pub returns-in-Ok : goal.returns-in-Ok
returns-in-Ok c = c.graph_work.ensures ∙ graph_done _ _ c.read-loaded.ensures (ok_zero _ c.in-Ok.ensures)

pub returns-in-Err : goal.returns-in-Err
returns-in-Err c = no_graph _ _ _ _ _ c.read-loaded.ensures c.in-Err.ensures c.from.ensures c.empty-rows.ensures
