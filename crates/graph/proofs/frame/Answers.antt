-- `frame` meets its contract.
use Rattle.std.proofs.Common.{◌∙◌}
use Rattle.graph.specs.FileLaws.{read_accepted, frame_done}
use Rattle.graph.proofs.Answered.{ok_zero, no_frame}
use Rattle.graph.proofs.frame.Goals as goal

pub frame_work-requires : goal.frame_work-requires
frame_work-requires c = read_accepted _ _ c.read.ensures (ok_zero _ c.in-Ok.ensures)

pub returns-in-Ok : goal.returns-in-Ok
returns-in-Ok c = c.frame_work.ensures ∙ frame_done _ _ c.read.ensures (ok_zero _ c.in-Ok.ensures)

pub returns-in-Err : goal.returns-in-Err
returns-in-Err c = no_frame _ _ _ _ _ c.read.ensures c.in-Err.ensures c.from.ensures c.empty-before.ensures
