-- `in_sequence` meets its contract.
use Rattle.std.proofs.Common.{arith}
use Rattle.graph.specs.EntryLaws.{few, fits}
use Rattle.graph.proofs.Slices.{slice_size, fits_lent, sizes_lent, holds_lent}
use Rattle.graph.proofs.in_sequence.Goals as goal

pub slice_bounds-ahead-end : goal.slice_bounds-ahead-end
slice_bounds-ahead-end c = omega (arith, few c.requires, slice_size c.requires c.processes-processes.ensures.value)

pub sequence-table-requires-clause-fits : goal.sequence-table-requires-clause-fits
sequence-table-requires-clause-fits c =
    fits_lent c.requires c.processes-processes.ensures.value _ (omega (arith, few c.requires)) _ (fits c.requires _ c.ahead_of-ahead.ensures c.frame_of-frame.ensures)

pub sequence-table-requires-clause-sizes : goal.sequence-table-requires-clause-sizes
sequence-table-requires-clause-sizes c = sizes_lent c.requires c.processes-processes.ensures.value _ (omega (arith, few c.requires)) c.frame_of-frame.result

pub returns : goal.returns
returns c = record {
  frame = c.frame_of-frame.ensures;
  ahead = c.ahead_of-ahead.ensures;
  table = holds_lent c.requires c.processes-processes.ensures.value _ (omega (arith, few c.requires)) _ _ c.sequence-table.ensures;
}
