-- One name that opens all the definitions of the graph, for examples that are computed: `unfolding graph_definitions`.
use Rattle.network.specs.Opens.{file_definitions}
use Rattle.marks.specs.Row.{marked, word_of, row_of}
use Rattle.graph.specs.Order.{comes_before, related}
use Rattle.graph.specs.Sequence.{released_now, is_free, next_free, take_jobs, jobs_released, sequence_to}
use Rattle.graph.specs.Work.{precedes_by, work_of, load_work}
use Rattle.graph.specs.Graph.{stays_by, reduction_of, edges_of, edge_count, rows_from, rows_to, frame_file, graph_file}

unfoldable pub graph_definitions : Type 1
unfolding file_definitions marked word_of row_of comes_before related released_now is_free next_free take_jobs jobs_released sequence_to precedes_by work_of load_work stays_by reduction_of edges_of edge_count rows_from rows_to frame_file graph_file
graph_definitions = Type 0
