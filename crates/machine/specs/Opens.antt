-- One name that opens all the definitions of a job, for examples that are computed: `unfolding machine_definitions`.
use Rattle.reply.specs.Result.{in_order}
use Rattle.graph.specs.Opens.{graph_definitions}
use Rattle.machine.specs.State.{after_read, after_write}
use Rattle.machine.specs.Actions.{decode, effect, output_after, skipped}
use Rattle.machine.specs.WholeJob.{go_on, whole_job}
use Rattle.machine.specs.Samples.{sample_at, good_sample, ok_samples}

unfoldable pub machine_definitions : Type 1
unfolding graph_definitions in_order after_read after_write decode effect output_after skipped go_on whole_job sample_at good_sample ok_samples
machine_definitions = Type 0
