-- `processes::read_list` meets its contract: what was read before a record does not matter.
use Rattle.std.proofs.Common.{rules, ap, ◌∙◌}
use Rattle.number.specs.Told.{part_told}
use Rattle.network.specs.Read.{one_process}
use Rattle.reader.proofs.Lists.{process_any}
use Rattle.reader.proofs.processes.read_list.Goals as goal

pub returns : goal.returns
returns c = c.read_list.ensures (one_process c.args.file.now) (record { each = λ before at r fits gives. search rules ∙ ap part_told (process_any c.args.file.now before at) })
