-- `give` meets its contract.
use Rattle.std.proofs.Common.{ap, ◌∙◌}
use Rattle.writer.specs.Laid.{written_of}
use Rattle.writer.proofs.EntryPoint.{told_written}
use Rattle.writer.proofs.give.Goals as goal

pub returns-clause-value : goal.returns-clause-value
returns-clause-value c = c.written.ensures ∙ ap written_of c.fill.ensures.value ∙ told_written _
