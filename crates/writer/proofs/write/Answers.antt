-- `write` meets its contract.
use Rattle.std.proofs.Common.{ap, ◌∙◌}
use Rattle.network.specs.Write.{wrote}
use Rattle.writer.specs.Laid.{written_of}
use Rattle.writer.proofs.EntryPoint.{told_written}
use Rattle.writer.proofs.write.Goals as goal

pub returns-clause-value : goal.returns-clause-value
unfolding wrote
returns-clause-value c = c.written.ensures ∙ ap written_of c.put.ensures.value ∙ told_written _
