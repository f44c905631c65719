-- `judge` meets its contract.
use Rattle.std.proofs.Common.{◌∙◌}
use Rattle.writer.proofs.EntryPoint.{judged_as}
use Rattle.writer.proofs.judge.Goals as goal

pub returns : goal.returns
returns c = c.ok.ensures ∙ judged_as _ _ c.read.ensures
