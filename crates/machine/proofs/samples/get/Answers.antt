-- `samples::get` meets its contract.
use Rattle.std.proofs.Common.{rules}
use Rattle.machine.specs.Samples.{sample_at}
use Rattle.machine.proofs.samples.get.Goals as goal

pub returns : goal.returns
unfolding sample_at
returns c = search rules
