-- `samples::judge` meets its contract: the samples so far are good.
use Rattle.std.proofs.Common.{◌≡◌}
use Rattle.reply.specs.Result.{done}
use Rattle.machine.specs.Samples.{ok_samples}
use Rattle.machine.proofs.samples.judge.Given as goal

abbrev pub invariant-loop-k : goal.invariant-loop-k
invariant-loop-k l = ok_samples l.k l.input ≡ done tt
