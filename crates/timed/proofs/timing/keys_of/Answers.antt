-- `timing::keys_of` meets its contract.
use Rattle.std.proofs.Common.{arith}
use Rattle.timed.proofs.TimedKeys.{no_keys, one_key, all_keys}
use Rattle.timed.proofs.timing.keys_of.Goals as goal

pub loop-j-init : goal.loop-j-init
loop-j-init c = no_keys _

pub loop-j-preserved : goal.loop-j-preserved
loop-j-preserved c = one_key c.loop-j.invariant (omega (arith, c.loop-j-test.true, c.requires.few))

pub returns : goal.returns
returns c = all_keys c.loop-j.invariant _ c.loop-j.auto.j-end c.loop-j-test.false
