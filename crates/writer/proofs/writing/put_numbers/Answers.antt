use Rattle.std.proofs.Common.{arith, refl, sym, take_all}
use Rattle.writer.proofs.Laying.{none, join, told, take_more}
use Rattle.writer.proofs.writing.put_numbers.Goals as goal

pub loop-n-init : goal.loop-n-init
loop-n-init c = none _ _ _ refl

pub put_number-at-requires : goal.put_number-at-requires
put_number-at-requires c = omega (arith, c.loop-n.invariant.near)

pub loop-n-preserved : goal.loop-n-preserved
loop-n-preserved c = told (join c.loop-n.invariant c.put_number-at.ensures) (sym (take_more 0 _ _ c.loop-n-test.true)) (omega arith)

pub returns : goal.returns
returns c = told c.loop-n.invariant (take_all _ _ c.loop-n-test.false) (omega arith)
