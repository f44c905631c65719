use Rattle.std.proofs.Common.{arith, rules}
use Rattle.number.proofs.Writing.{begin, room, turn, done}
use Rattle.number.proofs.put_groups.Goals as goal

pub loop-rest-init : goal.loop-rest-init
loop-rest-init c = (4, begin _ _ _ (search rules))

pub bounds-out-at : goal.bounds-out-at
bounds-out-at c = omega (arith, room c.loop-rest.invariant.1)

pub loop-rest-preserved : goal.loop-rest-preserved
loop-rest-preserved c = turn _ c.loop-rest.invariant.1 c.loop-rest-test.true

pub bounds-out-at-2 : goal.bounds-out-at-2
bounds-out-at-2 c = omega (arith, room c.loop-rest.invariant.1)

pub returns : goal.returns
returns c =
    let told = done c.loop-rest.invariant.1 c.loop-rest-test.false in
    record { value = told.0; out_after = told.1 }
