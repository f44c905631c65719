use Rattle.std.proofs.Common.{arith, rules, ◌%◌, ◌-◌, ◌+◌, ◌≡◌}
use Rattle.number.proofs.Reading.{cut, last_group, turn, middle_fits}
use Rattle.number.proofs.read_rest.Goals as goal

pub returns-in_err-b : goal.returns-in_err-b
returns-in_err-b c = search (rules, cut)

pub overflow_mul-value : goal.overflow_mul-value
overflow_mul-value c = omega (arith, middle_fits (c.in_ok-b.b % 128) _ c.loop.invariant (omega arith) (omega arith))

pub overflow_add-value : goal.overflow_add-value
overflow_add-value c = omega (arith, middle_fits (c.in_ok-b.b % 128) _ c.loop.invariant (omega arith) (omega arith))

pub returns-then-b-lt128 : goal.returns-then-b-lt128
returns-then-b-lt128 c = last_group c.in_ok-b.ensures _ c.loop.invariant (omega arith) c.if-b-lt128.true

pub overflow_mul-scale : goal.overflow_mul-scale
overflow_mul-scale c = omega (arith, middle_fits 0 _ c.loop.invariant (omega arith) (omega arith))

pub loop-preserved : goal.loop-preserved
loop-preserved c =
    let less : 3 - (c.loop.counter + 1) ≡ 3 - c.loop.counter - 1 = omega arith in
    rw less (turn c.in_ok-b.ensures _ c.loop.invariant (omega arith) c.if-b-lt128.false)
