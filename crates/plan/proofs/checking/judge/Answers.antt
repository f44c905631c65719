use Rattle.std.proofs.Common.{arith, sym, ◌∙◌}
use Rattle.plan.proofs.CheckLoops.{start, finish, lower_end, found_own, end_small, hold, found_overlap, hold_more, hold_past, found_soon, pass, judged_by}
use Rattle.plan.proofs.checking.judge.Goals as goal
use Rattle.plan.proofs.checking.judge.Goals.{then-loop-j-test+in-Some, then-loop-j-test+in_default+then-loop-i-test+else-lower-stay+then-overlaps, then-loop-j-test+in_default+else-loop-i-test+then-soon, else-loop-j-test}

pub loop-j-init : goal.loop-j-init
loop-j-init c = start

pub stay_of-stay-requires : goal.stay_of-stay-requires
stay_of-stay-requires c = record {
  there = omega (arith, c.loop-j-test.true, c.requires.there);
  fits = omega (arith, end_small c.loop-j.invariant c.loop-j-test.true (sym c.own_fault.ensures ∙ c.in_default.is) c.requires);
}

pub loop-i-init : goal.loop-i-init
loop-i-init c = hold c.loop-j.invariant c.loop-j-test.true (sym c.own_fault.ensures ∙ c.in_default.is)

pub stay_of-lower-requires : goal.stay_of-lower-requires
stay_of-lower-requires c = record {
  there = omega (arith, c.loop-i-test.true, c.loop-j-test.true, c.requires.there);
  fits = omega (arith, lower_end c.loop-i.invariant.so_far c.requires c.loop-i.i (omega (arith, c.loop-i-test.true)));
}

pub loop-i-preserved : goal.loop-i-preserved
loop-i-preserved c = hold_more c.loop-i.invariant (omega (arith, c.loop-i-test.true)) c.stay_of-lower.ensures c.stay_of-stay.ensures c.overlaps.ensures c.if-overlaps.false c.has.ensures c.too_soon-soon.ensures

pub loop-i-preserved-then-lower-stay : goal.loop-i-preserved-then-lower-stay
loop-i-preserved-then-lower-stay c = hold_past c.loop-i.invariant (omega (arith, c.loop-i-test.true)) c.stay_of-lower.ensures c.stay_of-stay.ensures c.if-lower-stay.true

pub loop-j-preserved : goal.loop-j-preserved
loop-j-preserved c = pass c.loop-i.invariant c.loop-i-test.false c.if-soon.false

-- no fault, one of its own, an overlap, or a start too soon
pub returns-in-Some-fault : goal.returns-in-Some-fault
returns-in-Some-fault c =
    judged_by c.in-Some-fault.is (elim c.loop-j-test.branch [
      | then-loop-j-test+in-Some w ↦ rw w.fault-is (found_own c.loop-j.invariant w.loop-j-test.true (sym w.own_fault.ensures ∙ w.in-Some.is))
      | then-loop-j-test+in_default+then-loop-i-test+else-lower-stay+then-overlaps w ↦ rw w.fault-is (found_overlap w.loop-i.invariant (omega (arith, w.loop-i-test.true)) w.stay_of-lower.ensures w.stay_of-stay.ensures w.overlaps.ensures w.if-overlaps.true)
      | then-loop-j-test+in_default+else-loop-i-test+then-soon w ↦ rw w.fault-is (found_soon w.loop-i.invariant w.loop-i-test.false w.if-soon.true)
      | else-loop-j-test w ↦ rw w.fault-is (finish c.loop-j.invariant w.loop-j-test.false)
    ])

pub returns-in-None : goal.returns-in-None
returns-in-None c =
    judged_by c.in-None.is (elim c.loop-j-test.branch [
      | then-loop-j-test+in-Some w ↦ rw w.fault-is (found_own c.loop-j.invariant w.loop-j-test.true (sym w.own_fault.ensures ∙ w.in-Some.is))
      | then-loop-j-test+in_default+then-loop-i-test+else-lower-stay+then-overlaps w ↦ rw w.fault-is (found_overlap w.loop-i.invariant (omega (arith, w.loop-i-test.true)) w.stay_of-lower.ensures w.stay_of-stay.ensures w.overlaps.ensures w.if-overlaps.true)
      | then-loop-j-test+in_default+else-loop-i-test+then-soon w ↦ rw w.fault-is (found_soon w.loop-i.invariant w.loop-i-test.false w.if-soon.true)
      | else-loop-j-test w ↦ rw w.fault-is (finish c.loop-j.invariant w.loop-j-test.false)
    ])
