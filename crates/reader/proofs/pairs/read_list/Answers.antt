use Rattle.std.proofs.Common.{arith, rules, refl}
use Rattle.reader.proofs.PairRows.{begin, place, again, twice, cut}
use Rattle.reader.proofs.pairs.read_list.Goals as goal

pub loop-i-init : goal.loop-i-init
loop-i-init c = begin _ _ _ _ _ refl c.no_rows-rows.ensures

pub returns-in_err-pair : goal.returns-in_err-pair
returns-in_err-pair c = let inv = c.loop-i.invariant in search (rules, cut inv)

pub bounds-rows-higher : goal.bounds-rows-higher
bounds-rows-higher c = omega (arith, place c.loop-i.invariant c.requires.0 c.in_ok-pair.ensures)

pub returns-then-has : goal.returns-then-has
returns-then-has c = rw (c.bad_pair.ensures, twice c.loop-i.invariant c.requires.0 c.in_ok-pair.ensures c.has.ensures c.if-has.true _ c.loop-i-test.true)

pub bounds-rows-higher-in-loop-i : goal.bounds-rows-higher-in-loop-i
bounds-rows-higher-in-loop-i c = omega (arith, place c.loop-i.invariant c.requires.0 c.in_ok-pair.ensures)

pub bounds-rows-higher-in-loop-i-2 : goal.bounds-rows-higher-in-loop-i-2
bounds-rows-higher-in-loop-i-2 c = omega (arith, place c.loop-i.invariant c.requires.0 c.in_ok-pair.ensures)

pub loop-i-preserved : goal.loop-i-preserved
loop-i-preserved c = rw c.with.ensures (again c.loop-i.invariant c.requires.0 c.in_ok-pair.ensures c.has.ensures c.if-has.false (omega arith))
