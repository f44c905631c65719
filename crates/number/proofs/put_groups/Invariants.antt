-- `number::put_groups` meets its contract. The loop's invariant is `Writing`; the measure, what is left of the number.
use Rattle.std.proofs.Common.{ℕ}
use Rattle.number.proofs.Writing.{Writing}
use Rattle.number.proofs.put_groups.Given as goal

abbrev pub invariant-loop-rest : goal.invariant-loop-rest
invariant-loop-rest l = (more : ℕ) × Writing l.initial.out l.from l.n l.out l.rest l.at more

abbrev pub decreases-loop-rest : goal.decreases-loop-rest
decreases-loop-rest l = l.rest
