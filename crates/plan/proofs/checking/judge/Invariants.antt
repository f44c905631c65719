-- `checking::judge` meets its contract: job after job, and each against the lower ones; a fault leaves both loops.
use Rattle.plan.proofs.CheckLoops.{Passed, Held}
use Rattle.plan.proofs.checking.judge.Given as goal

abbrev pub invariant-loop-i : goal.invariant-loop-i
invariant-loop-i l = Held l.jobs l.rows l.n l.processors l.plan l.j l.soon l.i

abbrev pub invariant-loop-j : goal.invariant-loop-j
invariant-loop-j l = Passed l.jobs l.rows l.n l.processors l.plan l.j
