-- `durations::judge` meets its contract: the durations so far are within the budgets.
use Rattle.timed.proofs.TimedLoops.{Within}
use Rattle.timed.proofs.durations.judge.Given as goal

abbrev pub invariant-loop-j : goal.invariant-loop-j
invariant-loop-j l = Within l.jobs l.durations l.j
