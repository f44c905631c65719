-- `timing::time_all` meets its contract: job after job is timed, and the keys tell which are not.
use Rattle.timed.specs.TimedTold.{lent, KeysTell}
use Rattle.timed.proofs.TimedLoops.{Going}
use Rattle.timed.proofs.timing.time_all.Given as goal

abbrev pub invariant-loop : goal.invariant-loop
invariant-loop l = Going (lent l.framed l.plan l.durations) l.timing l.counter × KeysTell l.timing.jobs l.plan l.framed.job_count l.keys
