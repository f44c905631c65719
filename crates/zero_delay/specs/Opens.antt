-- One name that opens all the definitions of the zero-delay run, for examples that are computed: `unfolding run_definitions`.
use Rattle.machine.specs.Opens.{machine_definitions}
use Rattle.zero_delay.specs.ZeroDelay.{jobs_done, ran_jobs, run_work, zero_delay, ran_of, filled_by}

unfoldable pub run_definitions : Type 1
unfolding machine_definitions jobs_done ran_jobs run_work zero_delay ran_of filled_by
run_definitions = Type 0
