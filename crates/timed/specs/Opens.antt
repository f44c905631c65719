-- One name that opens all the definitions of the timed run, for examples that are computed: `unfolding timed_definitions`.
use Rattle.network.specs.Lists.{table}
use Rattle.plan.specs.Opens.{plan_definitions}
use Rattle.timed.specs.Timed.{is_earlier, job_before, start_is, ends_after, times_to, times_of, ok_durations, ok_timed, timed_work, timed_call}

unfoldable pub timed_definitions : Type 1
unfolding table plan_definitions is_earlier job_before start_is ends_after times_to times_of ok_durations ok_timed timed_work timed_call
timed_definitions = Type 0
