-- One name that opens all the definitions of the turn run, for examples that are computed: `unfolding turn_definitions`.
use Rattle.machine.specs.Opens.{machine_definitions}
use Rattle.plan.specs.Opens.{plan_definitions}
use Rattle.promises.specs.Turns.{next_frame, finishes, goes_on, comes_to, waits, next_job, is_ready, starts, acts, turn_on, turn, turns, at_start, ok_turns, turn_work, turn_call}
use Rattle.turns.specs.Turned.{turned_of, turn_filled}

unfoldable pub turn_definitions : Type 1
unfolding machine_definitions plan_definitions next_frame finishes goes_on comes_to waits next_job is_ready starts acts turn_on turn turns at_start ok_turns turn_work turn_call turned_of turn_filled
turn_definitions = Type 0
