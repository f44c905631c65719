-- One name that opens all the definitions of plans, for examples that are computed: `unfolding plan_definitions`.
use Rattle.reply.specs.Tools.{pick}
use Rattle.reply.specs.Result.{in_order}
use Rattle.graph.specs.Opens.{graph_definitions}
use Rattle.plan.specs.Greatest.{greatest}
use Rattle.plan.specs.Plan.{nothing_placed, can_place, chosen, ready_at, start_after, earliest, place_at, place_on, place_job, placing, planned_by, overlap, too_soon, fault, checked_by, plan_work, plan_call, plan_filled, check_work, check_call}

unfoldable pub plan_definitions : Type 1
unfolding pick in_order graph_definitions greatest nothing_placed can_place chosen ready_at start_after earliest place_at place_on place_job placing planned_by overlap too_soon fault checked_by plan_work plan_call plan_filled check_work check_call
plan_definitions = Type 0
