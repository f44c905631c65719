use Rattle.std.proofs.Common.{rules}
use Rattle.std.proofs.lemmas.Result.{err_from_is_err_and}
use Rattle.reader.proofs.ActionLoop.{actions_start, actions_step, actions_bad, actions_not}
use Rattle.reader.proofs.programs.read_actions.Goals as goal

pub loop-k-init : goal.loop-k-init
loop-k-init c = actions_start _ _ _ _ _ _

pub returns-in_err-four : goal.returns-in_err-four
returns-in_err-four c =
    let p = err_from_is_err_and c.from_residual.result c.from_residual.ensures.1 in
    rw (p.1, p.2) (actions_not _ _ _ _ _ _ c.loop-k.invariant _ c.loop-k-test.true c.in_err-four.ensures)

pub returns-then-not-good_action : goal.returns-then-not-good_action
returns-then-not-good_action c = actions_bad _ _ _ _ _ _ c.loop-k.invariant c.in_ok-four.ensures c.named-channel.ensures c.good_action.ensures _ c.loop-k-test.true (search rules)

pub loop-k-preserved : goal.loop-k-preserved
loop-k-preserved c = actions_step _ _ _ _ _ _ c.loop-k.invariant c.in_ok-four.ensures c.named-channel.ensures c.good_action.ensures (search rules) c.store_four.ensures
