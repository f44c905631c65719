-- `timing::choose` meets its contract.
use Rattle.std.proofs.Common.{rules, ◌<◌, ◌≡◌, ◌≤◌}
use Rattle.timed.proofs.TimedKeys.{LeastSo, least_step, least_chosen}
use Rattle.timed.proofs.timing.choose.Goals as goal

pub loop-key-preserved : goal.loop-key-preserved
loop-key-preserved c =
    let below : c.loop-key.key-index < 128 = search rules in
    rw c.min-least.ensures (least_step _ c.loop-key.invariant below)

pub returns : goal.returns
returns c =
    let past : 128 ≤ c.loop-key.key-index = search rules in
    let all : c.loop-key.key-index ≡ 128 = search rules in
    let so_far : LeastSo c.args.keys.now c.loop-key.least 128 = rw all at c.loop-key.invariant in
    least_chosen so_far
