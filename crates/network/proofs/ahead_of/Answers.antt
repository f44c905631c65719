-- `ahead_of` meets its contract.
use Rattle.network.proofs.PairMarks.{ahead_within}
use Rattle.network.proofs.ahead_of.Goals as goal

pub returns : goal.returns
returns c = ahead_within c.args.network.now _ _ _ c.processes-n.ensures.count (rw c.pairs.ensures.value at c.rows_of-rows.ensures) c.lead.ensures
