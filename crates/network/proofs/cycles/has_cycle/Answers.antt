-- `cycles::has_cycle` meets its contract.
use Rattle.std.proofs.Common.{rules}
use Rattle.network.proofs.RowSteps.{back_any}
use Rattle.network.proofs.cycles.has_cycle.Goals as goal

pub returns : goal.returns
returns c = back_any _ _ _ c.lead-ends.ensures _ (search rules) c.leads_back.ensures
