-- `frame::common_multiple` meets its contract.
use Rattle.network.proofs.Multiples.{common_sorted}
use Rattle.network.proofs.frame.common_multiple.Goals as goal

pub returns : goal.returns
returns c = common_sorted _ _ _ _ _ c.max.ensures c.min.ensures c.first_multiple.ensures
