-- `Network::pairs` meets its contract.
use Rattle.std.proofs.Common.{rules}
use Rattle.network.specs.ListLaws.{take_lesser}
use Rattle.network.specs.Net.{within}
use Rattle.network.proofs.Network.pairs.Goals as goal

pub returns-clause-value : goal.returns-clause-value
unfolding within
returns-clause-value c = take_lesser _ _ _ 66 (search rules) c.min.ensures
