-- `words::store` meets its contract.
use Rattle.machine.specs.WordLaws.{stored_is}
use Rattle.machine.proofs.words.store.Goals as goal

pub returns : goal.returns
returns c = stored_is _ _ _ c.requires.1 c.store_values.ensures
