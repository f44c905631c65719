-- `words::load` meets its contract.
use Rattle.machine.specs.WordLaws.{loaded_is}
use Rattle.machine.proofs.words.load.Goals as goal

pub returns : goal.returns
returns c = loaded_is _ _ c.load_values.ensures
