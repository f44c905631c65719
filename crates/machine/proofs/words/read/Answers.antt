-- `words::read` meets its contract.
use Rattle.std.proofs.Common.{sym, subst}
use Rattle.machine.specs.ChannelTold.{Sound}
use Rattle.machine.specs.WordLaws.{read_from}
use Rattle.machine.proofs.words.read.Goals as goal

pub take-given-requires : goal.take-given-requires
take-given-requires c = subst Sound (sym c.load.ensures) (c.requires.1.sound _ c.requires.0)

pub returns : goal.returns
returns c = rw c.store.ensures
    (read_from _ _ c.requires.0 c.requires.1 _ _ _ (rw c.load.ensures at c.take-given.ensures))
