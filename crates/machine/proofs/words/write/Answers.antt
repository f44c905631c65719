-- `words::write` meets its contract.
use Rattle.machine.specs.WordLaws.{written_to_lem, contents_at}
use Rattle.machine.proofs.words.write.Goals as goal

pub put-after-requires : goal.put-after-requires
put-after-requires c = rw c.load.ensures (c.requires.1.sound _ c.requires.0, c.requires.2, rw (contents_at _ _ c.requires.0) at c.requires.3)

pub returns : goal.returns
returns c = rw c.store.ensures
    (written_to_lem _ _ c.requires.0 c.requires.1 _ _ _ _ (rw c.load.ensures at c.put-after.ensures))
