-- `programs::store_four` meets its contract: four numbers stand in four places.
use Rattle.reader.proofs.ActionLoop.{four_stores}
use Rattle.reader.proofs.programs.store_four.Goals as goal

pub returns : goal.returns
returns c = let four = c.args.four in
    four_stores c.args.actions.now c.args.at four.head four.a four.b four.c
