-- `transfers::input` meets its contract.
use Rattle.machine.proofs.transfers.input.Goals as goal

pub returns : goal.returns
returns c = rw (c.set-2.ensures, c.set.ensures)
