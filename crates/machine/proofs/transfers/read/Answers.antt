-- `transfers::read` meets its contract.
use Rattle.machine.specs.KindLaws.{kind_at}
use Rattle.machine.specs.ActLaws.{read_done}
use Rattle.machine.proofs.transfers.read.Goals as goal

pub returns : goal.returns
returns c =
    let given = rw (← kind_at c.args.tables.now.channels c.args.channel) at c.read-given.ensures in
    rw (c.set-2.ensures, c.set.ensures, c.unwrap_or.ensures, c.from.ensures, c.is_some.ensures) (read_done _ _ _ _ _ _ _ _ given)
