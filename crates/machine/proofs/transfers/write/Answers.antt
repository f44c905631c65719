-- `transfers::write` meets its contract.
use Rattle.std.proofs.Common.{arith}
use Rattle.machine.specs.KindLaws.{kind_at, capacity_at}
use Rattle.machine.specs.ActLaws.{write_done}
use Rattle.machine.proofs.transfers.write.Goals as goal

pub write-requires : goal.write-requires
write-requires c = (c.requires.0, c.requires.4, rw (capacity_at c.args.tables.now.channels c.args.channel) at (c.requires.3.most c.args.channel), omega (arith, c.requires.5.room c.args.channel))

pub returns : goal.returns
returns c =
    let written = rw (← kind_at c.args.tables.now.channels c.args.channel, ← capacity_at c.args.tables.now.channels c.args.channel, c.get-value.ensures) at c.write.ensures in
    write_done _ _ _ _ _ _ _ written
