-- `channels::read_channels` meets its contract: after the count, so many channels.
use Rattle.std.proofs.Common.{rules}
use Rattle.network.specs.Told.{ends_by}
use Rattle.reader.proofs.Lists.{told_most}
use Rattle.reader.proofs.Parts.{channels_listed, channels_cut}
use Rattle.reader.proofs.channels.read_channels.Goals as goal

pub read_list-requires : goal.read_list-requires
read_list-requires c = (c.requires, told_most c.args.file.now 0 16 c.args.at c.in_ok-count.ensures)

pub returns-in_err-channels : goal.returns-in_err-channels
returns-in_err-channels c = search (rules, channels_cut c.args.file.now (ends_by c.args.n c.args.rows) c.args.at c.in_ok-count.ensures)

pub returns : goal.returns
returns c = channels_listed c.args.file.now (ends_by c.args.n c.args.rows) c.args.at c.in_ok-count.ensures c.in_ok-channels.ensures
