-- `channels::read_list` meets its contract.
use Rattle.std.proofs.Common.{rules}
use Rattle.network.specs.Read.{channel_with}
use Rattle.network.specs.Told.{ends_by}
use Rattle.reader.proofs.channels.read_list.Goals as goal

pub returns : goal.returns
returns c = c.read_list.ensures (λ before. channel_with c.args.file.now (ends_by c.args.n c.args.rows)) (record { each = λ before at r fits gives. search rules })
