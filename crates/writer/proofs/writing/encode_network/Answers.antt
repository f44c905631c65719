-- `writing::encode_network` meets its contract: the parts of the file in order, and nothing else.
use Rattle.std.proofs.Common.{rules}
use Rattle.writer.proofs.Laying.{parts, whole}
use Rattle.writer.proofs.writing.encode_network.Goals as goal

pub returns : goal.returns
returns c =
    whole c.args.network.now c.args.out.now _ _ (search rules)
    (parts c.args.network.now c.processes.ensures.value c.pairs.ensures.value c.channels.ensures.value c.processes.ensures.count c.pairs.ensures.count c.channels.ensures.count
    c.put_numbers-at.ensures c.put_records-at.ensures c.put_number-at.ensures c.put_records-at-2.ensures c.put_number-at-2.ensures c.put_records-at-3.ensures c.put_programs.ensures)
