-- `pairs::read_pairs` meets its contract: after the count, so many pairs, whose chains are judged.
use Rattle.reader.proofs.Lists.{told_most}
use Rattle.reader.proofs.Parts.{pairs_turn, pairs_lead}
use Rattle.reader.proofs.pairs.read_pairs.Goals as goal

pub read_list-requires : goal.read_list-requires
read_list-requires c = (c.requires, told_most c.args.file.now 0 66 c.args.at c.in_ok-count.ensures)

pub returns-then-has_cycle : goal.returns-then-has_cycle
returns-then-has_cycle c = rw c.bad_pair.ensures (pairs_turn c.args.file.now c.args.n c.requires c.args.at c.in_ok-count.ensures c.in_ok-pairs.ensures c.has_cycle.ensures c.if-has_cycle.true)

pub returns : goal.returns
returns c = pairs_lead c.args.file.now c.args.n c.requires c.args.at c.in_ok-count.ensures c.in_ok-pairs.ensures c.has_cycle.ensures c.if-has_cycle.false
