-- Words and numbers in turn.
use Rattle.std.proofs.Common.{arith}
use Rattle.listing.specs.TextLaws.{head_size}
use Rattle.listing.proofs.Lining.{head}
use Rattle.listing.proofs.lines.put_head.Goals as goal

pub words-requires : goal.words-requires
words-requires c = omega (arith, c.requires, head_size c.args.jobs c.args.frame c.args.edges)

pub number-requires : goal.number-requires
number-requires c = omega (arith, c.requires, head_size c.args.jobs c.args.frame c.args.edges, c.words.ensures.ends)

pub words-requires-2 : goal.words-requires-2
words-requires-2 c = omega (arith, c.requires, head_size c.args.jobs c.args.frame c.args.edges, c.words.ensures.ends, c.number.ensures.ends)

pub number-requires-2 : goal.number-requires-2
number-requires-2 c = omega (arith, c.requires, head_size c.args.jobs c.args.frame c.args.edges, c.words.ensures.ends, c.number.ensures.ends, c.words-2.ensures.ends)

pub words-requires-3 : goal.words-requires-3
words-requires-3 c = omega (arith, c.requires, head_size c.args.jobs c.args.frame c.args.edges, c.words.ensures.ends, c.number.ensures.ends, c.words-2.ensures.ends, c.number-2.ensures.ends)

pub field-requires : goal.field-requires
field-requires c = omega (arith, c.requires, head_size c.args.jobs c.args.frame c.args.edges, c.words.ensures.ends, c.number.ensures.ends, c.words-2.ensures.ends, c.number-2.ensures.ends, c.words-3.ensures.ends)

pub returns : goal.returns
returns c = head _ _ _ c.words.ensures c.number.ensures c.words-2.ensures c.number-2.ensures c.words-3.ensures c.field.ensures
