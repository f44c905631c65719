-- Words and numbers in turn, for which there is always room.
use Rattle.std.proofs.Common.{◌≡◌, arith, ap}
use Rattle.reply.specs.Reply.{reply_number}
use Rattle.listing.specs.DecimalLaws.{decimal_longest}
use Rattle.listing.specs.declared.text.Text.{Text}
use Rattle.listing.proofs.Lining.{refusal}
use Rattle.listing.proofs.Printing.{all_put}
use Rattle.listing.proofs.lines.put_refusal.Goals as goal

pub words-requires : goal.words-requires
words-requires c = omega (arith, ap (λ (t : Text). t.length) c.requires, decimal_longest c.from-number.result, decimal_longest c.args.refusal.place)

pub number-requires : goal.number-requires
number-requires c = omega (arith, ap (λ (t : Text). t.length) c.requires, c.words.ensures.ends, decimal_longest c.from-number.result, decimal_longest c.args.refusal.place)

pub words-requires-2 : goal.words-requires-2
words-requires-2 c = omega (arith, ap (λ (t : Text). t.length) c.requires, c.words.ensures.ends, c.number.ensures.ends, decimal_longest c.from-number.result, decimal_longest c.args.refusal.place)

pub number-requires-2 : goal.number-requires-2
number-requires-2 c = omega (arith, ap (λ (t : Text). t.length) c.requires, c.words.ensures.ends, c.number.ensures.ends, c.words-2.ensures.ends, decimal_longest c.from-number.result, decimal_longest c.args.refusal.place)

pub words-requires-3 : goal.words-requires-3
words-requires-3 c = omega (arith, ap (λ (t : Text). t.length) c.requires, c.words.ensures.ends, c.number.ensures.ends, c.words-2.ensures.ends, c.number-2.ensures.ends, decimal_longest c.from-number.result, decimal_longest c.args.refusal.place)

pub returns : goal.returns
returns c =
    let number : c.from-number.result ≡ reply_number c.args.refusal.reply = c.from-number.ensures in
    all_put c.requires (rw number at (refusal _ _ c.words.ensures c.number.ensures c.words-2.ensures c.number-2.ensures c.words-3.ensures))
