-- The digits that `itoa` writes are the number in plain decimal.
use Rattle.std.proofs.Common.{◌≡◌, ◌∙◌, arith}
use Rattle.listing.specs.Listing.{decimal}
use Rattle.listing.proofs.Printing.{plain}
use Rattle.listing.proofs.text.Text.number.Goals as goal

pub words-requires : goal.words-requires
words-requires c =
    let digits : c.as_bytes.result.now ≡ decimal c.args.n = c.as_bytes.ensures.value ∙ c.format.ensures.text ∙ plain c.args.n (omega arith) in
    rw digits c.requires

pub returns : goal.returns
returns c =
    let digits : c.as_bytes.result.now ≡ decimal c.args.n = c.as_bytes.ensures.value ∙ c.format.ensures.text ∙ plain c.args.n (omega arith) in
    rw digits at c.words.ensures
