-- The number, and then the byte.
use Rattle.listing.proofs.Printing.{join}
use Rattle.listing.proofs.text.Text.field.Goals as goal

pub returns : goal.returns
returns c = join c.number.ensures c.words.ensures
