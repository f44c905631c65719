-- The words are written over the part of the buffer after the text.
use Rattle.std.proofs.Common.{refl, rules}
use Rattle.listing.proofs.Printing.{put_there}
use Rattle.listing.proofs.text.Text.words.Goals as goal

pub returns : goal.returns
returns c = record {
  stands = put_there _ _ _ _ _ c.copy_from_slice.ensures.after (search rules) (search rules);
  ends = refl;
}
