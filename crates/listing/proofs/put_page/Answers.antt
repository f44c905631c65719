-- The text, or the line of the refusal.
use Rattle.std.proofs.Common.{◌∙◌}
use Rattle.listing.specs.CallLaws.{page_listing, page_line}
use Rattle.listing.proofs.put_page.Goals as goal

pub returns-in-Ok : goal.returns-in-Ok
returns-in-Ok c = page_listing _ c.in-Ok.ensures.value

pub returns-in-Err : goal.returns-in-Err
returns-in-Err c = c.put_refusal.ensures ∙ page_line _ c.in-Err.ensures.value
