-- What the page is told to be long is a front of the buffer.
use Rattle.std.proofs.Common.{rules}
use Rattle.listing.specs.CallLaws.{page_fits, page_size}
use Rattle.lister.proofs.main.Goals as goal

pub slice_bounds-text-end : goal.slice_bounds-text-end
slice_bounds-text-end c = page_fits _ (search rules) c.page-length.ensures

pub slice_bounds-write_all-end : goal.slice_bounds-write_all-end
slice_bounds-write_all-end c = page_size _ (search rules) c.page-length.ensures
