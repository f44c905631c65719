-- The page is copied to the front of the buffer.
use Rattle.std.proofs.Common.{◌≡◌, arith, ap, length, refl}
use Rattle.listing.specs.Listing.{page_of}
use Rattle.listing.specs.CallLaws.{page_most, page_fits_text, page_front}
use Rattle.listing.proofs.Printing.{put_there}
use Rattle.listing.proofs.page.Goals as goal

pub as_bytes-bytes-requires : goal.as_bytes-bytes-requires
as_bytes-bytes-requires c = page_fits_text _ c.put_page.ensures

pub slice_bounds-copy_from_slice-end : goal.slice_bounds-copy_from_slice-end
slice_bounds-copy_from_slice-end c =
    let whole : c.as_bytes-bytes.result.now ≡ page_of c.args.file.now = page_front _ c.put_page.ensures c.as_bytes-bytes.ensures in
    omega (arith, ap length whole, page_most c.args.file.now)

pub returns : goal.returns
returns c =
    let whole : c.as_bytes-bytes.result.now ≡ page_of c.args.file.now = page_front _ c.put_page.ensures c.as_bytes-bytes.ensures in
    rw (← whole) (record {
      stands = put_there _ _ _ 0 _ c.copy_from_slice.ensures.after refl (omega (arith, ap length whole, page_most c.args.file.now));
      ends = omega arith;
    })
