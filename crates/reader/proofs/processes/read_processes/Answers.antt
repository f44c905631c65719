-- `processes::read_processes` meets its contract: after the count, so many processes, whose frame is judged.
use Rattle.std.proofs.Common.{rules}
use Rattle.reader.proofs.Lists.{told_most}
use Rattle.reader.proofs.Parts.{frame_fits, frame_large}
use Rattle.reader.proofs.processes.read_processes.Goals as goal

pub read_list-requires : goal.read_list-requires
read_list-requires c = told_most c.args.file.now 1 12 c.args.at c.in_ok-count.ensures

pub slice_bounds-processes-end : goal.slice_bounds-processes-end
slice_bounds-processes-end c = let most = told_most c.args.file.now 1 12 c.args.at c.in_ok-count.ensures in search rules

pub slice_bounds-fits_frame-end : goal.slice_bounds-fits_frame-end
slice_bounds-fits_frame-end c = let most = told_most c.args.file.now 1 12 c.args.at c.in_ok-count.ensures in search rules

pub returns-then-fits_frame : goal.returns-then-fits_frame
returns-then-fits_frame c = frame_fits c.args.file.now c.args.at c.in_ok-count.ensures c.in_ok-processes.ensures c.fits_frame.ensures c.if-fits_frame.true

pub returns : goal.returns
returns c = frame_large c.args.file.now c.args.at c.in_ok-count.ensures c.in_ok-processes.ensures c.fits_frame.ensures c.if-fits_frame.false
