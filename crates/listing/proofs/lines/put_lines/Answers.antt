use Rattle.std.proofs.Common.{rules}
use Rattle.listing.proofs.Lining.{lines_start, lines_room, lines_more, lines_done}
use Rattle.listing.proofs.lines.put_lines.Goals as goal

pub loop-j-init : goal.loop-j-init
loop-j-init c = lines_start _ _ _ _

pub put_line-requires : goal.put_line-requires
put_line-requires c = lines_room c.loop-j.invariant _ (search rules) c.requires.1

pub loop-j-preserved : goal.loop-j-preserved
loop-j-preserved c = lines_more c.loop-j.invariant c.put_line.ensures

pub returns : goal.returns
returns c = lines_done c.loop-j.invariant _ (search rules) (search rules)
