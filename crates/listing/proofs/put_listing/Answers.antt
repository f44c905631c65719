-- The head, and the lines of the jobs after it.
use Rattle.listing.proofs.Lining.{head_room, rest_room, whole}
use Rattle.listing.proofs.put_listing.Goals as goal

pub put_head-requires : goal.put_head-requires
put_head-requires c = head_room _ _ _ c.requires.1

pub put_lines-requires : goal.put_lines-requires
put_lines-requires c = let pre = c.requires in
    (pre.0, rest_room _ _ _ pre.1 c.put_head.ensures)

pub returns : goal.returns
returns c = whole _ _ _ c.requires.1 c.put_head.ensures c.put_lines.ensures
