-- `number::write_number` meets its contract: it writes where the number's width leaves room, and nothing elsewhere.
use Rattle.std.proofs.Common.{rules}
use Rattle.number.specs.Groups.{encode_some}
use Rattle.number.specs.Put.{put_at, after}
use Rattle.number.proofs.Writing.{fits_room, has_room}
use Rattle.number.proofs.write_number.Goals as goal

pub returns-in_err-room-clause-value : goal.returns-in_err-room-clause-value
unfolding put_at
returns-in_err-room-clause-value c = let h = encode_some c.args.n in rw fits_room (search rules)

pub returns-in_err-room-clause-out_after : goal.returns-in_err-room-clause-out_after
unfolding after
returns-in_err-room-clause-out_after c = let h = encode_some c.args.n in rw fits_room (search rules)

pub put_groups-requires : goal.put_groups-requires
put_groups-requires c = has_room _ _ _ (encode_some c.args.n) c.width.ensures c.saturating_sub.ensures c.in_ok-room.ensures

pub returns-clause-value : goal.returns-clause-value
unfolding put_at
returns-clause-value c = let h = encode_some c.args.n in rw fits_room (search rules)

pub returns-clause-out_after : goal.returns-clause-out_after
unfolding after
returns-clause-out_after c = let h = encode_some c.args.n in rw fits_room (search rules)
