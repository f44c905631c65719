-- Seven numbers, with a space after each but the last.
use Rattle.listing.proofs.Lining.{room_last, room_first, room_next, put_last, put_more}
use Rattle.listing.proofs.lines.put_line.Goals as goal

pub field-requires : goal.field-requires
field-requires c = room_first (record { fits = c.requires })

pub field-requires-2 : goal.field-requires-2
field-requires-2 c = room_first (room_next (record { fits = c.requires }) c.field.ensures)

pub field-requires-3 : goal.field-requires-3
field-requires-3 c = room_first (room_next (room_next (record { fits = c.requires }) c.field.ensures) c.field-2.ensures)

pub field-requires-4 : goal.field-requires-4
field-requires-4 c = room_first (room_next (room_next (room_next (record { fits = c.requires }) c.field.ensures) c.field-2.ensures) c.field-3.ensures)

pub field-requires-5 : goal.field-requires-5
field-requires-5 c = room_first (room_next (room_next (room_next (room_next (record { fits = c.requires }) c.field.ensures) c.field-2.ensures) c.field-3.ensures) c.field-4.ensures)

pub field-requires-6 : goal.field-requires-6
field-requires-6 c = room_first (room_next (room_next (room_next (room_next (room_next (record { fits = c.requires }) c.field.ensures) c.field-2.ensures) c.field-3.ensures) c.field-4.ensures) c.field-5.ensures)

pub field-requires-7 : goal.field-requires-7
field-requires-7 c = room_last (room_next (room_next (room_next (room_next (room_next (room_next (record { fits = c.requires }) c.field.ensures) c.field-2.ensures) c.field-3.ensures) c.field-4.ensures) c.field-5.ensures) c.field-6.ensures)

pub returns : goal.returns
returns c = put_more _ _ _ c.field.ensures (put_more _ _ _ c.field-2.ensures (put_more _ _ _ c.field-3.ensures (put_more _ _ _ c.field-4.ensures (put_more _ _ _ c.field-5.ensures (put_more _ _ _ c.field-6.ensures (put_last _ c.field-7.ensures))))))
