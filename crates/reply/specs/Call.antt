-- What the calls share: the ranges of the numbers that they are given, and the lent memory that they need.
use Rattle.std.specs.Prelude.{ℕ, ◌&&◌, List, length, leb}
use Rattle.reply.specs.Result.{Result, require}
use Rattle.reply.specs.declared.Reply.TheVariants.{OutOfRange, ShortBuffer}

-- M is 1 to 4, F is 1 to 100
abbrev pub ok_processors : ℕ → Result (Unit {0})
ok_processors m = require (leb 1 m && leb m 4) OutOfRange 0

abbrev pub ok_frames : ℕ → Result (Unit {0})
ok_frames f = require (leb 1 f && leb f 100) OutOfRange 0

-- "a lent buffer is shorter than what the call reads or fills"
abbrev pub room_of : ℕ → ℕ → Result (Unit {0})
room_of needed size = require (leb needed size) ShortBuffer 0

abbrev pub ok_room : ℕ → List ℕ → Result (Unit {0})
ok_room needed buffer = room_of needed (length buffer)
