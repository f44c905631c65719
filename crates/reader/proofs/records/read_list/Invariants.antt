-- `records::read_list` meets its contract. The loop's invariant is `SoFar`, of every record that the step reads.
use Rattle.std.proofs.Common.{ℕ, List, ◌<◌, ◌^◌}
use Rattle.reply.specs.Result.{Result}
use Rattle.number.specs.Parts.{Part}
use Rattle.reader.specs.Told.{Reads}
use Rattle.reader.proofs.Loop.{SoFar}
use Rattle.reader.proofs.records.read_list.Given as goal

abbrev pub invariant-loop-i : goal.invariant-loop-i
invariant-loop-i g l =
    l.at < 2 ^ 64
    × ((one : List g.row.T.Denot → ℕ → Result (Part g.row.T.Denot)) → Reads (goal.F-post g l.read) one → SoFar one l.fn.none g.row.N l.from l.i l.at l.list)
