-- `writing::put_records` meets its contract. The loop's invariant: the records so far are laid.
use Rattle.std.proofs.Common.{take, ◌*◌}
use Rattle.network.specs.Lists.{each_of}
use Rattle.writer.specs.Laid.{Laid}
use Rattle.writer.proofs.writing.put_records.Given as goal

abbrev pub invariant-loop-record : goal.invariant-loop-record
invariant-loop-record g l = Laid l.initial.out l.from (each_of g.R.Record.fields (take l.record-index l.records)) (g.R.Record.most * l.record-index) l.out l.at
