-- `number::read_rest` meets its contract. The loop's invariant is `Reading`.
use Rattle.std.proofs.Common.{drop, ◌-◌}
use Rattle.number.specs.Number.{plus, rest_from}
use Rattle.number.proofs.Reading.{Reading}
use Rattle.number.proofs.read_rest.Given as goal

abbrev pub invariant-loop : goal.invariant-loop
invariant-loop l = Reading l.start l.file (plus l.low 128 (rest_from l.start 3 (drop l.from l.file) l.from)) l.value l.scale l.at (3 - l.counter)
