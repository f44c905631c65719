-- `writing::put_numbers` meets its contract. The loop's invariant: the numbers so far are laid.
use Rattle.std.proofs.Common.{take, ◌*◌}
use Rattle.writer.specs.Laid.{Laid}
use Rattle.writer.proofs.writing.put_numbers.Given as goal

abbrev pub invariant-loop-n : goal.invariant-loop-n
invariant-loop-n l = Laid l.initial.out l.from (take l.n-index l.numbers) (5 * l.n-index) l.out l.at
