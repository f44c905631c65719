-- `writing::put_program` meets its contract. The loop's invariant: the first k actions are laid.
use Rattle.std.proofs.Common.{◌*◌}
use Rattle.network.specs.Lists.{each_of, table}
use Rattle.network.specs.Net.{four_fields, four_at}
use Rattle.writer.specs.Laid.{Laid}
use Rattle.writer.proofs.writing.put_program.Given as goal

abbrev pub invariant-loop-k : goal.invariant-loop-k
invariant-loop-k l = Laid l.initial.out l.initial.at (each_of four_fields (table l.k (λ k. four_at l.actions l.p k))) (20 * l.k) l.out l.at
