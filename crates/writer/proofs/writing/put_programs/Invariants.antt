-- `writing::put_programs` meets its contract. The loop's invariant: the first p programs are laid.
use Rattle.std.proofs.Common.{get_or, ◌*◌}
use Rattle.network.specs.Lists.{table}
use Rattle.network.specs.Net.{program_at}
use Rattle.network.specs.Write.{program_fields}
use Rattle.writer.specs.Laid.{Laid}
use Rattle.writer.proofs.writing.put_programs.Given as goal

abbrev pub invariant-loop-p : goal.invariant-loop-p
invariant-loop-p l = Laid l.initial.out l.from (program_fields l.network.action_counts (table l.p (λ p. program_at l.network.actions (get_or l.network.action_counts p 0) p))) (485 * l.p) l.out l.at
