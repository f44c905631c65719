-- `Row::inside` meets its contract.
use Rattle.std.proofs.Common.{rules, ne_eqb, ◌∙◌}
use Rattle.marks.proofs.Words.{inside_both, inside_not}
use Rattle.marks.proofs.Row.inside.Goals as goal

pub returns-then-self-other : goal.returns-then-self-other
returns-then-self-other c = inside_both _ _ (record { low_fits = search rules; high_fits = search rules }) (record { low_fits = search rules; high_fits = search rules }) c.if-self-other.true

pub returns-else-self-other : goal.returns-else-self-other
returns-else-self-other c = ne_eqb _ _ c.if-self-other.false ∙ inside_not _ _ (record { low_fits = search rules; high_fits = search rules }) (record { low_fits = search rules; high_fits = search rules }) c.if-self-other.false
