-- `Row::or` meets its contract.
use Rattle.std.proofs.Common.{rules}
use Rattle.marks.proofs.Words.{or_words}
use Rattle.marks.proofs.Row.or.Goals as goal

pub returns : goal.returns
returns c = or_words _ _ (record { low_fits = search rules; high_fits = search rules }) (record { low_fits = search rules; high_fits = search rules })
