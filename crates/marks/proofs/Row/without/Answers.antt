-- `Row::without` meets its contract.
use Rattle.std.proofs.Common.{rules}
use Rattle.marks.proofs.Words.{without_words}
use Rattle.marks.proofs.Row.without.Goals as goal

pub returns : goal.returns
returns c = without_words _ _ (record { low_fits = search rules; high_fits = search rules }) (record { low_fits = search rules; high_fits = search rules })
