-- `Row::count` meets its contract.
use Rattle.std.proofs.Common.{rules, arith}
use lib.Count.{ones-le}
use Rattle.marks.proofs.Words.{count_words}
use Rattle.marks.proofs.Row.count.Goals as goal

pub overflow_add-result : goal.overflow_add-result
overflow_add-result c = omega (arith, ones-le 64 c.args.self.low (search rules), ones-le 64 c.args.self.high (search rules))

pub returns : goal.returns
returns c = count_words _ (record { low_fits = search rules; high_fits = search rules })
