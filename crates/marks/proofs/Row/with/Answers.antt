-- `Row::with` meets its contract.
use Rattle.std.proofs.Common.{rules}
use Rattle.marks.proofs.Words.{with_low, with_high, with_beyond}
use Rattle.marks.proofs.Row.with.Goals as goal

pub returns-then-k-lt64 : goal.returns-then-k-lt64
returns-then-k-lt64 c = with_low _ (record { low_fits = search rules; high_fits = search rules }) _ c.if-k-lt64.true

pub returns-then-k-lt128 : goal.returns-then-k-lt128
returns-then-k-lt128 c = with_high _ (record { low_fits = search rules; high_fits = search rules }) _ c.if-k-lt64.false c.if-k-lt128.true

pub returns : goal.returns
returns c = search (rules, with_beyond)
