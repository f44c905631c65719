-- `Row::has` meets its contract.
use Rattle.std.proofs.Common.{sym}
use Rattle.marks.specs.Laws.{marked_low, marked_high, marked_past}
use Rattle.marks.proofs.Row.has.Goals as goal

pub returns-then-k-lt64 : goal.returns-then-k-lt64
returns-then-k-lt64 c = sym (marked_low _ _ c.if-k-lt64.true)

pub returns-then-k-lt128 : goal.returns-then-k-lt128
returns-then-k-lt128 c = sym (marked_high _ _ c.if-k-lt64.false c.if-k-lt128.true)

pub returns : goal.returns
returns c = sym (marked_past _ _ c.if-k-lt128.false)
