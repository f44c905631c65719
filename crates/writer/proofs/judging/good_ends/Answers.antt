-- `judging::good_ends` meets its contract.
use Rattle.std.proofs.Common.{sym, ◌∙◌}
use Rattle.writer.proofs.Ends.{ends_good}
use Rattle.writer.proofs.judging.good_ends.Goals as goal

pub returns-then-not-has_cycle : goal.returns-then-not-has_cycle
returns-then-not-has_cycle c = λ e. ends_good _ _ _ c.requires _ c.in-Some.ensures c.has_cycle.ensures c.if-not-has_cycle.true (sym c.good_channels.ensures ∙ e)
