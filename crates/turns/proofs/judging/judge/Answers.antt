-- `judging::judge` meets its contract: no turn is found that names no processor, or the first.
use Rattle.std.proofs.Common.{ap, sym}
use Rattle.reply.specs.Told.{judged}
use Rattle.turns.proofs.TurnJudge.{all_named, wrong}
use Rattle.turns.proofs.judging.judge.Goals as goal

pub returns-in-None : goal.returns-in-None
returns-in-None c = sym (ap judged (all_named _ _ (sym c.in-None.ensures)))

pub returns-in-Some : goal.returns-in-Some
returns-in-Some c = sym (ap judged (wrong _ _ _ (sym c.in-Some.ensures)))
