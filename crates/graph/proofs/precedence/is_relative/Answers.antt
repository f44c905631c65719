-- `precedence::is_relative` meets its contract.
use Rattle.std.proofs.Common.{sym, eq-eqb, ◌∙◌}
use Rattle.reply.specs.Tests.{clash}
use Rattle.graph.proofs.RelativeMarks.{relative_itself, relative_there, relative_back}
use Rattle.graph.proofs.precedence.is_relative.Goals as goal
use Rattle.graph.proofs.precedence.is_relative.Goals.{then-q-p, else-q-p}

pub returns-then-has : goal.returns-then-has
returns-then-has c = elim c.if-q-p.branch [
  | then-q-p w ↦ c.if-has.true ∙ relative_itself _ _ _ _ w.if-q-p.true
  | else-q-p w ↦ c.if-has.true ∙ relative_there _ _ _ _ w.if-q-p.false _ w.has.ensures (sym w.value-is ∙ c.if-has.true)
]

pub returns-else-has : goal.returns-else-has
returns-else-has c = elim c.if-q-p.branch [
  | then-q-p w ↦ absurd (clash (w.value-is ∙ eq-eqb c.args.q c.args.p w.if-q-p.true) c.if-has.false)
  | else-q-p w ↦ c.has-else-has.ensures ∙ relative_back _ _ _ _ w.if-q-p.false _ w.has.ensures (sym w.value-is ∙ c.if-has.false)
]
