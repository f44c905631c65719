-- `turning::turn` meets its contract: none is left, the next job is not ready or starts, or the job under way does one action.
use Rattle.std.proofs.Common.{refl, ◌∙◌, sym}
use Rattle.turns.proofs.OneTurn.{none_done, unready_done, ready_done, goes, acts_done}
use Rattle.turns.proofs.turning.turn.Goals as goal

pub returns-in-NoneLeft : goal.returns-in-NoneLeft
returns-in-NoneLeft c = none_done _ _ c.requires c.in-NoneLeft.is

pub returns-then-not-inside : goal.returns-then-not-inside
returns-then-not-inside c = unready_done _ _ c.requires _ c.in-Next.is (sym c.inside.ensures ∙ c.if-not-inside.true)

pub returns-else-not-inside : goal.returns-else-not-inside
returns-else-not-inside c =
    ready_done _ _ c.requires _ c.in-Next.is (sym c.inside.ensures ∙ c.if-not-inside.false)
    (rw c.start.ensures at c.comes_to.ensures.result) (rw c.start.ensures at c.comes_to.ensures.stands)
    (rw c.start.ensures at c.comes_to.ensures.marks) (rw c.start.ensures at c.comes_to.ensures.left)

pub go_on-acted-requires : goal.go_on-acted-requires
go_on-acted-requires c = goes c.args.state.now.variables c.args.finished.now c.requires _ c.in-UnderWay.is

pub returns-in-UnderWay : goal.returns-in-UnderWay
returns-in-UnderWay c =
    acts_done _ _ c.requires _ c.in-UnderWay.is c.get-sample.ensures (c.go_on-acted.ensures.one refl)
    c.comes_to-in-UnderWay.ensures.result c.comes_to-in-UnderWay.ensures.stands c.comes_to-in-UnderWay.ensures.marks c.comes_to-in-UnderWay.ensures.left
