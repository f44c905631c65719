use Rattle.std.proofs.Common.{ℕ, arith, ap, rules, ◌∙◌, List, ◌∷◌, ◌++◌, ◌≡◌, min}
use Rattle.network.specs.Lists.{each_of, table}
use Rattle.network.specs.Net.{four_fields, four_at, program_at}
use Rattle.network.specs.declared.Four.{Four}
use Rattle.writer.proofs.Laying.{none, join, told, table_lesser, each_none_table, each_table}
use Rattle.writer.proofs.writing.put_program.Goals as goal

pub loop-k-init : goal.loop-k-init
loop-k-init c = none _ _ _ (each_none_table _ _)

pub put-at-requires : goal.put-at-requires
put-at-requires c = omega (arith, c.loop-k.invariant.near, c.put_number-at.ensures.near, c.requires.0, c.loop-k-test.true, c.min-k-end.ensures)

pub loop-k-preserved : goal.loop-k-preserved
loop-k-preserved c =
    let four : ℕ → Four = λ k. four_at c.args.actions.now c.args.p k in
    let earlier = each_of four_fields (table c.loop-k.k four) in
    told (join c.loop-k.invariant c.put-at.ensures) (ap (λ (f : Four). earlier ++ four_fields f) c.four_at.ensures ∙ each_table four_fields c.loop-k.k four) (omega arith)

pub returns : goal.returns
unfolding program_at
returns c =
    let four : ℕ → Four = λ k. four_at c.args.actions.now c.args.p k in
    let all : c.loop-k.k ≡ min c.args.count 24 = search rules in
    told (join c.put_number-at.ensures c.loop-k.invariant) (ap (λ (l : List Four). c.args.count ∷ each_of four_fields l) (table_lesser four c.args.count c.loop-k.k 24 all)) (omega arith)
