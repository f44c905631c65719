use Rattle.std.proofs.Common.{arith, ap, ◌≡◌, ◌∙◌, get_or, length, rules}
use Rattle.network.specs.Net.{program_at}
use Rattle.network.specs.Write.{program_fields}
use Rattle.writer.proofs.Laying.{none, join, told, programs_none, programs_table, programs_are}
use Rattle.writer.proofs.writing.put_programs.Goals as goal

pub loop-p-init : goal.loop-p-init
loop-p-init c = none _ _ _ (programs_none _ _)

pub loop-p-preserved : goal.loop-p-preserved
loop-p-preserved c =
    let s = c.args.network.now in
    told (join c.loop-p.invariant c.put_program-at.ensures) (programs_table s.action_counts (λ p. program_at s.actions (get_or s.action_counts p 0) p) c.loop-p.p) (omega arith)

pub returns : goal.returns
returns c =
    let s = c.args.network.now in
    let e : c.loop-p.p ≡ length c.processes-p-end.result.now = search rules in
    told c.loop-p.invariant (ap (program_fields s.action_counts) (programs_are s c.loop-p.p (e ∙ c.processes-p-end.ensures.count))) (omega arith)
