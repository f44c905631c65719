use Rattle.std.proofs.Common.{arith, ap, ◌∙◌, ◌++◌, ◌+◌, ◌≡◌, ◌≤◌, length, take, take_all}
use Rattle.std.proofs.Math.Nat.{mul-le-mul_left}
use Rattle.network.specs.Lists.{each_of}
use Rattle.writer.proofs.Laying.{none, join, told, each_none, each_take}
use Rattle.writer.proofs.writing.put_records.Goals as goal

pub loop-record-init : goal.loop-record-init
loop-record-init g c = none _ _ _ (each_none _)

pub put-at-requires : goal.put-at-requires
put-at-requires g c =
    let h : c.loop-record.record-index + 1 ≤ length c.args.records.now = omega (arith, c.loop-record-test.true) in
    omega (arith, c.loop-record.invariant.near, mul-le-mul_left g.R.Record.most h, c.requires)

pub loop-record-preserved : goal.loop-record-preserved
loop-record-preserved g c =
    let fields = g.R.Record.fields in
    let records = c.args.records.now in
    let i = c.loop-record.record-index in
    told (join c.loop-record.invariant c.put-at.ensures)
    (ap (λ (r : g.row.R.Denot). each_of fields (take i records) ++ fields r) c.record-item.is ∙ each_take fields i records c.record-item.result c.loop-record-test.true)
    (omega arith)

pub returns : goal.returns
returns g c =
    let e : c.loop-record.record-index ≡ length c.args.records.now = omega (arith, c.loop-record-test.false, c.loop-record.auto.record-index-end) in
    told c.loop-record.invariant (ap (each_of g.R.Record.fields) (take_all _ _ c.loop-record-test.false)) (rw e (omega arith))
