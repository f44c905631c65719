use Rattle.std.proofs.Common.{rules, arith, refl}
use Rattle.std.proofs.lemmas.Result.{err_from_is_err_and}
use Rattle.number.specs.Told.{part_ok, part_err}
use Rattle.reader.proofs.Loop.{start, step, stop, finish}
use Rattle.reader.proofs.records.read_list.Goals as goal

pub loop-i-init : goal.loop-i-init
loop-i-init g c = (omega arith, λ one reads. start one _ _ _ _ refl)

pub returns-in_err-record : goal.returns-in_err-record
returns-in_err-record g c = λ one reads.
    let p = err_from_is_err_and c.from_residual.result c.from_residual.ensures.1 in
    rw (p.1, p.2, stop one _ _ _ (c.loop-i.invariant.1 one reads) _ _ _ c.loop-i-test.true (part_err _ (reads.each _ _ _ c.loop-i.invariant.0 c.in_err-record.ensures))) refl

pub loop-i-preserved : goal.loop-i-preserved
loop-i-preserved g c = (search rules, λ one reads. step one _ _ _ (c.loop-i.invariant.1 one reads) _ _ (omega arith) (part_ok _ (reads.each _ _ _ c.loop-i.invariant.0 c.in_ok-record.ensures)))

pub returns : goal.returns
returns g c = λ one reads. let s = c.loop-i.invariant.1 one reads in rw (finish one _ _ _ s c.args.count (omega arith) (omega arith), s.stands)
