use Rattle.std.proofs.Common.{arith}
use Rattle.std.proofs.lemmas.Result.{err_from_is_err_and}
use Rattle.reader.proofs.ProgramLoop.{programs_start, programs_step, programs_stop}
use Rattle.reader.proofs.programs.read_programs.Goals as goal

pub loop-p-init : goal.loop-p-init
loop-p-init c = programs_start _ _ _ _ _ c.requires.counts_zero c.requires.actions_zero

pub returns-in_err-n : goal.returns-in_err-n
returns-in_err-n c =
    let p = err_from_is_err_and c.from_residual.result c.from_residual.ensures.1 in
    rw (p.1, p.2) (programs_stop _ _ _ c.loop-p.invariant _ c.loop-p-test.true c.in_err-n.ensures)

pub loop-p-preserved : goal.loop-p-preserved
loop-p-preserved c = programs_step _ _ _ c.loop-p.invariant (omega arith) c.in_ok-n.ensures
