-- `programs::read_program` meets its contract: after the count, so many actions.
use Rattle.std.proofs.lemmas.Result.{err_from_is_err_and}
use Rattle.reader.proofs.Lists.{told_most}
use Rattle.reader.proofs.ProgramLoop.{program_read, program_stops, program_none}
use Rattle.reader.proofs.programs.read_program.Goals as goal

pub returns-in_err-n : goal.returns-in_err-n
returns-in_err-n c =
    let p = err_from_is_err_and c.from_residual.result c.from_residual.ensures.1 in
    rw (p.1, p.2) (program_none _ _ _ _ _ _ c.in_err-n.ensures)

pub read_actions-requires : goal.read_actions-requires
read_actions-requires c = (c.requires, told_most c.args.file.now 0 24 c.args.at c.in_ok-n.ensures)

pub returns-in_err-at : goal.returns-in_err-at
returns-in_err-at c =
    let p = err_from_is_err_and c.from_residual-in_err-at.result c.from_residual-in_err-at.ensures.1 in
    rw (p.1, p.2) (program_stops _ _ _ _ _ _ c.in_ok-n.ensures c.in_err-at.ensures)

pub returns : goal.returns
returns c = program_read _ _ _ _ _ _ c.in_ok-n.ensures c.in_ok-at.ensures
