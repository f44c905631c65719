-- `run` meets its contract: what the run of the file told; and a run that is done keeps the promise.
use Rattle.turns.specs.CallCases.{ran_is, refusal_is}
use Rattle.turns.proofs.Promise.{told_promise}
use Rattle.turns.proofs.run.Goals as goal

pub returns-in-Ok : goal.returns-in-Ok
returns-in-Ok c =
    let result = ran_is _ c.in-Ok.ensures.result in
    let filled = c.in-Ok.ensures.filled in
    record { result = result; filled = filled; promise = told_promise _ _ _ _ _ _ _ result filled }

pub returns-in-Err : goal.returns-in-Err
returns-in-Err c =
    let result = refusal_is _ c.in-Err.ensures.result c.refused.ensures in
    let filled = c.in-Err.ensures.filled in
    record { result = result; filled = filled; promise = told_promise _ _ _ _ _ _ _ result filled }
