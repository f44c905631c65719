-- `run` meets its contract: what the run gives, or the refusal with all else zero.
use Rattle.zero_delay.specs.CallLaws.{ran_is_lem, refused_is}
use Rattle.zero_delay.proofs.run.Goals as goal

pub returns-in-Ok : goal.returns-in-Ok
returns-in-Ok c = record { result = ran_is_lem _ c.in-Ok.ensures.result; filled = c.in-Ok.ensures.filled }

pub returns-in-Err : goal.returns-in-Err
returns-in-Err c = record { result = rw (c.from.ensures, c.no_held.ensures) (refused_is _ c.in-Err.ensures.result); filled = c.in-Err.ensures.filled }
