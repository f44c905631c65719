-- `programs::read_programs` meets its contract. The loop's invariant is `ProgramsSoFar`.
use Rattle.reader.proofs.ProgramLoop.{ProgramsSoFar}
use Rattle.reader.proofs.programs.read_programs.Given as goal

abbrev pub invariant-loop-p : goal.invariant-loop-p
invariant-loop-p l = ProgramsSoFar l.file l.channels l.from l.p l.at l.counts l.actions
