-- `programs::read_actions` meets its contract. The loop's invariant is `ActionsSoFar`.
use Rattle.reader.proofs.ActionLoop.{ActionsSoFar}
use Rattle.reader.proofs.programs.read_actions.Given as goal

abbrev pub invariant-loop-k : goal.invariant-loop-k
invariant-loop-k l = ActionsSoFar l.file l.channels l.p l.n l.from l.initial.actions l.k l.at l.actions
