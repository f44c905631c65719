-- The graph as C has it: each column is one field of all the jobs.
use Rattle.std.proofs.Common.{refl, rules}
use Rattle.fppn.specs.AnswerLaws.{graph_is}
use Rattle.fppn.proofs.FppnGraphResultFromPrecedenceGraph.from.Goals as goal

pub returns : goal.returns
returns c = graph_is _ refl (search rules) c.from.ensures c.processes-process.ensures c.releases-release.ensures c.deadlines-deadline.ensures c.budgets-budget.ensures
