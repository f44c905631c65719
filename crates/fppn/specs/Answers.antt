-- What C is given of each answer: the reply by its number, its place, and what the entry point gives.
use Rattle.std.specs.Prelude.{map}
use Rattle.reply.specs.Reply.{reply_number}
use Rattle.reply.specs.declared.Answer.{Answer}
use Rattle.network.specs.declared.Loaded.{Loaded}
use Rattle.network.specs.declared.Written.{Written}
use Rattle.graph.specs.declared.Job.{Job}
use Rattle.graph.specs.declared.PrecedenceGraph.{PrecedenceGraph}
use Rattle.zero_delay.specs.declared.Ran.{Ran}
use Rattle.turns.specs.declared.TurnRan.{TurnRan}
use Rattle.listing.specs.declared.Listed.{Listed}
use Rattle.fppn.specs.declared.FppnLoaded.{FppnLoaded}
use Rattle.fppn.specs.declared.FppnWritten.{FppnWritten}
use Rattle.fppn.specs.declared.FppnGraphResult.{FppnGraphResult}
use Rattle.fppn.specs.declared.FppnRan.{FppnRan}
use Rattle.fppn.specs.declared.FppnTurned.{FppnTurned}
use Rattle.fppn.specs.declared.FppnAnswer.{FppnAnswer}
use Rattle.fppn.specs.declared.FppnListed.{FppnListed}

unfoldable pub loaded_from : Loaded → FppnLoaded
loaded_from l = record { reply = reply_number l.answer.reply; place = l.answer.place; network = l.network }

unfoldable pub written_from : Written → FppnWritten
written_from w = record { reply = reply_number w.answer.reply; place = w.answer.place; length = w.length }

unfoldable pub graph_from : PrecedenceGraph → FppnGraphResult
graph_from g = record {
  reply = reply_number g.answer.reply;
  place = g.answer.place;
  jobs = g.job_count;
  frame = g.frame;
  edges = g.edges;
  process = map (λ (j : Job). j.process) g.jobs;
  release = map (λ (j : Job). j.release) g.jobs;
  deadline = map (λ (j : Job). j.deadline) g.jobs;
  budget = map (λ (j : Job). j.budget) g.jobs;
  rows = g.rows;
}

unfoldable pub ran_from : Ran → FppnRan
ran_from r = record { reply = reply_number r.answer.reply; place = r.answer.place; variables = r.variables; channels = r.channels }

unfoldable pub answer_from : Answer → FppnAnswer
answer_from a = record { reply = reply_number a.reply; place = a.place }

unfoldable pub turned_from : TurnRan → FppnTurned
turned_from t = record {
  reply = reply_number t.answer.reply;
  place = t.answer.place;
  frames = t.frames;
  jobs = t.jobs;
  working = t.working;
  waiting = t.waiting;
  variables = t.variables;
  channels = t.channels;
}

unfoldable pub listed_from : Listed → FppnListed
listed_from l = record { reply = reply_number l.answer.reply; place = l.answer.place; length = l.length }
