-- An answer made of an entry point's fields is what C is given of it.
use Rattle.std.specs.Prelude.{ℕ, ◌≡◌, refl, List, length}
use Rattle.std.proofs.Common.{ap, ◌∙◌}
use Rattle.reply.specs.Reply.{reply_number}
use Rattle.reply.specs.declared.Answer.{Answer}
use Rattle.network.specs.declared.Loaded.{Loaded}
use Rattle.network.specs.declared.Written.{Written}
use Rattle.graph.specs.Columns.{Column, column_is}
use Rattle.graph.specs.Sequence.{no_job}
use Rattle.graph.specs.declared.Job.{Job}
use Rattle.graph.specs.declared.PrecedenceGraph.{PrecedenceGraph}
use Rattle.zero_delay.specs.declared.Ran.{Ran}
use Rattle.turns.specs.declared.TurnRan.{TurnRan}
use Rattle.listing.specs.declared.Listed.{Listed}
use Rattle.fppn.specs.Answers.{loaded_from, written_from, graph_from, ran_from, turned_from, answer_from, listed_from}
use Rattle.fppn.specs.declared.FppnLoaded.{FppnLoaded}
use Rattle.fppn.specs.declared.FppnWritten.{FppnWritten}
use Rattle.fppn.specs.declared.FppnGraphResult.{FppnGraphResult}
use Rattle.fppn.specs.declared.FppnRan.{FppnRan}
use Rattle.fppn.specs.declared.FppnTurned.{FppnTurned}
use Rattle.fppn.specs.declared.FppnAnswer.{FppnAnswer}
use Rattle.fppn.specs.declared.FppnListed.{FppnListed}

pub loaded_is : (l : Loaded) {told : Loaded} {n : ℕ} → l ≡ told → n ≡ reply_number l.answer.reply
    → ◌≡◌ {A = FppnLoaded} (record { reply = n; place = l.answer.place; network = l.network }) (loaded_from told)
unfolding loaded_from
loaded_is l e f = rw f (ap loaded_from e)

pub written_is : (w : Written) {told : Written} {n : ℕ} → w ≡ told → n ≡ reply_number w.answer.reply
    → ◌≡◌ {A = FppnWritten} (record { reply = n; place = w.answer.place; length = w.length }) (written_from told)
unfolding written_from
written_is w e f = rw f (ap written_from e)

pub ran_is : (r : Ran) {told : Ran} {n : ℕ} → r ≡ told → n ≡ reply_number r.answer.reply
    → ◌≡◌ {A = FppnRan} (record { reply = n; place = r.answer.place; variables = r.variables; channels = r.channels }) (ran_from told)
unfolding ran_from
ran_is r e f = rw f (ap ran_from e)

pub graph_is : (g : PrecedenceGraph) {told : PrecedenceGraph} {n : ℕ} {process release deadline budget : List ℕ}
    → g ≡ told → length told.jobs ≡ 128 → n ≡ reply_number g.answer.reply
    → Column no_job (λ (j : Job). j.process) g.jobs process
    → Column no_job (λ (j : Job). j.release) g.jobs release
    → Column no_job (λ (j : Job). j.deadline) g.jobs deadline
    → Column no_job (λ (j : Job). j.budget) g.jobs budget
    → ◌≡◌ {A = FppnGraphResult} (record {
      reply = n;
      place = g.answer.place;
      jobs = g.job_count;
      frame = g.frame;
      edges = g.edges;
      process = process;
      release = release;
      deadline = deadline;
      budget = budget;
      rows = g.rows;
    }) (graph_from told)
unfolding graph_from
graph_is g {process = process} {release = release} {deadline = deadline} {budget = budget} e size f p r d b =
    let full : length g.jobs ≡ 128 = ap (λ (x : PrecedenceGraph). length x.jobs) e ∙ size in
    rw (
      f,
      column_is no_job (λ (j : Job). j.process) refl g.jobs full process p,
      column_is no_job (λ (j : Job). j.release) refl g.jobs full release r,
      column_is no_job (λ (j : Job). j.deadline) refl g.jobs full deadline d,
      column_is no_job (λ (j : Job). j.budget) refl g.jobs full budget b,
    ) (ap graph_from e)

pub answer_is : (a : Answer) {told : Answer} {n : ℕ} → a ≡ told → n ≡ reply_number a.reply → ◌≡◌ {A = FppnAnswer} (record { reply = n; place = a.place }) (answer_from told)
unfolding answer_from
answer_is a e f = rw f (ap answer_from e)

pub turned_is : (t : TurnRan) {told : TurnRan} {n : ℕ} → t ≡ told → n ≡ reply_number t.answer.reply
    → ◌≡◌ {A = FppnTurned}
    (record {
      reply = n;
      place = t.answer.place;
      frames = t.frames;
      jobs = t.jobs;
      working = t.working;
      waiting = t.waiting;
      variables = t.variables;
      channels = t.channels;
    })
    (turned_from told)
unfolding turned_from
turned_is t e f = rw f (ap turned_from e)

pub listed_is : (l : Listed) {told : Listed} {n : ℕ} → l ≡ told → n ≡ reply_number l.answer.reply
    → ◌≡◌ {A = FppnListed} (record { reply = n; place = l.answer.place; length = l.length }) (listed_from told)
unfolding listed_from
listed_is l e f = rw f (ap listed_from e)
