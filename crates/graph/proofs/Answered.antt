-- What an answer that is no refusal says, and one that is.
use Rattle.std.specs.Prelude.{ℕ, ◌≡◌, Ok, Err, true, List, eqb, replicate}
use Rattle.std.proofs.Common.{refl, ap, ◌∙◌, eqb-true, eq-eqb}
use Rattle.std.specs.Result.{is_ok}
use Rattle.std.specs.declared.result.Result as Std
use Rattle.reply.specs.Tests.{split, clash}
use Rattle.reply.specs.Told.{refusal_in}
use Rattle.reply.specs.Reply.{reply_number}
use Rattle.reply.specs.declared.Answer.{Answer}
use Rattle.reply.specs.declared.Refusal.{Refusal}
use Rattle.marks.specs.Row.{no_marks}
use Rattle.marks.specs.declared.Row.{Row}
use Rattle.network.specs.Read.{read_file}
use Rattle.network.specs.declared.Loaded.{Loaded}
use Rattle.graph.specs.Sequence.{no_job}
use Rattle.graph.specs.Graph.{frame_file, graph_file}
use Rattle.graph.specs.FileLaws.{frame_refused, graph_refused}
use Rattle.graph.specs.declared.Framed.{Framed}
use Rattle.graph.specs.declared.PrecedenceGraph.{PrecedenceGraph}

same_refusal : {a b : Refusal} → ◌≡◌ {A = Std.Result (Unit {0}) Refusal} (Err a) (Err b) → a ≡ b
same_refusal e = cc

module _ (answer : Answer) where
  pub ok_zero : Ok tt ≡ refusal_in answer → reply_number answer.reply ≡ 0
  ok_zero e = split (eqb (reply_number answer.reply) 0)
      (λ t. eqb-true (reply_number answer.reply) 0 t)
      (λ t. clash refl (ap is_ok (rw t at e)))

  module _ (refusal : Refusal) (e : Err refusal ≡ refusal_in answer) where
    pub err_other : reply_number answer.reply ≡ 0 → ⊥
    err_other z = let t : eqb (reply_number answer.reply) 0 ≡ true = eq-eqb (reply_number answer.reply) 0 z in clash (ap is_ok (rw t at e)) refl

    pub err_answer : ◌≡◌ {A = Answer} (record { reply = refusal.reply; place = refusal.place }) answer
    err_answer = split (eqb (reply_number answer.reply) 0)
        (λ t. absurd (err_other (eqb-true (reply_number answer.reply) 0 t)))
        (λ t. ap (λ (r : Refusal). record { reply = r.reply; place = r.place }) (same_refusal (rw t at e)))

-- ---- a refused file: all is zero but the answer, and what the reader gives

module _ (file : List ℕ) (loaded : Loaded) (refusal : Refusal) (answer : Answer) (none : Row) (read : loaded ≡ read_file file) (e : Err refusal ≡ refusal_in loaded.answer)
    (a : answer ≡ record { reply = refusal.reply; place = refusal.place }) (n : none ≡ no_marks) where
  same_answer : answer ≡ loaded.answer
  same_answer = a ∙ err_answer loaded.answer refusal e

  pub no_frame : ◌≡◌ {A = Framed}
      (record { answer = answer; network = loaded.network; frame = 0; job_count = 0; jobs = replicate 128 no_job; before = replicate 128 none })
      (frame_file file)
  no_frame = rw (same_answer, n) (frame_refused file loaded read (err_other loaded.answer refusal e))

  pub no_graph : ◌≡◌ {A = PrecedenceGraph}
      (record { answer = answer; job_count = 0; frame = 0; edges = 0; jobs = replicate 128 no_job; rows = replicate 128 none })
      (graph_file file)
  no_graph = rw (same_answer, n) (graph_refused file loaded read (err_other loaded.answer refusal e))
