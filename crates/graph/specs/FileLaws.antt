-- The calls on a file, accepted or refused, by what the reader says of it.
use Rattle.std.specs.Prelude.{ℕ, ◌≡◌, List, length, replicate}
use Rattle.std.proofs.Math.Path.{refl}
use Rattle.std.proofs.Common.{sym, ap, ◌∙◌}
use Rattle.std.proofs.lemmas.List.{length-replicate}
use Rattle.reply.specs.Reply.{reply_number}
use Rattle.reply.specs.Result.{Result, done, refused, and_then}
use Rattle.reply.specs.ResultLaws.{Honest, honest_done, honest_then, zero_means, other_means}
use Rattle.marks.specs.Row.{no_marks}
use Rattle.network.specs.ListLaws.{length_fill}
use Rattle.network.specs.Net.{Net, within}
use Rattle.network.specs.Read.{load, read_file}
use Rattle.network.specs.Valid.{Valid}
use Rattle.network.specs.Honest.{honest_load}
use Rattle.network.specs.declared.Loaded.{Loaded}
use Rattle.roundtrip.specs.Promise.{read_valid, within_fill}
use Rattle.graph.specs.Sequence.{no_job}
use Rattle.graph.specs.Work.{work_of, load_work}
use Rattle.graph.specs.Graph.{framed_of, frame_file, graph_of, graph_file}
use Rattle.graph.specs.Promise.{jobs_are}
use Rattle.graph.specs.FrameTold.{Accepted}
use Rattle.graph.specs.declared.Framed.{Framed}
use Rattle.graph.specs.declared.PrecedenceGraph.{PrecedenceGraph}

-- ---- the frame of a file

module _ (file : List ℕ) (loaded : Loaded) (read : loaded ≡ read_file file) where
  -- reply 0: the struct is that of a valid network
  module _ (zero : reply_number loaded.answer.reply ≡ 0) where
    said : reply_number (read_file file).answer.reply ≡ 0
    said = sym (ap (λ (l : Loaded). reply_number l.answer.reply) read) ∙ zero

    pub read_accepted : Accepted loaded.network
    unfolding read_file
    read_accepted =
        zero_means (load file) (honest_load file) said λ net l.
        record { net = net; valid = read_valid file net l; is = rw (read, l) refl }

    pub frame_done : framed_of (done (work_of (within loaded.network))) ≡ frame_file file
    unfolding read_file frame_file load_work
    frame_done =
        zero_means (load file) (honest_load file) said λ net l.
        rw (read, l) (rw (within_fill net (read_valid file net l)) refl)

  -- another reply: all is zero but the answer
  pub frame_refused : (reply_number loaded.answer.reply ≡ 0 → ⊥)
      → ◌≡◌ {A = Framed}
      (record { answer = loaded.answer; network = loaded.network; frame = 0; job_count = 0; jobs = replicate 128 no_job; before = replicate 128 no_marks })
      (frame_file file)
  unfolding read_file frame_file load_work
  frame_refused other = other_means (load file) (λ z. other (rw read z)) λ reply place l. rw (read, l) refl

-- ---- the graph of a file

abbrev graph_by : Result Net → PrecedenceGraph
graph_by r = graph_of (and_then r λ net. done (work_of net))

module _ (file : List ℕ) (loaded : Loaded) (read : loaded ≡ read_file file) where
  pub graph_done : reply_number loaded.answer.reply ≡ 0 → graph_of (done (work_of (within loaded.network))) ≡ graph_file file
  unfolding read_file graph_file load_work
  graph_done zero =
      zero_means (load file) (honest_load file) (said file loaded read zero) λ net l.
      rw (read, l) (rw (within_fill net (read_valid file net l)) refl)

  -- another reply: all is zero but the answer
  pub graph_refused : (reply_number loaded.answer.reply ≡ 0 → ⊥)
      → ◌≡◌ {A = PrecedenceGraph}
      (record { answer = loaded.answer; job_count = 0; frame = 0; edges = 0; jobs = replicate 128 no_job; rows = replicate 128 no_marks })
      (graph_file file)
  unfolding read_file graph_file load_work
  graph_refused other = other_means (load file) (λ z. other (rw read z)) λ reply place l. rw (read, l) refl

-- no refusal of a file says "done"
pub honest_work : (file : List ℕ) → Honest (load_work file)
unfolding load_work
honest_work file = honest_then (load file) (λ net. done (work_of net)) (honest_load file) (λ net. honest_done (work_of net))

-- the table of jobs has 128 places
table_by : (r : Result Net) → ((net : Net) → r ≡ done net → Valid net) → length (graph_by r).jobs ≡ 128
table_by (done net) v = length_fill 128 no_job (work_of net).jobs (jobs_are net (v net refl)).most
table_by (refused reply place) v = length-replicate 128 no_job

pub graph_table : (file : List ℕ) → length (graph_file file).jobs ≡ 128
unfolding graph_file load_work
graph_table file = table_by (load file) (read_valid file)
