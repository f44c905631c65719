-- The frame that a call was given: what it knows of an accepted file, and that the call goes on with the work of the file's network.
use Rattle.std.specs.Prelude.{ℕ, ◌≤◌, ◌≡◌, refl, List, get_or}
use Rattle.std.proofs.Common.{sym, ◌∙◌, arith}
use Rattle.std.proofs.Math.Path.{ap}
use Rattle.reply.specs.Result.{Result, done, refused, and_then, answer_of}
use Rattle.reply.specs.ResultLaws.{zero_means, other_means}
use Rattle.reply.specs.Reply.{reply_number}
use Rattle.network.specs.ListLaws.{fill_at}
use Rattle.network.specs.Net.{Net, fill, within}
use Rattle.network.specs.Valid.{Valid}
use Rattle.roundtrip.specs.Promise.{within_fill}
use Rattle.graph.specs.Sequence.{no_job}
use Rattle.graph.specs.Work.{Work, work_of, load_work, job_count_of}
use Rattle.graph.specs.WorkLaws.{work_net}
use Rattle.graph.specs.Graph.{framed_of, frame_file}
use Rattle.graph.specs.FileLaws.{honest_work}
use Rattle.graph.specs.Promise.{jobs_are, file_work}
use Rattle.graph.specs.declared.Framed.{Framed}

-- the frame of a valid network
pub record FrameOf (framed : Framed) : Type 0 where
  pub net : Net
  pub valid : Valid net
  pub is : framed ≡ framed_of (done (work_of net))

-- its work
abbrev pub work_in : Framed → Work
work_in framed = work_of (within framed.network)

module _ {framed : Framed} (frame : FrameOf framed) where
  pub network_is : framed.network ≡ fill frame.net
  network_is = ap (λ (x : Framed). x.network) frame.is ∙ ap fill (work_net frame.net)

  pub count_is : framed.job_count ≡ job_count_of (work_of frame.net)
  count_is = ap (λ (x : Framed). x.job_count) frame.is

  pub job_is : (j : ℕ) → get_or framed.jobs j no_job ≡ get_or (work_of frame.net).jobs j no_job
  job_is j = ap (λ (x : Framed). get_or x.jobs j no_job) frame.is ∙ fill_at 128 no_job (work_of frame.net).jobs j

  pub work_is : work_in framed ≡ work_of frame.net
  work_is = ap (λ n. work_of (within n)) network_is ∙ ap work_of (within_fill frame.net frame.valid)

  pub jobs_is : framed.job_count ≡ job_count_of (work_in framed)
  jobs_is = count_is ∙ sym (ap job_count_of work_is)

  pub few_jobs : framed.job_count ≤ 128
  few_jobs = omega (arith, count_is, (jobs_are frame.net frame.valid).most)

module _ (file : List ℕ) {framed : Framed} (told : framed ≡ frame_file file) where
  answer_is : framed.answer ≡ answer_of (load_work file)
  unfolding frame_file
  answer_is = ap (λ (x : Framed). x.answer) told

  -- an accepted file's network, and the work of the file
  accepted_as : reply_number framed.answer.reply ≡ 0 → {P : Type 0} → ((frame : FrameOf framed) → load_work file ≡ done (work_of frame.net) → P) → P
  unfolding frame_file
  accepted_as zero k =
      zero_means (load_work file) (honest_work file) (rw answer_is at zero) λ w e.
      let (net, l, valid, is) = file_work file w e in
      let work : load_work file ≡ done (work_of net) = e ∙ ap done is in
      k (record { net = net; valid = valid; is = told ∙ ap framed_of work }) work

  pub file_frame : reply_number framed.answer.reply ≡ 0 → FrameOf framed
  file_frame zero = accepted_as zero λ frame work. frame

  -- what a call does after the file was read
  module _ {A : Type 0} (k : Work → Result A) where
    pub file_accepted : reply_number framed.answer.reply ≡ 0 → and_then (load_work file) k ≡ k (work_in framed)
    file_accepted zero = accepted_as zero λ frame work. rw work (ap k (sym (work_is frame)))

    pub file_refused : (reply_number framed.answer.reply ≡ 0 → ⊥) → and_then (load_work file) k ≡ refused framed.answer.reply framed.answer.place
    file_refused other =
        other_means (load_work file) (λ z. other (rw answer_is z)) λ reply place e.
        rw (answer_is, e) refl
