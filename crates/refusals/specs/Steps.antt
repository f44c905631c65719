-- The steps that calls share: none of their refusals says "done". And how many jobs a file has.
use Rattle.std.specs.Prelude.{ℕ, ◌≡◌, ◌&&◌, List, leb, length}
use Rattle.std.proofs.Common.{arith}
use Rattle.reply.specs.Result.{Result, done, and_then}
use Rattle.reply.specs.ResultLaws.{Honest, honest_then, honest_require}
use Rattle.reply.specs.Call.{ok_processors, ok_frames, ok_room}
use Rattle.reply.specs.declared.Reply.TheVariants.{OutOfRange, ShortBuffer}
use Rattle.graph.specs.Work.{Work, load_work, job_count_of}
use Rattle.graph.specs.Graph.{frame_file}
use Rattle.graph.specs.FileLaws.{honest_work}
use Rattle.refusals.specs.Refusals.{jobs_in}

-- each of them, before whatever comes next
module _ {A : Type 0} where
  pub after_processors : (m : ℕ) {next : Unit {0} → Result A} → ((ok : Unit {0}) → Honest (next ok)) → Honest (and_then (ok_processors m) next)
  after_processors m {next} h = honest_then (ok_processors m) next (honest_require (leb 1 m && leb m 4) OutOfRange 0 (omega arith)) h

  pub after_frames : (f : ℕ) {next : Unit {0} → Result A} → ((ok : Unit {0}) → Honest (next ok)) → Honest (and_then (ok_frames f) next)
  after_frames f {next} h = honest_then (ok_frames f) next (honest_require (leb 1 f && leb f 100) OutOfRange 0 (omega arith)) h

  pub after_room : (needed : ℕ) (buffer : List ℕ) {next : Unit {0} → Result A} → ((ok : Unit {0}) → Honest (next ok)) → Honest (and_then (ok_room needed buffer) next)
  after_room needed buffer {next} h = honest_then (ok_room needed buffer) next (honest_require (leb needed (length buffer)) ShortBuffer 0 (omega arith)) h

  pub after_file : (file : List ℕ) {next : Work → Result A} → ((w : Work) → Honest (next w)) → Honest (and_then (load_work file) next)
  after_file file {next} h = honest_then (load_work file) next (honest_work file) h

-- the jobs of an accepted file
pub jobs_of_lem : (file : List ℕ) (w : Work) → load_work file ≡ done w → jobs_in file ≡ job_count_of w
unfolding frame_file
jobs_of_lem file w e = rw e
