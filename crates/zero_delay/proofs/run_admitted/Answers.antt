-- `run_admitted` meets its contract: the tables are those of the network, and the frames are run on them.
use Rattle.graph.specs.FrameOf.{few_jobs}
use Rattle.zero_delay.specs.CallLaws.{first_process, jobs_there, kinds_there, ready, frames_ready, result_after, filled_is}
use Rattle.zero_delay.proofs.run_admitted.Goals as goal

pub shared_ref_as_front-jobs : goal.shared_ref_as_front-jobs
shared_ref_as_front-jobs c = few_jobs c.requires.frame

pub run-requires : goal.run-requires
run-requires c =
    let admitted = c.requires in
    let tables = c.of-tables.ensures in
    rw (jobs_there c.requires.frame, c.empty-state.ensures, tables.program, tables.counts, tables.channels)
    (record { ready = ready admitted.frame (kinds_there admitted.frame) (first_process _ _); frames_ready = frames_ready admitted })

pub returns : goal.returns
returns c =
    let frame = c.requires.frame in
    let tables = c.of-tables.ensures in
    let did = rw (jobs_there c.requires.frame, c.empty-state.ensures, tables.program, tables.counts, tables.channels) at c.run.ensures in
    record {
      result = rw (c.done.ensures, c.held.ensures) (result_after frame (kinds_there frame) (first_process _ _) did);
      filled = filled_is frame (kinds_there frame) (first_process _ _) did;
    }
