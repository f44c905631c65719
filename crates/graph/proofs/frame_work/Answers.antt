-- `frame_work` meets its contract: each part by the laws of a network that was read.
use Rattle.std.proofs.Common.{sym, arith, length-take-le}
use Rattle.graph.specs.EntryLaws.{few, whole}
use Rattle.graph.proofs.Slices.{slice_size, jobs_told, told_front, before_front}
use Rattle.graph.proofs.frame_work.Goals as goal

pub slice_bounds-jobs-end : goal.slice_bounds-jobs-end
slice_bounds-jobs-end c = omega (arith, (jobs_told c.requires c.in_sequence-frame.ensures).few_jobs)

pub slice_bounds-before_rows-end : goal.slice_bounds-before_rows-end
slice_bounds-before_rows-end c = sym (length-take-le _ _ (omega (arith, (jobs_told c.requires c.in_sequence-frame.ensures).few_jobs)))

pub slice_bounds-ahead-end : goal.slice_bounds-ahead-end
slice_bounds-ahead-end c = omega (arith, few c.requires, slice_size c.requires c.processes-n.ensures.value)

pub slice_bounds-before_rows-end-2 : goal.slice_bounds-before_rows-end-2
slice_bounds-before_rows-end-2 c = sym (length-take-le _ _ (omega (arith, few c.requires, slice_size c.requires c.processes-n.ensures.value)))

pub before_rows-before-requires : goal.before_rows-before-requires
before_rows-before-requires c = let told = c.in_sequence-frame.ensures in
    told_front c.requires told _ (slice_size c.requires c.processes-n.ensures.value) (omega (arith, few c.requires)) (omega (arith, (jobs_told c.requires told).few_jobs))

pub overflow_cast-result : goal.overflow_cast-result
overflow_cast-result c = omega (arith, (jobs_told c.requires c.in_sequence-frame.ensures).few_jobs)

pub returns : goal.returns
returns c = let told = c.in_sequence-frame.ensures in
    rw c.done.ensures (whole c.requires _ told.ahead told.frame told.table
    (before_front c.requires told _ (slice_size c.requires c.processes-n.ensures.value) (omega (arith, few c.requires))
    (omega (arith, (jobs_told c.requires told).few_jobs)) _ c.before_rows-before.ensures))
