-- `graph_work` meets its contract: each part by the laws of a network that was read.
use Rattle.std.proofs.Common.{sym, arith, length-take-le}
use Rattle.graph.specs.EntryLaws.{few, after_later, whole_graph}
use Rattle.graph.proofs.Slices.{slice_size, jobs_told, told_front, after_front, later_front, reduced_front}
use Rattle.graph.proofs.graph_work.Goals as goal

pub slice_bounds-jobs-end : goal.slice_bounds-jobs-end
slice_bounds-jobs-end c = omega (arith, (jobs_told c.requires c.in_sequence-frame.ensures).few_jobs)

pub slice_bounds-after_rows-end : goal.slice_bounds-after_rows-end
slice_bounds-after_rows-end c = sym (length-take-le _ _ (omega (arith, (jobs_told c.requires c.in_sequence-frame.ensures).few_jobs)))

pub slice_bounds-ahead-end : goal.slice_bounds-ahead-end
slice_bounds-ahead-end c = omega (arith, few c.requires, slice_size c.requires c.processes-n.ensures.value)

pub slice_bounds-after_rows-end-2 : goal.slice_bounds-after_rows-end-2
slice_bounds-after_rows-end-2 c = sym (length-take-le _ _ (omega (arith, few c.requires, slice_size c.requires c.processes-n.ensures.value)))

pub after_rows-after-requires : goal.after_rows-after-requires
after_rows-after-requires c = let told = c.in_sequence-frame.ensures in
    told_front c.requires told _ (slice_size c.requires c.processes-n.ensures.value) (omega (arith, few c.requires)) (omega (arith, (jobs_told c.requires told).few_jobs))

pub slice_bounds-after-end : goal.slice_bounds-after-end
slice_bounds-after-end c = omega (arith, (jobs_told c.requires c.in_sequence-frame.ensures).few_jobs)

pub slice_bounds-reduce-end : goal.slice_bounds-reduce-end
slice_bounds-reduce-end c = sym (length-take-le _ _ (omega (arith, (jobs_told c.requires c.in_sequence-frame.ensures).few_jobs)))

pub reduce-edges-requires : goal.reduce-edges-requires
reduce-edges-requires c = let told = c.in_sequence-frame.ensures in
    let few_jobs = (jobs_told c.requires told).few_jobs in
    let later = after_later c.requires _ told.ahead told.frame told.table
    (after_front c.requires told _ (slice_size c.requires c.processes-n.ensures.value) (omega (arith, few c.requires)) (omega (arith, few_jobs)) _ c.after_rows-after.ensures) in
    later_front _ _ (omega (arith, few_jobs)) later.0 later.1

pub overflow_cast-result : goal.overflow_cast-result
overflow_cast-result c = omega (arith, (jobs_told c.requires c.in_sequence-frame.ensures).few_jobs)

pub returns : goal.returns
returns c = let told = c.in_sequence-frame.ensures in
    let few_jobs = (jobs_told c.requires told).few_jobs in
    rw c.done.ensures (whole_graph c.requires _ told.ahead told.frame told.table
    (after_front c.requires told _ (slice_size c.requires c.processes-n.ensures.value) (omega (arith, few c.requires)) (omega (arith, few_jobs)) _ c.after_rows-after.ensures)
    (reduced_front _ _ (omega (arith, few_jobs)) _ _ c.reduce-edges.ensures))
