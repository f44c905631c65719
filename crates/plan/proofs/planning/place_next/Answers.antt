-- `planning::place_next` meets its contract: the job that is next is placed, or misses its deadline.
use Rattle.std.proofs.Common.{ℕ, ◌<◌, Fits, w32, arith}
use Rattle.plan.specs.PlanSteps.{one_to_place, job_fits, processor_fits, end_fits, misses, placed_so}
use Rattle.plan.proofs.planning.place_next.Goals as goal

fits_word : (x : ℕ) → x < 4294967296 → Fits w32 x
fits_word x h = omega arith

pub find_next-next-requires : goal.find_next-next-requires
find_next-next-requires c = one_to_place c.requires.reached c.requires.below

pub offset_bounds-framed-next : goal.offset_bounds-framed-next
offset_bounds-framed-next c = let pre = c.requires in omega (arith, job_fits pre.reached pre.below c.find_next-next.ensures)

pub bounds-framed-next : goal.bounds-framed-next
bounds-framed-next c = let pre = c.requires in job_fits pre.reached pre.below c.find_next-next.ensures

pub overflow_add-end : goal.overflow_add-end
overflow_add-end c = let pre = c.requires in fits_word _ (end_fits pre.reached pre.below c.find_next-next.ensures)

pub offset_bounds-framed-next-2 : goal.offset_bounds-framed-next-2
offset_bounds-framed-next-2 c = let pre = c.requires in omega (arith, job_fits pre.reached pre.below c.find_next-next.ensures)

pub bounds-framed-next-2 : goal.bounds-framed-next-2
bounds-framed-next-2 c = let pre = c.requires in job_fits pre.reached pre.below c.find_next-next.ensures

pub returns-then-framed-next : goal.returns-then-framed-next
returns-then-framed-next c = record { is = λ w k h R. misses R h c.find_next-next.ensures c.if-framed-next.true }

pub overflow_cast-words : goal.overflow_cast-words
overflow_cast-words c = let pre = c.requires in omega (arith, processor_fits pre.reached pre.below c.find_next-next.ensures)

pub stand-requires : goal.stand-requires
stand-requires c = let pre = c.requires in (job_fits pre.reached pre.below c.find_next-next.ensures, processor_fits pre.reached pre.below c.find_next-next.ensures)

pub returns : goal.returns
returns c = record { is = λ w k h R. rw c.stand.ensures (placed_so R h c.find_next-next.ensures c.if-framed-next.false) }
