-- `precedence::rows_by` meets its contract.
use Rattle.std.proofs.Common.{arith}
use Rattle.graph.proofs.BeforeJobs.{parts_begin, parts_go_on}
use Rattle.graph.proofs.precedence.rows_by.Goals as goal

pub loop-j-init : goal.loop-j-init
loop-j-init g c = parts_begin _ _ _ _ _ c.empty-passed.ensures c.empty-rows.ensures

pub loop-j-preserved : goal.loop-j-preserved
loop-j-preserved g c = parts_go_on _ _ _ _ (omega (arith, c.loop-j-test.true, c.requires.told.few_jobs)) _ _ c.loop-j.invariant _ _ c.with-passed.ensures c.part.ensures

pub returns : goal.returns
returns g c = record {
  relatives = _;
  told = c.relatives-related.ensures;
  size = c.loop-j.invariant.size;
  each = λ j h. c.loop-j.invariant.each j (omega (arith, c.loop-j-test.false));
  past = λ j h. c.loop-j.invariant.past j (omega (arith, c.loop-j.auto.j-end));
}
