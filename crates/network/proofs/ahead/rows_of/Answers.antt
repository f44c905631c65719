use Rattle.std.proofs.Common.{length-set, ap, List, length, ◌∙◌}
use lib.ListN.{length-replicate}
use Rattle.marks.specs.Row.{no_marks}
use Rattle.marks.specs.declared.Row.{Row}
use Rattle.network.proofs.PairMarks.{pairs_begin, pairs_go_on, added, left_out_higher, left_out_lower}
use Rattle.network.proofs.ahead.rows_of.Goals as goal
use Rattle.network.proofs.ahead.rows_of.Goals.{then-higher-lt12+then-lower-lt12, else-higher-lt12, else-higher-lt12-via-then-higher-lt12+else-lower-lt12, else-higher-lt12-via-else-higher-lt12}

pub loop-pair-init : goal.loop-pair-init
loop-pair-init c = record {
  size = ap (λ (l : List Row). length l) c.no_rows-rows.ensures ∙ length-replicate 12 no_marks;
  marks = pairs_begin c.args.pairs.now _ c.no_rows-rows.ensures;
}

pub loop-pair-preserved : goal.loop-pair-preserved
loop-pair-preserved c =
    let s = c.loop-pair.invariant in
    elim c.if-higher-lt12.branch [
      | then-higher-lt12+then-lower-lt12 w ↦ rw w.rows-is (record {
        size = length-set c.loop-pair.rows _ _ ∙ s.size;
        marks = pairs_go_on _ _ _ _ c.loop-pair-test.true s.marks (added _ _ _ s.size w.if-higher-lt12.true w.if-lower-lt12.true w.with.ensures);
      })
      | else-higher-lt12 w ↦ rw w.rows-is (record {
        size = s.size;
        marks = pairs_go_on _ _ _ _ c.loop-pair-test.true s.marks (elim w.else-higher-lt12.branch [
          | else-higher-lt12-via-then-higher-lt12+else-lower-lt12 v ↦ left_out_lower _ _ v.if-lower-lt12.false
          | else-higher-lt12-via-else-higher-lt12 v ↦ left_out_higher _ _ v.if-higher-lt12.false
        ]);
      })
    ]
