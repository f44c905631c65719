-- `precedence::after_rows` meets its contract.
use Rattle.std.proofs.Common.{refl, arith, rules}
use Rattle.graph.proofs.BeforeJobs.{after_end, after_part}
use Rattle.graph.proofs.Slices.{take_whole}
use Rattle.graph.proofs.precedence.after_rows.Goals as goal

pub returns : goal.returns
returns c = let by = c.rows_by.ensures in
    rw (take_whole c.args.jobs.now) at (after_end _ _ _ _ c.requires _ _ by.told.own by.told.related _ (record {
      size = by.size;
      done = λ j z h. let (passed, marks, post) = by.each j h in after_part by.relatives c.args.jobs.now j (omega (arith, c.requires.few_jobs)) _ passed _ marks refl (search rules);
      past = by.past;
    }))
