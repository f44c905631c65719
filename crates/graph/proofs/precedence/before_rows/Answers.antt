-- `precedence::before_rows` meets its contract.
use Rattle.std.proofs.Common.{refl, rules}
use Rattle.graph.proofs.BeforeJobs.{before_end, before_part}
use Rattle.graph.proofs.Slices.{take_whole}
use Rattle.graph.proofs.precedence.before_rows.Goals as goal

pub returns : goal.returns
returns c = let by = c.rows_by.ensures in
    rw (take_whole c.args.jobs.now) at (before_end _ _ _ _ c.requires _ _ by.told.own by.told.related _ (record {
      size = by.size;
      done = λ j z h. let (passed, marks, post) = by.each j h in before_part by.relatives c.args.jobs.now j _ passed _ marks refl (search rules);
      past = by.past;
    }))
