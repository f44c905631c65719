-- `run` meets its contract: it answers what `run_file` comes to; and what that leaves keeps the rule and the deadlines.
use Rattle.std.proofs.Common.{ap, ◌∙◌}
use Rattle.reply.specs.Told.{answered}
use Rattle.plan.proofs.ToldSteps.{answered_told}
use Rattle.timed.specs.Timed.{timed_call}
use Rattle.timed.proofs.Promise.{told_time, told_in_time}
use Rattle.timed.proofs.run.Goals as goal

pub returns : goal.returns
returns c =
    let result = c.from.ensures ∙ ap answered c.run_file.ensures.result ∙ answered_told (timed_call c.args.file.now c.args.processors c.args.plan.now c.args.durations.now c.args.out.now) in
    let filled = c.run_file.ensures.filled in
    record {
      result = result;
      filled = filled;
      timed = told_time _ _ _ _ _ result filled;
      in_time = told_in_time _ _ _ _ _ result filled;
    }
