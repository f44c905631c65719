-- `Planned::of` meets its contract.
use Rattle.std.proofs.Common.{refl}
use Rattle.turns.proofs.planned.Planned.of.Goals as goal

pub returns : goal.returns
returns c = record {
  program = c.of.ensures.program;
  counts = c.of.ensures.counts;
  channels = c.of.ensures.channels;
  jobs = refl;
  processes = c.processes.ensures;
  before = refl;
  firsts = c.first.ensures;
  afters = c.after.ensures;
}
