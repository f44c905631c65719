-- `job` meets its contract: it goes on from its start to the end of the program.
use Rattle.std.proofs.Common.{arith, ap, inl}
use Rattle.machine.specs.declared.Under.{Under}
use Rattle.machine.proofs.job.Goals as goal

pub go_on-requires : goal.go_on-requires
go_on-requires c = let runs = c.requires in
    record {
      net = runs.net;
      kinds_are = runs.kinds_are;
      runnable = runs.runnable;
      capacities = runs.capacities;
      sound = runs.sound;
      room = record { room = λ ch. omega (arith, runs.room.room ch, ap (λ (u : Under). u.at) c.start.ensures) };
      how = inl c.start.ensures;
    }

pub returns : goal.returns
returns c = c.go_on.ensures.whole c.start.ensures

pub bounds-tables-p : goal.bounds-tables-p
bounds-tables-p c = omega (arith, c.requires.runnable.process)

pub offset_bounds-tables-p : goal.offset_bounds-tables-p
offset_bounds-tables-p c = omega (arith, c.requires.runnable.process)
