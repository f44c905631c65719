-- What a run returns of its channels: "the number held, its values oldest first and zeros after them, and the loss count".
use Rattle.std.specs.Prelude.{length, replicate}
use Rattle.network.specs.Lists.{fill_to}
use Rattle.machine.specs.State.{Contents}
use Rattle.machine.specs.declared.Held.{Held}

abbrev pub held_of : Contents → Held
held_of c = record { number = length c.held; values = fill_to 8 0 c.held; loss = c.loss }

abbrev pub no_held : Held
no_held = record { number = 0; values = replicate 8 0; loss = 0 }
