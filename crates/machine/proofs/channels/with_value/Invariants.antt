-- `channels::with_value` meets its contract: the new value stands once its place was passed.
use Rattle.std.proofs.Common.{◌≡◌, ◌<◌, ◌≤◌, set}
use Rattle.machine.proofs.channels.with_value.Given as goal

abbrev pub invariant-loop-k : goal.invariant-loop-k
invariant-loop-k l = record { passed : l.at < l.k → l.written ≡ set l.fn.values l.at l.value; ahead : l.k ≤ l.at → l.written ≡ l.fn.values }
