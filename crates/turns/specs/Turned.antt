-- What a turn run returns, and the output words afterwards.
use Rattle.std.specs.Prelude.{ℕ, List, map, replicate}
use Rattle.std.proofs.lemmas.List.Edits.{sets}
use Rattle.reply.specs.Result.{Result, answer_of, or_zero}
use Rattle.machine.specs.HeldOf.{held_of, no_held}
use Rattle.promises.specs.Turns.{Between, finished_count}
use Rattle.turns.specs.declared.TurnRan.{TurnRan}

-- all zero when it is refused
unfoldable pub turned_of : Result Between → TurnRan
turned_of r = record {
  answer = answer_of r;
  frames = or_zero 0 (λ (c : Between). c.frames) r;
  jobs = or_zero 0 finished_count r;
  working = or_zero 0 (λ (c : Between). c.working) r;
  waiting = or_zero 0 (λ (c : Between). c.waiting) r;
  variables = or_zero (replicate 96 0) (λ (c : Between). c.state.variables) r;
  channels = or_zero (replicate 16 no_held) (λ (c : Between). map held_of c.state.channels) r;
}

-- the words of its jobs stand at the front; a refused call writes nothing
unfoldable pub turn_filled : Result Between → List ℕ → List ℕ
turn_filled r output = or_zero output (λ (c : Between). sets output 0 c.words) r
