-- What "all else zero" says of the turn run's result, field by field.
use Rattle.std.specs.Prelude.{◌≡◌, replicate}
use Rattle.turns.specs.declared.TurnRan.{TurnRan}

-- what "all else zero" says of its result
pub record NoTurns (r : TurnRan) : Type 0 where
  pub frames : r.frames ≡ 0
  pub jobs : r.jobs ≡ 0
  pub working : r.working ≡ 0
  pub waiting : r.waiting ≡ 0
  pub variables : r.variables ≡ replicate 96 0
  pub channels : r.channels ≡ replicate 16 (record { number = 0; values = replicate 8 0; loss = 0 })
