-- Which jobs have finished.
use Rattle.std.specs.Prelude.{ℕ, ◌<◌, ◌≡◌, ◌⊎◌, true}
use Rattle.promises.specs.Turns.{Between, is_finished}

-- job j of frame f has finished, of J jobs in a frame: the frame has, or it is the present one and the job has
abbrev pub HasFinished : ℕ → Between → ℕ → ℕ → Type 0
HasFinished J c f j = (j < J) × ((f < c.frames) ⊎ ((f ≡ c.frames) × (is_finished c j ≡ true)))
