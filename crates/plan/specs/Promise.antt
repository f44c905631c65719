-- The numbers that the planner meets.
use Rattle.std.specs.Prelude.{ℕ, ◌+◌, ◌≤◌, ◌<◌, ◌≡◌, true}
use Rattle.graph.specs.Work.{Work, job_count_of, cost}
use Rattle.plan.specs.Plan.{end_at, Planning, is_placed, last_end, can_place, start_on}

-- the numbers that the planner meets while s is placed: no sum of them passes 32 bits
pub record Small (w : Work) (s : Planning) : Type 0 where
  -- the last end on a processor
  pub last : (p : ℕ) → last_end s p ≤ 2000
  -- the end of a job that is placed
  pub ends : (j : ℕ) → j < job_count_of w → is_placed s j ≡ true → end_at w s.words j ≤ 2000
  -- the start, on any processor, of a job that can be placed
  pub starts : (j p : ℕ) → j < job_count_of w → can_place w s j ≡ true → start_on w s j p ≤ 2000
  -- and its end there, before it is held against the deadline
  pub tries : (j p : ℕ) → j < job_count_of w → can_place w s j ≡ true → start_on w s j p + cost w j ≤ 4000
