-- Which of two jobs that are apart is named first does not matter.
use Rattle.std.specs.Prelude.{ℕ, ◌≤◌, ◌⊎◌, List}
use Rattle.std.proofs.Common.{sym, inl, inr}
use Rattle.graph.specs.Work.{Work}
use Rattle.plan.specs.Plan.{start_at, end_at}
use Rattle.plan.specs.Feasible.{Apart}

module _ (w : Work) (plan : List ℕ) where
  -- which of the two is named first does not matter
  pub apart_turned : (i j : ℕ) → Apart w plan i j → Apart w plan j i
  apart_turned i j a same = go (a (sym same))
    where
      go : (end_at w plan i ≤ start_at plan j) ⊎ (end_at w plan j ≤ start_at plan i) → (end_at w plan j ≤ start_at plan i) ⊎ (end_at w plan i ≤ start_at plan j)
      go (inl l) = inr l
      go (inr l) = inl l
