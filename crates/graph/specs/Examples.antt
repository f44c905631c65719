-- The graph of network K, as the definitions compute it.
use Rattle.std.specs.Prelude.{ℕ, ◌≡◌, refl, List, [], ◌∷◌, map, take}
use Rattle.graph.specs.Graph.{graph_file}
use Rattle.graph.specs.Opens.{graph_definitions}
use Rattle.graph.specs.declared.Job.{Job}
use Rattle.graph.specs.declared.PrecedenceGraph.{PrecedenceGraph}

K : List ℕ
K =
    1 ∷ 3 ∷ 20 ∷ 1 ∷ 20 ∷ 3 ∷ 10 ∷ 1 ∷ 10 ∷ 4 ∷ 20 ∷ 1 ∷ 20 ∷ 6 ∷ 2 ∷ 0 ∷ 1 ∷ 1 ∷ 2 ∷ 2 ∷ 0 ∷ 0 ∷ 1 ∷ 2 ∷ 1 ∷ 1 ∷ 2 ∷ 1 ∷ 3 ∷ 5 ∷ 0 ∷ 1 ∷ 0 ∷ 7 ∷ 1 ∷ 1 ∷ 0 ∷ 4 ∷ 0 ∷ 0 ∷ 0 ∷ 3 ∷ 3 ∷ 0 ∷ 0 ∷ 1 ∷ 7 ∷ 1 ∷ 1 ∷ 0 ∷ 4 ∷ 1 ∷ 0 ∷ 0 ∷ 3 ∷ 3 ∷ 1 ∷ 0 ∷ 1 ∷ 7 ∷ 1 ∷ 1 ∷ 0 ∷ 6 ∷ 0 ∷ 0 ∷ 0 ∷ []

-- jobs, frame length, edges
abbrev sizes : PrecedenceGraph → ℕ × ℕ × ℕ
sizes g = (g.job_count, g.frame, g.edges)

k_sizes : sizes (graph_file K) ≡ (4, 20, 3)
unfolding K graph_definitions
k_sizes = refl

-- process, release, deadline, budget
abbrev numbers_of : Job → List ℕ
numbers_of x = x.process ∷ x.release ∷ x.deadline ∷ x.budget ∷ []

k_jobs : map numbers_of (take 4 (graph_file K).jobs) ≡ (0 ∷ 0 ∷ 20 ∷ 3 ∷ []) ∷ (1 ∷ 0 ∷ 10 ∷ 4 ∷ []) ∷ (2 ∷ 0 ∷ 20 ∷ 6 ∷ []) ∷ (1 ∷ 10 ∷ 20 ∷ 4 ∷ []) ∷ []
unfolding K graph_definitions
k_jobs = refl
