-- The published graph: "the transitive reduction: an edge stays exactly when no other path joins its ends". And what the calls return.
use Rattle.std.specs.Prelude.{ℕ, ◌≡◌, Bool, true, not, ◌&&◌, List, replicate}
use Rattle.reply.specs.Tools.{any, count, sum}
use Rattle.reply.specs.Result.{Result, answer_of, or_zero}
use Rattle.marks.specs.Row.{row_of, no_marks}
use Rattle.marks.specs.declared.Row.{Row}
use Rattle.network.specs.Lists.{table, fill_to}
use Rattle.network.specs.Chains.{Chain, Relation, holds, relation, chains}
use Rattle.network.specs.Net.{fill, no_network}
use Rattle.graph.specs.Sequence.{no_job}
use Rattle.graph.specs.Work.{Work, job_count_of, precedes, load_work}
use Rattle.graph.specs.declared.Framed.{Framed}
use Rattle.graph.specs.declared.PrecedenceGraph.{PrecedenceGraph}

-- a path from job to job
abbrev pub Path : Work → ℕ → ℕ → Type 0
Path w i j = Chain (precedes w) i j

-- another path from i to j than the edge itself: a step to some job, and a path from there
pub record Other (w : Work) (i j : ℕ) : Type 0 where
  pub over : ℕ
  pub step : precedes w i over ≡ true
  pub path : Path w over j

-- of a relation of the numbers below n: whether its edge from i to j stays, by where its paths lead
unfoldable pub stays_by : ℕ → Relation → Relation → ℕ → ℕ → Bool
stays_by n before paths i j = holds before i j && not (any n (λ k. holds before i k && holds paths k j))

-- the edges that stay
unfoldable pub reduction_of : ℕ → Relation → Relation
reduction_of n before = let paths = chains n (holds before) in relation n (stays_by n before paths)

unfoldable pub edges_of : ℕ → Relation → ℕ
edges_of n edges = sum n (λ i. count n (λ j. holds edges i j))

abbrev pub reduction : Work → Relation
reduction w = reduction_of (job_count_of w) w.before

abbrev pub stays : Work → ℕ → ℕ → Bool
stays w i j = holds (reduction w) i j

unfoldable pub edge_count : Work → ℕ
edge_count w = edges_of (job_count_of w) (reduction w)

-- ---- what the calls return

-- "kept as rows of 128 marks": row i marks each j that a relation holds with
unfoldable pub rows_from : ℕ → Relation → List Row
rows_from n r = table n (λ i. row_of (λ j. holds r i j))

-- row j marks each i that a relation holds from
unfoldable pub rows_to : ℕ → Relation → List Row
rows_to n r = table n (λ j. row_of (λ i. holds r i j))

abbrev pub framed_of : Result Work → Framed
framed_of r = record {
  answer = answer_of r;
  network = or_zero no_network (λ (w : Work). fill w.net) r;
  frame = or_zero 0 (λ (w : Work). w.frame) r;
  job_count = or_zero 0 job_count_of r;
  jobs = or_zero (replicate 128 no_job) (λ (w : Work). fill_to 128 no_job w.jobs) r;
  before = or_zero (replicate 128 no_marks) (λ (w : Work). fill_to 128 no_marks (rows_to (job_count_of w) w.before)) r;
}

unfoldable pub frame_file : List ℕ → Framed
frame_file file = framed_of (load_work file)

abbrev pub graph_of : Result Work → PrecedenceGraph
graph_of r = record {
  answer = answer_of r;
  job_count = or_zero 0 job_count_of r;
  frame = or_zero 0 (λ (w : Work). w.frame) r;
  edges = or_zero 0 edge_count r;
  jobs = or_zero (replicate 128 no_job) (λ (w : Work). fill_to 128 no_job w.jobs) r;
  rows = or_zero (replicate 128 no_marks) (λ (w : Work). fill_to 128 no_marks (rows_from (job_count_of w) (reduction w))) r;
}

unfoldable pub graph_file : List ℕ → PrecedenceGraph
graph_file file = graph_of (load_work file)
