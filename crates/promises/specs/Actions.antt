-- One action of a job that is under way on a processor.
use Rattle.std.specs.Prelude.{ℕ, suc, ◌≡◌, ◌⊎◌, true, false}
use Rattle.graph.specs.Work.{process_of}
use Rattle.machine.specs.WholeJob.{at_end, act_under, act_state}
use Rattle.machine.specs.Samples.{sample_at}
use Rattle.machine.specs.declared.Under.{Under}
use Rattle.promises.specs.Turns.{Between, Run, stand_of, index_of}

-- what job j, under way on processor p, keeps after its next action
abbrev pub next_under : Run → ℕ → ℕ → Between → Under
next_under r p j c = act_under r.work.net (process_of r.work j) (stand_of c p).under c.state

-- one action of job j, under way on processor p
pub record OneAction (r : Run) (p j : ℕ) (c c' : Between) : Type 0 where
  -- the state is the one after the job's next action
  pub state : c'.state ≡ act_state r.work.net (process_of r.work j) (sample_at r.input (index_of r c j)) (stand_of c p).under c.state
  -- the job goes on there, or it has come to its end, and nothing is under way there
  pub then : ((at_end r.work.net (process_of r.work j) (next_under r p j c) ≡ false) × (stand_of c' p ≡ record { job = suc j; under = next_under r p j c }))
      ⊎ ((at_end r.work.net (process_of r.work j) (next_under r p j c) ≡ true) × ((stand_of c' p).job ≡ 0))
