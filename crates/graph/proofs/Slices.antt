-- The first n of a list, lent as a slice: what holds of n and the list holds of the slice and its length.
use Rattle.std.specs.Prelude.{ℕ, ◌≤◌, ◌<◌, ◌≡◌, List, length, take}
use Rattle.std.proofs.Common.{sym, ap, subst, ◌∙◌, arith, take_all}
use lib.Seq.{get_or-take, length-take-le}
use Rattle.marks.specs.Row.{marked, no_marks}
use Rattle.marks.specs.declared.Row.{Row}
use Rattle.network.specs.Chains.{relation}
use Rattle.network.specs.Lists.{fill_to}
use Rattle.network.specs.ChainsSame.{relation_same}
use Rattle.network.specs.Frame.{no_process}
use Rattle.network.specs.Net.{Net, within}
use Rattle.network.specs.Valid.{GoodProcess}
use Rattle.network.specs.declared.Process.{Process}
use Rattle.network.specs.declared.Network.{Network}
use Rattle.graph.specs.Order.{row_relation}
use Rattle.graph.specs.Sequence.{no_job, sequence_to}
use Rattle.graph.specs.Work.{precedes_by}
use Rattle.graph.specs.Graph.{rows_from, rows_to}
use Rattle.graph.specs.SequenceTold.{FitsTable, HoldsJobs}
use Rattle.graph.specs.PrecedenceTold.{JobsTold}
use Rattle.graph.specs.FrameTold.{Accepted, IsSequenced}
use Rattle.graph.specs.EntryLaws.{count_is, net_is, processes_are, told_jobs}
use Rattle.graph.specs.ReductionTold.{Later, ReducedFrom}
use Rattle.graph.specs.declared.Job.{Job}
use Rattle.graph.specs.declared.sequence.Jobs.{Jobs}
use Rattle.graph.specs.declared.Sequenced.{Sequenced}

pub take_whole : {A : Type 0} (l : List A) → take (length l) l ≡ l
take_whole l = take_all (length l) l (omega arith)

-- the relation of the first n rows
pub relation_front : (n : ℕ) (rows : List Row) → n ≤ length rows → row_relation (length (take n rows)) (take n rows) ≡ row_relation n rows
unfolding row_relation
relation_front n rows h =
    ap (λ (k : ℕ). row_relation k (take n rows)) (length-take-le n rows h)
    ∙ relation_same n _ _ (λ a b i j. ap (λ (r : Row). marked r b) (get_or-take n rows a no_marks i))

-- the processes of a network that was read, lent as a slice, and as many rows
module _ {network : Network} (a : Accepted network) {processes : List Process} (is : processes ≡ (within network).processes) where
  slice_is : processes ≡ take network.process_count network.processes
  slice_is = is ∙ ap (λ (net : Net). net.processes) (net_is a) ∙ sym (processes_are a)

  pub slice_size : length processes ≡ network.process_count
  slice_size = ap length is ∙ ap (λ (net : Net). length net.processes) (net_is a) ∙ sym (count_is a)

  module _ (ahead : List Row) (few : network.process_count ≤ length ahead) (frame : ℕ) where
    rows_lent : row_relation (length processes) (take (length processes) ahead) ≡ row_relation network.process_count ahead
    rows_lent = rw slice_size (rw (length-take-le network.process_count ahead few) at (relation_front network.process_count ahead few))

    pub fits_lent : FitsTable network.process_count network.processes ahead frame → FitsTable (length processes) processes (take (length processes) ahead) frame
    fits_lent t = record {
      few = omega (arith, slice_size, t.few);
      short = t.short;
      good = λ p h. rw slice_is (subst GoodProcess (sym (get_or-take network.process_count network.processes p no_process (omega (arith, slice_size)))) (t.good p (omega (arith, slice_size))));
      room = λ time h. rw (take_whole processes, rows_lent, slice_is) (t.room time h);
    }

    pub sizes_lent : length (take (length processes) ahead) ≡ length processes
    sizes_lent = length-take-le (length processes) ahead (omega (arith, slice_size))

    pub holds_lent : (r : Jobs) → HoldsJobs (sequence_to processes (row_relation (length processes) (take (length processes) ahead)) frame) r
        → HoldsJobs (sequence_to (take network.process_count network.processes) (row_relation network.process_count ahead) frame) r
    holds_lent r h = rw (rows_lent, slice_is) at h

-- its jobs, from its processes as a slice
module _ {network : Network} (a : Accepted network) {r : Sequenced} (told : IsSequenced network r) where
  pub jobs_told : JobsTold network.process_count r.table.count r.table.jobs
  jobs_told = told_jobs a r.ahead told.ahead told.frame told.table

  module _ (k : ℕ) (size : k ≡ network.process_count) (few : network.process_count ≤ length r.ahead) (most : r.table.count ≤ length r.table.jobs) where
    pub told_front : JobsTold (length (take k r.ahead)) (length (take r.table.count r.table.jobs)) (take r.table.count r.table.jobs)
    told_front = rw (size, length-take-le network.process_count r.ahead few, length-take-le r.table.count r.table.jobs most) (record {
      few_processes = jobs_told.few_processes;
      few_jobs = jobs_told.few_jobs;
      processes = λ j h.
          subst (λ (x : Job). x.process < network.process_count) (sym (get_or-take r.table.count r.table.jobs j no_job h)) (jobs_told.processes j h);
    })

    pub before_front : (rows : List Row)
        → rows ≡ fill_to 128 no_marks (rows_to (length (take r.table.count r.table.jobs)) (relation (length (take r.table.count r.table.jobs))
        (precedes_by (row_relation (length (take k r.ahead)) (take k r.ahead)) (take r.table.count r.table.jobs))))
        → rows ≡ fill_to 128 no_marks (rows_to r.table.count (relation r.table.count
        (precedes_by (row_relation network.process_count r.ahead) (take r.table.count r.table.jobs))))
    before_front rows e = e ∙ rw (size, relation_front network.process_count r.ahead few, length-take-le r.table.count r.table.jobs most)

    pub after_front : (rows : List Row)
        → rows ≡ fill_to 128 no_marks (rows_from (length (take r.table.count r.table.jobs)) (relation (length (take r.table.count r.table.jobs))
        (precedes_by (row_relation (length (take k r.ahead)) (take k r.ahead)) (take r.table.count r.table.jobs))))
        → rows ≡ fill_to 128 no_marks (rows_from r.table.count (relation r.table.count
        (precedes_by (row_relation network.process_count r.ahead) (take r.table.count r.table.jobs))))
    after_front rows e = e ∙ rw (size, relation_front network.process_count r.ahead few, length-take-le r.table.count r.table.jobs most)

module _ (count : ℕ) (after : List Row) (most : count ≤ length after) where
  pub later_front : count ≤ 128 → Later count after → (length (take count after) ≤ 128) × Later (length (take count after)) (take count after)
  later_front h t = rw (length-take-le count after most) (
    h,
    record {
      later = λ i j h m. t.later i j h (sym (ap (λ (r : Row). marked r j) (get_or-take count after i no_marks h)) ∙ m);
    },
  )

  pub reduced_front : (rows : List Row) (edges : ℕ) → ReducedFrom (length (take count after)) (take count after) rows edges → ReducedFrom count after rows edges
  reduced_front rows edges r = record {
    rows_are = rw (relation_front count after most, length-take-le count after most) at r.rows_are;
    edges_are = rw (relation_front count after most, length-take-le count after most) at r.edges_are;
  }
