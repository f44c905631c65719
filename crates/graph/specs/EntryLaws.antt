-- A network that was read: what its struct holds, and its frame's work, piece by piece.
use Rattle.std.specs.Prelude.{ℕ, ◌≤◌, ◌<◌, min, ◌≡◌, refl, List, length, get_or, take}
use Rattle.std.proofs.Common.{sym, subst, ◌∙◌, arith}
use Rattle.std.proofs.Math.Path.{ap}
use Rattle.marks.specs.Row.{marked, no_marks}
use Rattle.marks.specs.declared.Row.{Row}
use Rattle.reply.specs.Result.{done}
use Rattle.reply.specs.declared.Reply.TheVariants.{Done}
use Rattle.network.specs.Lists.{fill_to}
use Rattle.network.specs.ListLaws.{take_fill, fill_at}
use Rattle.network.specs.Chains.{Relation, holds, relation}
use Rattle.network.specs.Frame.{no_process, process_at, frame_length}
use Rattle.network.specs.Pairs.{aheads}
use Rattle.network.specs.AheadTold.{AheadTold}
use Rattle.network.specs.Net.{Net, fill, within}
use Rattle.network.specs.Valid.{GoodProcess}
use Rattle.network.specs.declared.Process.{Process}
use Rattle.network.specs.declared.Network.{Network}
use Rattle.roundtrip.specs.Promise.{within_fill}
use Rattle.graph.specs.Order.{comes_before, row_relation}
use Rattle.graph.specs.AheadLaws.{rows_before}
use Rattle.graph.specs.Sequence.{no_job, sequence_to}
use Rattle.graph.specs.Work.{work_of, job_of, job_count_of, precedes_by}
use Rattle.graph.specs.Graph.{rows_from, rows_to, framed_of, graph_of}
use Rattle.graph.specs.OrderLaws.{order_of}
use Rattle.graph.specs.GraphLaws.{work_forward}
use Rattle.graph.specs.ReductionTold.{Later, ReducedFrom}
use Rattle.graph.specs.ReductionLaws.{rows_later, work_reduced}
use Rattle.graph.specs.Promise.{never_full, jobs_are}
use Rattle.graph.specs.WorkLaws.{work_jobs, work_before, work_frame, work_net}
use Rattle.graph.specs.SequenceTold.{FitsTable, HoldsJobs}
use Rattle.graph.specs.PrecedenceTold.{JobsTold}
use Rattle.graph.specs.FrameTold.{Accepted}
use Rattle.graph.specs.declared.Job.{Job}
use Rattle.graph.specs.declared.Framed.{Framed}
use Rattle.graph.specs.declared.PrecedenceGraph.{PrecedenceGraph}
use Rattle.graph.specs.declared.sequence.Jobs.{Jobs}

module _ {network : Network} (a : Accepted network) where
  abbrev the_net : Net
  the_net = a.net

  pub count_is : network.process_count ≡ length a.net.processes
  unfolding fill
  count_is = ap (λ (n : Network). n.process_count) a.is

  pub few : network.process_count ≤ 12
  few = omega (arith, count_is, a.valid.process_count)

  pub net_is : within network ≡ a.net
  net_is = ap within a.is ∙ within_fill a.net a.valid

  stored : network.processes ≡ fill_to 12 no_process a.net.processes
  unfolding fill
  stored = ap (λ (n : Network). n.processes) a.is

  pub processes_are : take network.process_count network.processes ≡ a.net.processes
  processes_are = ap (λ (k : ℕ). take k network.processes) count_is ∙ ap (take (length a.net.processes)) stored ∙ take_fill 12 no_process a.net.processes

  process_is : (p : ℕ) → process_at network.processes p ≡ process_at a.net.processes p
  process_is p = ap (λ (l : List Process). get_or l p no_process) stored ∙ fill_at 12 no_process a.net.processes p

  counted : min network.process_count 12 ≡ network.process_count
  counted = omega (arith, few)

  module _ (ahead : List Row) (told : AheadTold network ahead) where
    marks_are : (x y : ℕ) → x < network.process_count → y < network.process_count
        → marked (get_or ahead x no_marks) y ≡ holds (aheads network.process_count (within network).pairs) x y
    marks_are x y hx hy =
        told.marks x y (omega (arith, counted)) (omega (arith, counted)) ∙ ap (λ (k : ℕ). holds (aheads k (within network).pairs) x y) counted

    pub order_is : row_relation network.process_count ahead ≡ order_of a.net
    order_is =
        rows_before network.process_count (within network).pairs ahead marks_are
        ∙ ap (λ (k : ℕ). comes_before k (within network).pairs) count_is
        ∙ ap (λ (net : Net). comes_before (length a.net.processes) net.pairs) net_is

    -- the frame fits the table
    module _ {frame : ℕ} (framed : frame ≡ frame_length (within network).processes) where
      frame_is : frame ≡ frame_length a.net.processes
      frame_is = framed ∙ ap (λ (net : Net). frame_length net.processes) net_is

      jobs_to : (time : ℕ) → sequence_to (take network.process_count network.processes) (row_relation network.process_count ahead) time ≡ sequence_to a.net.processes (order_of a.net) time
      jobs_to time = ap (λ (l : List Process). sequence_to l (row_relation network.process_count ahead) time) processes_are ∙ ap (λ (r : Relation). sequence_to a.net.processes r time) order_is

      pub fits : FitsTable network.process_count network.processes ahead frame
      fits = record {
        few = few;
        short = omega (arith, frame_is, a.valid.frame);
        good = λ p h. subst GoodProcess (sym (process_is p)) (a.valid.processes p (omega (arith, count_is)));
        room = λ time h. subst (λ (l : List Job). length l ≤ 128) (sym (jobs_to time)) (never_full a.net a.valid time (omega (arith, frame_is)));
      }

      -- the table holds the jobs of the work
      module _ {table : Jobs} (held : HoldsJobs (sequence_to (take network.process_count network.processes) (row_relation network.process_count ahead) frame) table) where
        seq : sequence_to (take network.process_count network.processes) (row_relation network.process_count ahead) frame ≡ (work_of a.net).jobs
        seq = jobs_to frame ∙ ap (sequence_to a.net.processes (order_of a.net)) frame_is ∙ sym (work_jobs a.net)

        pub table_count : table.count ≡ job_count_of (work_of a.net)
        table_count = held.count ∙ ap length seq

        pub table_jobs : table.jobs ≡ fill_to 128 no_job (work_of a.net).jobs
        table_jobs = held.jobs ∙ ap (fill_to 128 no_job) seq

        taken : take table.count table.jobs ≡ (work_of a.net).jobs
        taken = ap (λ (k : ℕ). take k table.jobs) table_count ∙ ap (take (job_count_of (work_of a.net))) table_jobs ∙ take_fill 128 no_job (work_of a.net).jobs

        job_is : (j : ℕ) → job_of table.jobs j ≡ job_of (work_of a.net).jobs j
        job_is j = ap (λ (l : List Job). get_or l j no_job) table_jobs ∙ fill_at 128 no_job (work_of a.net).jobs j

        pub told_jobs : JobsTold network.process_count table.count table.jobs
        told_jobs = record {
          few_processes = few;
          few_jobs = omega (arith, table_count, (jobs_are a.net a.valid).most);
          processes = λ j h.
              subst (λ (x : Job). x.process < network.process_count) (sym (job_is j))
              (omega (arith, count_is, ((jobs_are a.net a.valid).each j (omega (arith, table_count))).process));
        }

        -- the predecessor rows are those of the work
        pub before_is : {before : List Row}
            → before ≡ fill_to 128 no_marks (rows_to table.count (relation table.count (precedes_by (row_relation network.process_count ahead) (take table.count table.jobs))))
            → before ≡ fill_to 128 no_marks (rows_to (job_count_of (work_of a.net)) (work_of a.net).before)
        before_is e =
            e ∙ rw (taken, order_is, table_count) (ap (λ (r : Relation). fill_to 128 no_marks (rows_to (job_count_of (work_of a.net)) r)) (sym (work_before a.net)))

        -- all of it is the frame
        pub whole : {before : List Row}
            → before ≡ fill_to 128 no_marks (rows_to table.count (relation table.count (precedes_by (row_relation network.process_count ahead) (take table.count table.jobs))))
            → ◌≡◌ {A = Framed}
            (record { answer = record { reply = Done; place = 0 }; network = network; frame = frame; job_count = table.count; jobs = table.jobs; before = before })
            (framed_of (done (work_of (within network))))
        whole e = rw (net_is, frame_is, work_frame a.net, work_net a.net, before_is e, table_jobs, table_count, a.is) refl

        -- the successor rows are those of the work
        module _ {after : List Row}
            (e : after ≡ fill_to 128 no_marks (rows_from table.count (relation table.count (precedes_by (row_relation network.process_count ahead) (take table.count table.jobs)))))
          where
            after_is : after ≡ fill_to 128 no_marks (rows_from (job_count_of (work_of a.net)) (work_of a.net).before)
            after_is =
                e ∙ rw (taken, order_is, table_count) (ap (λ (r : Relation). fill_to 128 no_marks (rows_from (job_count_of (work_of a.net)) r)) (sym (work_before a.net)))

            pub after_later : (table.count ≤ 128) × Later table.count after
            after_later =
                let most = (jobs_are a.net a.valid).most in
                rw (table_count, after_is) (most, rows_later _ _ most (work_forward a.net))

            -- with the edges that stay, all of it is the graph
            pub whole_graph : {rows : List Row} {edges : ℕ} → ReducedFrom table.count after rows edges
                → ◌≡◌ {A = PrecedenceGraph}
                (record { answer = record { reply = Done; place = 0 }; job_count = table.count; frame = frame; edges = edges; jobs = table.jobs; rows = rows })
                (graph_of (done (work_of (within network))))
            whole_graph {rows} {edges} r =
                let reduced : ReducedFrom (job_count_of (work_of a.net)) (fill_to 128 no_marks (rows_from (job_count_of (work_of a.net)) (work_of a.net).before)) rows edges =
                subst (λ (l : List Row). ReducedFrom (job_count_of (work_of a.net)) l rows edges) after_is (subst (λ (k : ℕ). ReducedFrom k after rows edges) table_count r) in
                let (rows_are, edges_are) = work_reduced a.net rows edges (jobs_are a.net a.valid).most reduced in
                rw (net_is, frame_is ∙ sym (work_frame a.net), table_jobs, table_count, rows_are, edges_are) refl
