-- The frame of a valid network and a plan without faults have all that a turn run needs, and the run on them is the run of the definition.
use Rattle.std.specs.Prelude.{ℕ, zero, suc, ◌<◌, None, ◌+◌, ◌-◌, ◌*◌, ◌≤◌, refl, ◌⊎◌, ltb, replicate}
use Rattle.std.proofs.Math.Path.{◌≡◌, sym, ap, subst}
use Rattle.std.proofs.Common.{◌∙◌, inl, inr, arith, mul-le-mul, length-append, length-drop}
use mathlib.Core.List.{List, ◌++◌, map}
use Rattle.std.proofs.Math.Nat.{zero-add}
use Rattle.std.proofs.Math.ListN.{length, get_or, take, drop}
use Rattle.std.proofs.lemmas.List.{length-replicate}
use Rattle.std.proofs.Math.Seq.{sets, length-take-le}
use Rattle.std.proofs.lemmas.List.Edits.{sets-eq}
use borrow.Author.Tests.{ltb-true}
use Rattle.reply.specs.Result.{done, refused}
use Rattle.reply.specs.ResultLaws.{Honest, accepted, require_done, order_done, honest_order, honest_then, honest_require}
use Rattle.reply.specs.declared.Reply.{Reply}
use Rattle.reply.specs.declared.Reply.TheVariants.{Done, WrongTurn}
use Rattle.marks.specs.Row.{marked, no_marks}
use Rattle.marks.specs.Laws.{marked_row}
use Rattle.marks.specs.declared.Row.{Row}
use Rattle.network.specs.ListLaws.{get_or_table, fill_at}
use Rattle.graph.specs.Work.{Work, work_of, job_count_of, cost, precedes}
use Rattle.graph.proofs.WorkLaws.{goes_forward}
use Rattle.graph.specs.Graph.{rows_to}
use Rattle.graph.specs.FrameOf.{FrameOf, work_in, count_is, work_is, few_jobs}
use Rattle.graph.specs.Promise.{jobs_are}
use Rattle.graph.specs.declared.Framed.{Framed}
use Rattle.machine.specs.HeldOf.{held_of}
use Rattle.machine.specs.Samples.{ok_samples}
use Rattle.machine.specs.SampleLaws.{honest_samples}
use Rattle.machine.specs.Words.{contents_in}
use Rattle.machine.specs.Acting.{kinds_in}
use Rattle.machine.specs.StartLaws.{no_words, start_sound, start_state_lem, start_room}
use Rattle.zero_delay.specs.CallLaws.{kinds_there, tables, ready}
use Rattle.zero_delay.specs.Lent.{TablesOf, Ready}
use Rattle.plan.specs.Plan.{start_at, end_at, checked_by}
use Rattle.plan.specs.Feasible.{Feasible}
use Rattle.plan.proofs.CheckLaws.{checked_feasible, honest_check}
use Rattle.promises.specs.Turns.{Run, Between, turns, at_start, ok_turns}
use Rattle.turns.specs.Turned.{turned_of, turn_filled}
use Rattle.promises.specs.TurnLaws.{turns_to, to_all, each_counted}
use Rattle.turns.specs.Order.{job_from, firsts, FirstIs, AfterIs, StartsApart}
use Rattle.turns.specs.Lent.{PlannedOf, RunTables, RunBegun, RunNeeds, RunDone, RunTurns}
use Rattle.turns.specs.Calls.{judged_by, run_in, ran_in, Admitted}
use Rattle.turns.specs.declared.TurnRan.{TurnRan}
use Rattle.turns.specs.declared.planned.Planned.{Planned}
use Rattle.turns.specs.declared.frames.Turnings.{Turnings}

-- words cleared from the front
cleared_size : (output : List ℕ) (n : ℕ) → n ≤ length output → length (replicate n 0 ++ drop n output) ≡ length output
cleared_size output n h = length-append (replicate n 0) (drop n output) ∙ omega (arith, length-replicate {A = ℕ} n 0, length-drop n output)

pub blanked : (output : List ℕ) {filled : List ℕ} {n : ℕ} → n ≤ length output → filled ≡ replicate (length (take n output)) 0 → filled ++ drop n output ≡ replicate n 0 ++ drop n output
blanked output {filled} {n} h e = ap (λ (l : List ℕ). l ++ drop n output) (e ∙ ap (λ (k : ℕ). replicate k 0) (length-take-le n output h))

-- ---- what is judged

pub honest_turns : (m : ℕ) (list : List ℕ) → Honest (ok_turns m list)
unfolding ok_turns
honest_turns m list = honest_order (length list) _ (λ k h. honest_require (ltb (get_or list k 0) m) WrongTurn k (omega arith))

module _ (w : Work) (m frames : ℕ) (plan input list : List ℕ) where
  pub honest_judged : Honest (judged_by w m frames plan input list)
  unfolding judged_by
  honest_judged = honest_then _ _ (honest_check w m plan) λ ok₁. honest_then _ _ (honest_samples (job_count_of w * frames) input) λ ok₂. honest_turns m list

  -- the plan is judged first, then the samples, and the turns last
  pub plan_refused : {reply : Reply} {place : ℕ} → checked_by w m plan ≡ refused reply place → judged_by w m frames plan input list ≡ refused reply place
  unfolding judged_by
  plan_refused e = rw e

  pub sample_refused : {reply : Reply} {place : ℕ} → checked_by w m plan ≡ done tt → ok_samples (job_count_of w * frames) input ≡ refused reply place
      → judged_by w m frames plan input list ≡ refused reply place
  unfolding judged_by
  sample_refused e f = rw (e, f)

  pub turns_judged : checked_by w m plan ≡ done tt → ok_samples (job_count_of w * frames) input ≡ done tt → judged_by w m frames plan input list ≡ ok_turns m list
  unfolding judged_by
  turns_judged e f = rw (e, f)

  pub all_judged : checked_by w m plan ≡ done tt → ok_samples (job_count_of w * frames) input ≡ done tt → ok_turns m list ≡ done tt
      → judged_by w m frames plan input list ≡ done tt
  all_judged e f g = turns_judged e f ∙ g

  -- all are good
  module _ (good : judged_by w m frames plan input list ≡ done tt) where
    pub good_plan : checked_by w m plan ≡ done tt
    unfolding judged_by
    good_plan = accepted {P = checked_by w m plan ≡ done tt} (checked_by w m plan) _ tt good λ ok e f. e

    pub good_turns : ok_turns m list ≡ done tt
    unfolding judged_by
    good_turns =
        accepted {P = ok_turns m list ≡ done tt} (checked_by w m plan) _ tt good λ ok₁ e f.
        accepted {P = ok_turns m list ≡ done tt} (ok_samples (job_count_of w * frames) input) _ tt f λ ok₂ g h. h

    pub turn_named : (t : ℕ) → t < length list → get_or list t 0 < m
    unfolding ok_turns
    turn_named t h = ltb-true (get_or list t 0) m (require_done _ WrongTurn t (order_done _ (length list) good_turns t h))

-- ---- the tables

firsts_are : (plan : List ℕ) (jobs : ℕ) → FirstIs plan jobs (firsts plan jobs)
firsts_are plan jobs = record { each = each; four = refl }
  where
    each : (m : ℕ) → m < 4 → get_or (firsts plan jobs) m None ≡ job_from plan jobs m 0
    each zero h = refl
    each (suc zero) h = refl
    each (suc (suc zero)) h = refl
    each (suc (suc (suc zero))) h = refl
    each (suc (suc (suc (suc m)))) h = absurd (omega arith)

module _ {framed : Framed} (frame : FrameOf framed) (plan : List ℕ) {planned : Planned} (of : PlannedOf framed plan planned) where
  planned_tables : TablesOf (work_of frame.net) planned.tables.program planned.tables.counts (kinds_in planned.tables.channels) planned.processes planned.jobs
  planned_tables = rw (of.program, of.counts, of.channels, of.jobs) (tables frame (kinds_there frame) (λ j h. of.processes.each j (omega (arith, few_jobs frame))))

  planned_ready : Ready planned.tables.program planned.tables.counts (kinds_in planned.tables.channels) planned.processes planned.jobs
  planned_ready = rw (of.program, of.counts, of.channels, of.jobs) (ready frame (kinds_there frame) (λ j h. of.processes.each j (omega (arith, few_jobs frame))))

module _ {framed : Framed} (frame : FrameOf framed) (m : ℕ) (plan : List ℕ) (good : checked_by (work_in framed) m plan ≡ done tt) where
  abbrev w : Work
  w = work_of frame.net

  feasible : Feasible (work_of frame.net) m plan
  feasible = checked_feasible w m plan (goes_forward frame.net frame.valid) (rw (work_is frame) at good)

  -- two jobs on one processor do not start together: each takes a tick or more
  starts_apart : StartsApart plan (job_count_of (work_of frame.net))
  starts_apart = record {
    apart = λ i j hi hj d on e. go i j ((jobs_are frame.net frame.valid).each i hi).worth ((jobs_are frame.net frame.valid).each j hj).worth (feasible.apart i j hi hj d on) e;
  }
    where
      go : (i j : ℕ) → 1 ≤ cost w i → 1 ≤ cost w j → (end_at w plan i ≤ start_at plan j) ⊎ (end_at w plan j ≤ start_at plan i) → start_at plan i ≡ start_at plan j → ⊥
      go i j a b (inl l) e = omega arith
      go i j a b (inr l) e = omega arith

  module _ (frames : ℕ) (input : List ℕ) {planned : Planned} (of : PlannedOf framed plan planned) where
    abbrev here : Run
    here = record { work = work_of frame.net; asked = frames; plan = plan; input = input }

    row_is : (i j : ℕ) → i < 128 → j < job_count_of (work_of frame.net) → marked (get_or planned.before j no_marks) i ≡ precedes (work_of frame.net) i j
    unfolding rows_to
    row_is i j b h =
        ap (λ (r : Row). marked r i)
        (ap (λ (l : List Row). get_or l j no_marks) of.before
        ∙ ap (λ (x : Framed). get_or x.before j no_marks) frame.is
        ∙ fill_at 128 no_marks (rows_to (job_count_of w) w.before) j
        ∙ get_or_table (job_count_of w) _ j no_marks h)
        ∙ marked_row _ i b

    run_tables : RunTables here planned
    run_tables = record {
      tables = planned_tables frame plan of;
      row = row_is;
      within = λ i j e. ((goes_forward frame.net frame.valid).within i j e).0;
      firsts = rw of.firsts (subst (λ n. FirstIs plan n (firsts plan framed.job_count)) (count_is frame) (firsts_are plan framed.job_count));
      afters = subst (λ n. AfterIs plan n planned.after) (count_is frame) of.afters;
      apart = starts_apart;
    }

-- ---- the run

pub few_words : {framed : Framed} {frames : ℕ} {plan input list output : List ℕ} {planned : Planned} → Admitted framed frames plan input list output → PlannedOf framed plan planned
    → planned.jobs * frames ≤ 12800
few_words a of = rw of.jobs (mul-le-mul (few_jobs a.roomy.frame) a.roomy.few)

pub room_here : {framed : Framed} {frames : ℕ} {plan input list output : List ℕ} {planned : Planned} → Admitted framed frames plan input list output → PlannedOf framed plan planned
    → 2 * (planned.jobs * frames) ≤ length output
room_here a of = rw of.jobs a.roomy.output_there

module _ {framed : Framed} {frames : ℕ} {plan input list output : List ℕ} (a : Admitted framed frames plan input list output) {planned : Planned} (of : PlannedOf framed plan planned)
    {cleared : List ℕ} (blank : cleared ≡ replicate (2 * (planned.jobs * frames)) 0 ++ drop (2 * (planned.jobs * frames)) output) where
  abbrev frame : FrameOf framed
  frame = a.roomy.frame

  abbrev run : Run
  run = record { work = work_of a.roomy.frame.net; asked = frames; plan = plan; input = input }

  abbrev rest : List ℕ
  rest = drop (2 * (framed.job_count * frames)) output

  cleared_is : cleared ≡ replicate (2 * (framed.job_count * frames)) 0 ++ rest
  cleared_is = rw of.jobs at blank

  begun : RunBegun run (drop (2 * (framed.job_count * frames)) output) planned frames input cleared (replicate 96 0) no_words
  begun = record {
    tables = run_tables frame a.m plan (good_plan (work_in framed) a.m frames plan input list a.good) frames input of;
    asked = refl;
    input_is = refl;
    blank = cleared_is ∙ ap (λ (n : ℕ). replicate (2 * (n * frames)) 0 ++ rest) (count_is frame);
    state = start_state_lem;
    lost = λ ch. omega (arith, (start_room 4294967295 (omega arith)).room ch);
  }

  pub run_needs : RunNeeds planned frames list input cleared (replicate 96 0) no_words
  run_needs = record {
    run = run;
    rest = rest;
    begun = begun;
    ready = planned_ready frame plan of;
    named = λ t h. omega (arith, turn_named (work_in framed) a.m frames plan input list a.good t h, a.roomy.processors);
    few = a.roomy.few;
    input_there = rw of.jobs a.roomy.input_there;
    sound = start_sound;
  }

  module _ {output' variables' words' : List ℕ} {turned : Turnings}
      (did : RunTurns planned frames list input cleared (replicate 96 0) no_words output' variables' words' turned) where
    abbrev end : Between
    end = turns run list (at_start run)

    ran : RunDone run (drop (2 * (framed.job_count * frames)) output) list output' variables' words' turned
    ran = did.done run rest begun

    same_run : run ≡ run_in framed frames plan input
    same_run = ap (λ (w : Work). record { work = w; asked = frames; plan = plan; input = input }) (sym (work_is frame))

    waiting_is : length list - turned.working ≡ (turns run list (at_start run)).waiting
    waiting_is =
        let counted : (turns_to run list (length list)).working + (turns_to run list (length list)).waiting ≡ length list = each_counted run list (length list) (omega arith) in
        omega (arith, rw (to_all run list (length list) (omega arith)) at counted, ran.worked)

    pub result_is : ◌≡◌ {A = TurnRan}
        (record {
          answer = record { reply = Done; place = 0 };
          frames = turned.frames;
          jobs = turned.jobs;
          working = turned.working;
          waiting = length list - turned.working;
          variables = variables';
          channels = map held_of (contents_in words');
        })
        (turned_of (done (ran_in framed frames plan input list)))
    unfolding turned_of
    result_is = subst (λ (r : Run). ◌≡◌ {A = TurnRan}
        (record {
          answer = record { reply = Done; place = 0 };
          frames = turned.frames;
          jobs = turned.jobs;
          working = turned.working;
          waiting = length list - turned.working;
          variables = variables';
          channels = map held_of (contents_in words');
        })
        (turned_of (done (turns r list (at_start r))))) same_run
        (let frames_are = sym ran.frames_are in
        let jobs_are = sym ran.jobs_are in
        let worked = sym ran.worked in
        let state_is = sym ran.state in
        λ i. record {
          answer = record { reply = Done; place = 0 };
          frames = frames_are i;
          jobs = jobs_are i;
          working = worked i;
          waiting = waiting_is i;
          variables = (state_is i).variables;
          channels = map held_of (state_is i).channels;
        })

    pub same_size : length output' ≡ length output
    same_size = did.size ∙ ap length cleared_is ∙ cleared_size output (2 * (framed.job_count * frames)) a.roomy.output_there

    pub filled_is : output' ≡ turn_filled (done (ran_in framed frames plan input list)) output
    unfolding turn_filled
    filled_is =
        let long : 0 + length end.words ≡ 2 * (framed.job_count * frames) = zero-add (length end.words) ∙ ran.long ∙ ap (λ (n : ℕ). 2 * (n * frames)) (sym (count_is frame)) in
        subst (λ (r : Run). output' ≡ sets output 0 (turns r list (at_start r)).words) same_run
        (ran.wrote ∙ ap (λ (n : ℕ). end.words ++ drop n output) (sym long) ∙ sym (sets-eq end.words output 0 (omega (arith, a.roomy.output_there))))
