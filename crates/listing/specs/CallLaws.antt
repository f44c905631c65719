-- The call's cases: the planner's refusals, the room, and that what `plan` and `graph` return make the text.
use Rattle.std.specs.Prelude.{ℕ, ◌+◌, ◌*◌, ◌≤◌, ◌<◌, ◌≡◌, Bool, true, false, cond, eqb, get_or, take, replicate, Ok, Err}
use Rattle.std.proofs.Math.Path.{refl, ap}
use Rattle.std.proofs.Common.{sym, ◌∙◌, arith, length-take-le, le-leb}
use mathlib.Core.List.{List, ◌++◌}
use Rattle.std.proofs.Math.ListN.{length, length-replicate}
use Rattle.std.proofs.Math.Seq.{sets, sets-eq, length-sets, take_at}
use Rattle.reply.specs.Reply.{reply_number}
use Rattle.reply.specs.Told as Told
use Rattle.std.specs.declared.result.Result as Std
use Rattle.reply.specs.Result.{Result, done, refused, and_then, answer_of}
use Rattle.reply.specs.ResultLaws.{Honest, honest_refused, zero_means, other_means, accepted, done_same, refused_not}
use Rattle.reply.specs.Call.{ok_room}
use Rattle.reply.specs.declared.Answer.{Answer}
use Rattle.reply.specs.declared.Refusal.{Refusal}
use Rattle.reply.specs.declared.Reply.{Reply}
use Rattle.network.specs.ListLaws.{fill_at}
use Rattle.network.specs.Write.{given, told_of, filled_by}
use Rattle.network.specs.declared.Written.{Written}
use Rattle.graph.specs.Sequence.{no_job}
use Rattle.graph.specs.Work.{Work, work_of, load_work, job_count_of}
use Rattle.graph.specs.Graph.{edge_count, graph_of, graph_file}
use Rattle.graph.specs.FileLaws.{honest_work}
use Rattle.graph.specs.Promise.{jobs_are, file_work}
use Rattle.graph.specs.declared.PrecedenceGraph.{PrecedenceGraph}
use Rattle.plan.specs.Plan.{planned_by, plan_work, plan_call, plan_filled}
use Rattle.plan.proofs.Promise.{planner_size, planner_misses, sets_front}
use Rattle.listing.specs.Listing.{head_line, listing_text, listed, list_call, listed_of, list_filled, refusal_line, printed, page_of}
use Rattle.listing.specs.Printed.{Printed, text_by, text_with}
use Rattle.listing.specs.declared.text.Text.{Text}
use Rattle.listing.specs.TextLaws.{lines_same, listing_most, refusal_most}
use Rattle.listing.specs.declared.Listed.{Listed}

-- ---- the planner, with room for 128 jobs

module _ (file words : List ℕ) (room : length words ≡ 256) where
  plan_two : plan_call file 2 words ≡ and_then (load_work file) λ w. planned_by w 2
  unfolding plan_call plan_work
  plan_two = go (load_work file) refl
    where
      go : (r : Result Work) → load_work file ≡ r → (and_then r λ w. plan_work w 2 words) ≡ and_then r λ w. planned_by w 2
      go (refused reply place) e = refl
      go (done w) e =
          let (net, read, ok, is) = file_work file w e in
          rw (le-leb (2 * job_count_of w) (length words) (omega (arith, ap job_count_of is, (jobs_are net ok).most)))

honest_planned : (file : List ℕ) → Honest (and_then (load_work file) λ w. planned_by w 2)
honest_planned file = record { above = go (load_work file) refl }
  where
    go : (r : Result Work) → load_work file ≡ r → (reply : Reply) (place : ℕ) → (and_then r λ w. planned_by w 2) ≡ refused reply place → 0 < reply_number reply
    go (refused first at) e reply place f = (honest_refused first at ((honest_work file).above first at e)).above reply place f
    go (done w) e reply place f =
        let (net, read, ok, is) = file_work file w e in
        rw (planner_misses net ok 2 (omega arith) reply place (rw is at f)).is (omega arith)

-- a refusal of the file or of the planner is the call's
listed_refused : (file : List ℕ) (reply : Reply) (place : ℕ) → (and_then (load_work file) λ w. planned_by w 2) ≡ refused reply place → listed file ≡ refused reply place
unfolding listed
listed_refused file reply place = go (load_work file)
  where
    go : (r : Result Work) → (and_then r λ w. planned_by w 2) ≡ refused reply place → (and_then r λ w. and_then (planned_by w 2) λ plan. done (listing_text w plan)) ≡ refused reply place
    go (refused reply' place') e = e
    go (done w) e = rw e

-- ---- the text

module _ (w : Work) (words plan : List ℕ) (size : length plan ≡ 2 * job_count_of w) (room : 2 * job_count_of w ≤ length words) where
  word_at : (k : ℕ) → k < 2 * job_count_of w → get_or (sets words 0 plan) k 0 ≡ get_or plan k 0
  word_at k h = sets_front words plan (omega arith) k (omega arith)

  text_is : text_by (graph_of (done w)) (sets words 0 plan) ≡ listing_text w plan
  unfolding text_by listing_text
  text_is =
      ap (λ (l : List ℕ). head_line (job_count_of w) w.frame (edge_count w) ++ l)
      (lines_same _ w.jobs (sets words 0 plan) plan (job_count_of w) (λ j h. (fill_at 128 no_job w.jobs j, word_at (2 * j) (omega arith), word_at (2 * j + 1) (omega arith))))

-- what an accepted file's graph and plan are for: their text is the call's, and there is room for it
pub record Listing (file : List ℕ) (graph : PrecedenceGraph) (words : List ℕ) : Type 0 where
  pub text : listed file ≡ done (text_by graph words)
  pub few : graph.job_count ≤ 128
  pub short : length (text_by graph words) ≤ 4096

module _ (file words : List ℕ) (room : length words ≡ 256) {answer : Answer} (told : answer ≡ answer_of (plan_call file 2 words)) where
  -- the planner's refusal
  pub list_refused : (reply_number answer.reply ≡ 0 → ⊥) → (out : List ℕ)
      → (record { answer = answer; length = 0 } ≡ listed_of (list_call file out)) × (out ≡ list_filled (list_call file out) out)
  unfolding list_call listed_of list_filled
  list_refused other out = other_means (plan_call file 2 words) (λ z. other (rw told z)) λ reply place e.
      let l : listed file ≡ refused reply place = listed_refused file reply place (sym (plan_two file words room) ∙ e) in
      let a : answer ≡ record { reply = reply; place = place } = told ∙ ap answer_of e in
      (rw (a, l), rw l)

  -- no refusal: the text of the work and of its plan
  pub list_done : reply_number answer.reply ≡ 0 → {words' : List ℕ} → words' ≡ plan_filled (plan_call file 2 words) words → {graph : PrecedenceGraph} → graph ≡ graph_file file
      → Listing file graph words'
  unfolding listed plan_filled graph_file
  list_done zero {words'} filled {graph} is =
      zero_means (and_then (load_work file) λ w. planned_by w 2) (honest_planned file) (rw (told, plan_two file words room) at zero) λ plan e.
      accepted (load_work file) (λ w. planned_by w 2) plan e λ w load f.
      let (net, read, ok, of_net) = file_work file w load in
      let f' : planned_by (work_of net) 2 ≡ done plan = rw of_net at f in
      let few : job_count_of w ≤ 128 = omega (arith, ap job_count_of of_net, (jobs_are net ok).most) in
      let size : length plan ≡ 2 * job_count_of w = planner_size net ok 2 (omega arith) plan f' ∙ ap (λ (v : Work). 2 * job_count_of v) (sym of_net) in
      let graph_is : graph ≡ graph_of (done w) = is ∙ ap graph_of load in
      let words_are : words' ≡ sets words 0 plan = filled ∙ rw (plan_two file words room, e) in
      let same : text_by graph words' ≡ listing_text w plan = rw (graph_is, words_are) (text_is w words plan size (omega arith)) in
      let most : length (listing_text w plan) ≤ 3744 = rw of_net (listing_most net ok plan f') in
      record {
        text = rw (load, f, same);
        few = omega (arith, ap (λ (g : PrecedenceGraph). g.job_count) graph_is);
        short = rw same (omega arith);
      }

-- the text is given, or there is no room for it
module _ (file : List ℕ) {graph : PrecedenceGraph} {words : List ℕ} (l : Listing file graph words) (out : List ℕ) where
  pub list_given : {text : List ℕ} → text ≡ text_by graph words → {r : Written} → r ≡ told_of (given text (length out)) → {filled : List ℕ} → filled ≡ filled_by out (given text (length out))
      → (record { answer = r.answer; length = r.length } ≡ listed_of (list_call file out)) × (filled ≡ list_filled (list_call file out) out)
  unfolding list_call listed_of list_filled given told_of filled_by
  list_given e is f = (rw (is, e, l.text), f ∙ rw (e, l.text))

-- ---- the text of a file, or why there is none

abbrev Outcome : Type 0
Outcome = Std.Result (Unit {0}) Refusal

-- an answer that is a refusal says it
refusal_told_by : (b : Bool) (answer : Answer) (e : Refusal) → eqb (reply_number answer.reply) 0 ≡ b
    → ◌≡◌ {A = Outcome} (cond {A = Outcome} b (Ok tt) (Err (record { reply = answer.reply; place = answer.place }))) (Err e)
    → (reply_number answer.reply ≡ 0 → ⊥) × (answer ≡ record { reply = e.reply; place = e.place })
refusal_told_by true answer e z f = let n : ◌≡◌ {A = ℕ} 0 1 = cc in absurd (omega arith)
refusal_told_by false answer e z f =
    let same : ◌≡◌ {A = Refusal} (record { reply = answer.reply; place = answer.place }) e = cc in
    (λ k. grind arith, ap (λ (x : Refusal). record { reply = x.reply; place = x.place }) same)

-- and one that is not is done
not_refused_by : (b : Bool) (answer : Answer) → eqb (reply_number answer.reply) 0 ≡ b
    → ◌≡◌ {A = Outcome} (cond {A = Outcome} b (Ok tt) (Err (record { reply = answer.reply; place = answer.place }))) (Ok tt)
    → reply_number answer.reply ≡ 0
not_refused_by true answer z f = grind arith
not_refused_by false answer z f = let n : ◌≡◌ {A = ℕ} 0 1 = cc in absurd (omega arith)

pub not_refused : (answer : Answer) → Told.refusal_in answer ≡ Ok tt → reply_number answer.reply ≡ 0
not_refused answer f = not_refused_by _ answer refl f

module _ (file words : List ℕ) (room : length words ≡ 256) {answer : Answer} (is : answer ≡ answer_of (plan_call file 2 words)) where
  -- the planner's refusal
  pub text_refused : {e : Refusal} → Told.refusal_in answer ≡ Err e → listed file ≡ refused e.reply e.place
  text_refused {e} h =
      let (other, says) = refusal_told_by _ answer e refl h in
      other_means (plan_call file 2 words) (λ z. other (rw is z)) λ reply place p.
      let l : listed file ≡ refused reply place = listed_refused file reply place (sym (plan_two file words room) ∙ p) in
      let a : answer ≡ record { reply = reply; place = place } = is ∙ ap answer_of p in
      let same_reply : reply ≡ e.reply = sym (ap (λ (x : Answer). x.reply) a) ∙ ap (λ (x : Answer). x.reply) says in
      let same_place : place ≡ e.place = sym (ap (λ (x : Answer). x.place) a) ∙ ap (λ (x : Answer). x.place) says in
      rw (same_reply, same_place) at l

-- a text from its first byte on: its front is it
module _ (text : List ℕ) (short : length text ≤ 4096) where
  pub with_front : take (length text) (text_with text).bytes ≡ text
  with_front = rw (sets-eq text (replicate 4096 0) 0 (omega (arith, length-replicate {A = ℕ} 4096 0))) (take_at text _ (length text) refl)

module _ (file : List ℕ) where
  pub told_refused : {e : Refusal} → listed file ≡ refused e.reply e.place → Err e ≡ Told.told text_with (listed file)
  told_refused l = rw l refl

  pub told_text : {graph : PrecedenceGraph} {words : List ℕ} → Listing file graph words → {text : Text} → text ≡ text_with (text_by graph words)
      → Ok text ≡ Told.told text_with (listed file)
  told_text l is = rw (l.text, is) refl

  -- and back
  pub is_refused : {e : Refusal} → Err e ≡ Told.told text_with (listed file) → listed file ≡ refused e.reply e.place
  is_refused {e} = go (listed file)
    where
      go : (r : Result (List ℕ)) → Err e ≡ Told.told text_with r → r ≡ refused e.reply e.place
      go (done text) f = let n : ◌≡◌ {A = ℕ} 0 1 = cc in absurd (omega arith)
      go (refused reply place) f = let same : e ≡ record { reply = reply; place = place } = cc in rw same refl

  pub is_done : {P : Type 0} {text : Text} → Ok text ≡ Told.told text_with (listed file) → ((bytes : List ℕ) → listed file ≡ done bytes → text ≡ text_with bytes → P) → P
  is_done {P} {text} = go (listed file) refl
    where
      go : (r : Result (List ℕ)) → listed file ≡ r → Ok text ≡ Told.told text_with r → ((bytes : List ℕ) → listed file ≡ done bytes → text ≡ text_with bytes → P) → P
      go (done bytes) e f k = k bytes e cc
      go (refused reply place) e f k = let n : ◌≡◌ {A = ℕ} 0 1 = cc in absurd (omega arith)

-- ---- with room for every text

pub listed_most : (file text : List ℕ) → listed file ≡ done text → length text ≤ 3744
unfolding listed
listed_most file text e =
    accepted (load_work file) _ text e λ w load f.
    accepted (planned_by w 2) _ text f λ plan g h.
    let (net, read, ok, is) = file_work file w load in
    let g' : planned_by (work_of net) 2 ≡ done plan = rw is at g in
    let same : listing_text (work_of net) plan ≡ text = ap (λ (v : Work). listing_text v plan) (sym is) ∙ done_same h in
    rw (← same) (listing_most net ok plan g')

refused_listed : (file : List ℕ) (reply : Reply) (place : ℕ) → listed file ≡ refused reply place → (and_then (load_work file) λ w. planned_by w 2) ≡ refused reply place
unfolding listed
refused_listed file reply place = go (load_work file)
  where
    inner : (w : Work) (r : Result (List ℕ)) → (and_then r λ plan. done (listing_text w plan)) ≡ refused reply place → r ≡ refused reply place
    inner w (done plan) e = refused_not (sym e)
    inner w (refused reply' place') e = e

    go : (r : Result Work) → (and_then r λ w. and_then (planned_by w 2) λ plan. done (listing_text w plan)) ≡ refused reply place → (and_then r λ w. planned_by w 2) ≡ refused reply place
    go (refused reply' place') e = e
    go (done w) e = inner w (planned_by w 2) e

honest_listed : (file : List ℕ) → Honest (listed file)
honest_listed file = record { above = λ reply place e. (honest_planned file).above reply place (refused_listed file reply place e) }

module _ (file out : List ℕ) (room : length out ≡ 4096) where
  all_listed : list_call file out ≡ listed file
  unfolding list_call
  all_listed = go (listed file) refl
    where
      go : (r : Result (List ℕ)) → listed file ≡ r → (and_then r λ text. and_then (ok_room (length text) out) λ ok. done text) ≡ r
      go (refused reply place) e = refl
      go (done text) e = rw (le-leb (length text) (length out) (omega (arith, listed_most file text e)))

  module _ {r : Listed} (told : r ≡ listed_of (list_call file out)) {filled : List ℕ} (is : filled ≡ list_filled (list_call file out) out) where
    answer_is : r.answer ≡ answer_of (listed file)
    unfolding listed_of
    answer_is = ap (λ (l : Listed). l.answer) told ∙ ap answer_of all_listed

    pub page_listed : reply_number r.answer.reply ≡ 0 → Printed out 0 (page_of file) filled r.length
    unfolding listed_of list_filled page_of
    page_listed zero = zero_means (listed file) (honest_listed file) (rw answer_is at zero) λ text e.
        record { stands = is ∙ rw (all_listed, e); ends = ap (λ (l : Listed). l.length) told ∙ rw (all_listed, e) (omega arith) }

    pub page_refused : (n : ℕ) → n ≡ reply_number r.answer.reply → (n ≡ 0 → ⊥) → {after : List ℕ} {next : ℕ}
        → Printed filled 0 (refusal_line n r.answer.place) after next → Printed out 0 (page_of file) after next
    unfolding list_filled page_of
    page_refused n number other p = other_means (listed file) (λ z. other (number ∙ rw answer_is z)) λ reply place e.
        let kept : filled ≡ out = is ∙ rw (all_listed, e) in
        let answer : r.answer ≡ record { reply = reply; place = place } = answer_is ∙ ap answer_of e in
        rw e (rw (number, kept, answer) at p)

-- ---- what the text's function told, for the call and the page

module _ (file : List ℕ) where
  -- a refusal
  module _ {e : Refusal} (says : Err e ≡ Told.told text_with (listed file)) where
    pub call_refused : (out : List ℕ) → (record { answer = record { reply = e.reply; place = e.place }; length = 0 } ≡ listed_of (list_call file out)) × (out ≡ list_filled (list_call file out) out)
    unfolding list_call listed_of list_filled
    call_refused out = let l : listed file ≡ refused e.reply e.place = is_refused file says in (rw l refl, rw l refl)

    pub page_line : text_with (refusal_line (reply_number e.reply) e.place) ≡ text_with (page_of file)
    unfolding page_of
    page_line = let l : listed file ≡ refused e.reply e.place = is_refused file says in rw l refl

  -- or the text
  module _ {text : Text} (says : Ok text ≡ Told.told text_with (listed file)) where
    pub page_listing : text ≡ text_with (page_of file)
    unfolding page_of
    page_listing = is_done file says λ bytes e z. z ∙ rw e refl

    pub text_fits : text.length ≤ 4096
    text_fits = is_done file says λ bytes e z. rw z (omega (arith, listed_most file bytes e))

    pub call_given : {front : List ℕ} → front ≡ take text.length text.bytes → (out : List ℕ) {r : Written} → r ≡ told_of (given front (length out)) → {full : List ℕ} → full ≡ filled_by out (given front (length out))
        → (record { answer = r.answer; length = r.length } ≡ listed_of (list_call file out)) × (full ≡ list_filled (list_call file out) out)
    unfolding list_call listed_of list_filled given told_of filled_by
    call_given {front} taken out is f = is_done file says λ bytes e z.
        let whole : front ≡ bytes = taken ∙ rw z (with_front bytes (omega (arith, listed_most file bytes e))) in
        (rw (is, whole, e), f ∙ rw (whole, e))

-- a page has at most 3,744 bytes, and so is a front of the buffer
pub page_most : (file : List ℕ) → length (page_of file) ≤ 3744
unfolding page_of
page_most file = go (listed file) refl
  where
    go : (r : Result (List ℕ)) → listed file ≡ r → length (printed r) ≤ 3744
    go (done text) e = listed_most file text e
    go (refused reply place) e = omega (arith, refusal_most (reply_number reply) place)

-- the text that is a page
module _ (file : List ℕ) {text : Text} (is : text ≡ text_with (page_of file)) where
  pub page_fits_text : text.length ≤ 4096
  page_fits_text = rw is (omega (arith, page_most file))

  pub page_front : {front : List ℕ} → front ≡ take text.length text.bytes → front ≡ page_of file
  page_front taken = taken ∙ rw is (with_front (page_of file) (omega (arith, page_most file)))

module _ (file : List ℕ) {before after : List ℕ} {size : ℕ} (room : length before ≡ 4096) (p : Printed before 0 (page_of file) after size) where
  pub page_fits : size ≤ length after
  page_fits = omega (arith, p.ends, page_most file, ap length p.stands, length-sets before 0 (page_of file))

  pub page_size : size ≡ length (take size after)
  page_size = sym (length-take-le size after page_fits)
