-- The loops that fill the table: the jobs of one time taken one after another, and the times of the frame.
use Prim.Native.Nat.{ℕ, zero, suc, ◌+◌, ◌-◌, ◌^◌, ◌≤◌, ◌<◌}
use mathlib.Core.Path.{◌≡◌, refl, sym, ap, subst, ◌∙◌}
use mathlib.Core.Logic.{◌≢◌}
use mathlib.Core.Bool.{Bool, true, false, cond, not, ◌&&◌}
use mathlib.Core.List.{List, [], ◌∷◌, ◌++◌, map, append_assoc, append-nil}
use native.Mathlib.Decide.{ℕ_discrete}
use native.Mathlib.Numerals.{add-one}
use native.Mathlib.Omega.{arith}
use Rattle.std.specs.Prelude.{None, Some}
use lib.ListN.{length, get_or, take, replicate, length-append, length-set, length-replicate}
use lib.Seq.{get_or-take, get_or-set_same, get_or-set_other, length-take-le, take-append_seam, drop-append_seam}
use borrow.Rule.Slice.PartMut.{put_mid}
use Rattle.std.proofs.lemmas.List.{drop-replicate}
use lib.Dec.{eqb}
use borrow.Author.Tests.{eq-eqb, ne_eqb}
use Rattle.reply.specs.Tools.{count as count_to}
use Rattle.reply.specs.Tests.{both}
use Rattle.reply.specs.Counts.{sum_none}
use Rattle.marks.specs.Row.{bit}
use Rattle.marks.specs.declared.Row.{Row}
use Rattle.network.specs.Lists.{fill_to}
use Rattle.network.specs.ListLaws.{fill_none}
use Rattle.network.specs.Frame.{no_process, process_at}
use Rattle.network.specs.Chains.{Relation}
use Rattle.network.specs.declared.Process.{Process}
use Rattle.graph.specs.Sequence.{no_job, released_at, released_now, next_free, taken, take_jobs, job_at, pending_count, jobs_released, sequence_to}
use Rattle.graph.specs.Order.{row_relation}
use Rattle.graph.specs.Releases.{released_count}
use Rattle.graph.specs.SequenceTold.{job_from, TakesDigit, FirstWords, FirstFree, word_relation, GoodProcesses, TellsReleased, ReleasedAt, HoldsJobs, FitsTable}
use Rattle.graph.specs.declared.Job.{Job}
use Rattle.graph.specs.declared.sequence.Jobs.{Jobs}
use Rattle.graph.specs.declared.sequence.Released.{Released}
use Rattle.graph.proofs.Marks.{count_less}
use Rattle.graph.proofs.TakeOne.{next_stays, take_next, take_none}
use Rattle.graph.proofs.FreeLoops.{words_relate, PendingIn, free_digit, free_below, next_same, none_next}
use Rattle.graph.proofs.ReleasedLoop.{released_pending}

-- ---- the jobs of one time

-- the jobs still to take at a time
unfoldable pub still_to_take : List Process → Relation → ℕ → List ℕ → List Job
still_to_take processes ahead time pending = map (job_at processes time) (take_jobs (pending_count pending) ahead pending)

sequence_next : (processes : List Process) (ahead : Relation) (time : ℕ)
    → sequence_to processes ahead (time + 1) ≡ sequence_to processes ahead time ++ still_to_take processes ahead time (released_now processes time)
unfolding sequence_to jobs_released still_to_take
sequence_next processes ahead time = rw (add-one time)

still_next : (processes : List Process) (ahead : Relation) (time : ℕ) (pending : List ℕ) (p : ℕ) → p ≡ next_free ahead pending → p < length pending
    → still_to_take processes ahead time pending ≡ job_at processes time p ∷ still_to_take processes ahead time (taken pending p)
unfolding still_to_take
still_next processes ahead time pending p e h = ap (λ (l : List ℕ). map (job_at processes time) l) (take_next ahead pending p e h)

still_none : (processes : List Process) (ahead : Relation) (time : ℕ) (pending : List ℕ) → length pending ≤ next_free ahead pending
    → still_to_take processes ahead time pending ≡ []
unfolding still_to_take
still_none processes ahead time pending h = ap (λ (l : List ℕ). map (job_at processes time) l) (take_none ahead pending h (pending_count pending))

-- the table holds the jobs before those still to take; a word has the processes that are pending
pub record Taking (n : ℕ) (processes : List Process) (first : List ℕ) (time : ℕ) (jobs : List Job) (count word : ℕ) : Type 0 where
  pub held : List Job
  pub pending : List ℕ
  pub size : count ≡ length held
  pub stands : jobs ≡ fill_to 128 no_job held
  pub rest : sequence_to (take n processes) (word_relation n first) (time + 1) ≡ held ++ still_to_take (take n processes) (word_relation n first) time pending
  pub digits : PendingIn n processes word pending
  pub fits : word < 2 ^ 64

-- the jobs held before those still to take, with a burst of process p begun, of which jobs are left
pub record Bursting (n : ℕ) (processes : List Process) (first : List ℕ) (time : ℕ) (held : List Job) (word p left : ℕ) : Type 0 where
  pub pending : List ℕ
  pub rest : sequence_to (take n processes) (word_relation n first) (time + 1) ≡ held ++ still_to_take (take n processes) (word_relation n first) time pending
  pub wide : length pending ≡ n
  pub own : get_or pending p 0 ≡ left
  pub others : (q : ℕ) → q < n → q ≢ p → get_or pending q 0 ≡ cond (bit word q) (process_at processes q).burst 0
  pub past : (q : ℕ) → n ≤ q → bit word q ≡ false
  pub next : 0 < left → p ≡ next_free (word_relation n first) pending

module _ {n : ℕ} {processes : List Process} {first : List ℕ} {time : ℕ} (good : GoodProcesses n processes) where
  pub taking_begins : (jobs : List Job) (count word : ℕ) → n ≤ length processes → word < 2 ^ 64 → ReleasedAt n processes time word
      → HoldsJobs (sequence_to (take n processes) (word_relation n first) time) (record { count = count; jobs = jobs })
      → Taking n processes first time jobs count word
  taking_begins jobs count word w f r t = record {
    held = sequence_to (take n processes) (word_relation n first) time;
    pending = released_now (take n processes) time;
    size = t.count;
    stands = t.jobs;
    rest = sequence_next (take n processes) (word_relation n first) time;
    digits = released_pending n processes w time word r;
    fits = f;
  }

  burst_ends : {held : List Job} {word p : ℕ} → Bursting n processes first time held word p 0 → (new : ℕ) → new < 2 ^ 64 → TakesDigit word p new
      → (jobs : List Job) (count : ℕ) → count ≡ length held → jobs ≡ fill_to 128 no_job held → Taking n processes first time jobs count new
  burst_ends {held} {word} {p} s new f gone jobs count size stands =
      let digits : PendingIn n processes new s.pending = record {
        wide = s.wide;
        counts = λ q h. elim (ℕ_discrete q p) [
          | yes z ↦
              subst (λ x. get_or s.pending x 0 ≡ cond (bit new x) (process_at processes x).burst 0) (sym z)
              (let zero : get_or s.pending p 0 ≡ 0 = omega (arith, s.own) in
              let off : bit new p ≡ false = gone.digits p ∙ rw (eq-eqb p p refl) (and_false (bit word p)) in
              zero ∙ sym (ap (λ (b : Bool). cond b (process_at processes p).burst 0) off))
          | no d ↦
              let same : bit new q ≡ bit word q = gone.digits q ∙ rw (ne_eqb q p d) (and_true (bit word q)) in
              s.others q h d ∙ ap (λ (b : Bool). cond b (process_at processes q).burst 0) (sym same)
        ];
        past = λ q h. gone.digits q ∙ rw (s.past q h);
      } in
      record {
        held = held;
        pending = s.pending;
        size = size;
        stands = stands;
        rest = s.rest;
        digits = digits;
        fits = f;
      }
    where
      and_false : (b : Bool) → (b && false) ≡ false
      and_false true = refl
      and_false false = refl

      and_true : (b : Bool) → (b && true) ≡ b
      and_true true = refl
      and_true false = refl

-- how many processes a word has
unfoldable pub digit_count : ℕ → ℕ
digit_count word = count_to 64 (bit word)

-- the same job so many times, just after what a table holds
put_filled : (held : List Job) (k : ℕ) (job : Job) → length held + k ≤ 128
    → put_mid (length held) k (fill_to 128 no_job held) (replicate k job) ≡ fill_to 128 no_job (held ++ replicate k job)
unfolding fill_to
put_filled held k job h =
    let size : length (held ++ replicate k job) ≡ length held + k = length-append held (replicate k job) ∙ ap (λ (m : ℕ). length held + m) (length-replicate k job) in
    rw (size, append_assoc, take-append_seam held (replicate (128 - length held) no_job), drop-append_seam held (replicate (128 - length held) no_job), drop-replicate k (128 - length held) no_job)
    (ap (λ (m : ℕ). held ++ (replicate k job ++ replicate m no_job)) (omega arith))

-- a job of process p, and its whole burst
abbrev own_job : List Process → ℕ → ℕ → Job
own_job processes time p = job_from (process_at processes p) time p

abbrev own_burst : List Process → ℕ → ℕ → List Job
own_burst processes time p = replicate (process_at processes p).burst (own_job processes time p)

module _ {n : ℕ} {processes : List Process} {first : List ℕ} {time : ℕ} {word p : ℕ} (h : p < n) where
  burst_goes_on : (left : ℕ) (held : List Job) → Bursting n processes first time held word p (suc left) → Bursting n processes first time (held ++ (own_job processes time p ∷ [])) word p left
  burst_goes_on left held s =
      let next : p ≡ next_free (word_relation n first) s.pending = s.next (omega arith) in
      let same : own_job processes time p ≡ job_at (take n processes) time p = ap (λ (x : Process). job_from x time p) (sym (get_or-take n processes p no_process h)) in
      record {
        pending = taken s.pending p;
        rest = s.rest ∙ rw (append_assoc, same, still_next (take n processes) (word_relation n first) time s.pending p next (omega (arith, s.wide)));
        wide = length-set s.pending p (get_or s.pending p 0 - 1) ∙ s.wide;
        own = get_or-set_same s.pending p (get_or s.pending p 0 - 1) 0 (omega (arith, s.wide)) ∙ omega (arith, s.own);
        others = λ q l d. get_or-set_other s.pending p q (get_or s.pending p 0 - 1) 0 d ∙ s.others q l d;
        past = s.past;
        next = λ l. next_stays (word_relation n first) s.pending p next (omega (arith, s.wide)) (omega (arith, s.own));
      }

  -- all of the burst
  burst_whole : (left : ℕ) (held : List Job) → Bursting n processes first time held word p left → Bursting n processes first time (held ++ replicate left (own_job processes time p)) word p 0
  burst_whole zero held s = rw (append-nil held) s
  burst_whole (suc left) held s = rw (append_assoc) at (burst_whole left (held ++ (own_job processes time p ∷ [])) (burst_goes_on left held s))

module _ {n : ℕ} {processes : List Process} {first : List ℕ} {time : ℕ} {jobs : List Job} {count word : ℕ} (good : GoodProcesses n processes)
    (s : Taking n processes first time jobs count word) where
  module _ (p : ℕ) (f : FirstFree word first (Some p)) where
    -- the next process is one of them, and has its digit
    pub taking_below : p < n
    taking_below = free_below n processes good first word s.fits s.pending s.digits p f

    taking_digit : bit word p ≡ true
    taking_digit = free_digit n processes good first word s.fits s.pending s.digits p f

    -- without it fewer are left
    pub taking_less : (new : ℕ) → TakesDigit word p new → digit_count new < digit_count word
    unfolding digit_count
    taking_less new gone = count_less 64 (bit new) (bit word) p (omega (arith, f.0))
        (gone.digits p ∙ rw (eq-eqb p p refl, taking_digit)) taking_digit (λ k t. (both (bit word k) (not (eqb k p)) (sym (gone.digits k) ∙ t)).0)

    burst_begins : Bursting n processes first time s.held word p (process_at processes p).burst
    burst_begins = record {
      pending = s.pending;
      rest = s.rest;
      wide = s.digits.wide;
      own = s.digits.counts p taking_below ∙ ap (λ (b : Bool). cond b (process_at processes p).burst 0) taking_digit;
      others = λ q l d. s.digits.counts q l;
      past = s.digits.past;
      next = λ l. next_same n processes good first word s.fits s.pending s.digits p f;
    }

    burst_is : Bursting n processes first time (s.held ++ own_burst processes time p) word p 0
    burst_is = burst_whole taking_below (process_at processes p).burst s.held burst_begins

    -- the table has room for it
    pub burst_fits : length (sequence_to (take n processes) (word_relation n first) (time + 1)) ≤ 128 → count + (process_at processes p).burst ≤ 128
    burst_fits room = omega (
      arith,
      s.size,
      ap length burst_is.rest,
      length-append (s.held ++ own_burst processes time p) (still_to_take (take n processes) (word_relation n first) time burst_is.pending),
      length-append s.held (own_burst processes time p),
      length-replicate (process_at processes p).burst (own_job processes time p),
    )

    -- with it in the table, the process is done
    pub burst_stored : length (sequence_to (take n processes) (word_relation n first) (time + 1)) ≤ 128 → (new : ℕ) → new < 2 ^ 64 → TakesDigit word p new
        → (part : List Job) → part ≡ own_burst processes time p
        → Taking n processes first time (put_mid count (count + (process_at processes p).burst - count) jobs part) (count + (process_at processes p).burst) new
    burst_stored room new fits gone part e =
        let k : count + (process_at processes p).burst - count ≡ (process_at processes p).burst = omega arith in
        burst_ends good burst_is new fits gone _ _
        (omega (arith, s.size, length-append s.held (own_burst processes time p), length-replicate (process_at processes p).burst (own_job processes time p)))
        (rw (k, e, s.stands, s.size) (put_filled s.held (process_at processes p).burst (own_job processes time p) (omega (arith, s.size, burst_fits room))))

  pub taking_ends : FirstFree word first None
      → HoldsJobs (sequence_to (take n processes) (word_relation n first) (time + 1)) (record { count = count; jobs = jobs })
  taking_ends none =
      let all : sequence_to (take n processes) (word_relation n first) (time + 1) ≡ s.held =
      s.rest
      ∙ ap (λ (l : List Job). s.held ++ l) (still_none (take n processes) (word_relation n first) time s.pending (none_next n processes good first word s.fits s.pending s.digits none))
      ∙ append-nil s.held in
      record { count = s.size ∙ ap length (sym all); jobs = s.stands ∙ ap (λ (l : List Job). fill_to 128 no_job l) (sym all) }

-- ---- the times

module _ (processes : List Process) (ahead : Relation) where
  pub times_begin : (jobs : List Job) → jobs ≡ replicate 128 no_job → HoldsJobs (sequence_to processes ahead 0) (record { count = 0; jobs = jobs })
  unfolding sequence_to
  times_begin jobs e = record { count = refl; jobs = e ∙ sym (fill_none 128 no_job) }

  pub times_end : (time frame : ℕ) (table : Jobs) → time ≤ frame → frame ≤ time → HoldsJobs (sequence_to processes ahead time) table
      → HoldsJobs (sequence_to processes ahead frame) table
  times_end time frame table h l b = subst (λ x. HoldsJobs (sequence_to processes ahead x) table) (omega arith) b

  -- where nothing is released between two times, the jobs before the second are those before the first
  quiet_same : (time more : ℕ)
      → ((t : ℕ) → time ≤ t → t < time + more → (p : ℕ) → p < length processes → released_at (process_at processes p) t ≡ false)
      → sequence_to processes ahead (time + more) ≡ sequence_to processes ahead time
  unfolding sequence_to jobs_released take_jobs
  quiet_same time zero q = let z : time + 0 ≡ time = omega arith in rw z
  quiet_same time (suc more) q =
      let z : time + suc more ≡ suc (time + more) = omega arith in
      let none : pending_count (released_now processes (time + more)) ≡ 0 =
      released_count (time + more) processes
      ∙ sum_none (length processes) _ (λ p h. rw (q (time + more) (omega arith) (omega arith) p h)) in
      rw (z, none, append-nil) (quiet_same time more (λ t a b. q t a (omega arith)))

module _ (n : ℕ) (processes : List Process) (ahead : List Row) (frame : ℕ) (t : FitsTable n processes ahead frame) where
  pub good_of : GoodProcesses n processes
  good_of = record { few = t.few; good = t.good }

-- the words of a frame's processes hold the relation of its rows
module _ {processes : List Process} {ahead : List Row} {frame : ℕ} (t : FitsTable (length processes) processes ahead frame) (same : length ahead ≡ length processes)
    {first : List ℕ} (words : FirstWords (length ahead) ahead first) where
  pub rows_are_words : row_relation (length processes) ahead ≡ word_relation (length processes) first
  rows_are_words = words_relate (length processes) ahead first (rw same at words)

  pub room_of : (time : ℕ) → time < frame → length (sequence_to (take (length processes) processes) (word_relation (length processes) first) (time + 1)) ≤ 128
  room_of time h = rw (sym rows_are_words) (t.room (time + 1) (omega arith))

module _ (n : ℕ) (processes : List Process) (ahead : Relation) where
  -- the next release after a time
  pub times_go_on : (time frame : ℕ) (released : Released) (table : Jobs) → n ≤ length processes → TellsReleased n processes time frame released
      → HoldsJobs (sequence_to (take n processes) ahead (time + 1)) table
      → HoldsJobs (sequence_to (take n processes) ahead released.next) table
  times_go_on time frame released table w r b =
      let size : length (take n processes) ≡ n = length-take-le n processes w in
      let z : (time + 1) + (released.next - (time + 1)) ≡ released.next = omega (arith, r.after) in
      let same : sequence_to (take n processes) ahead released.next ≡ sequence_to (take n processes) ahead (time + 1) =
      ap (λ (t : ℕ). sequence_to (take n processes) ahead t) (sym z)
      ∙ quiet_same (take n processes) ahead (time + 1) (released.next - (time + 1)) (λ t a l p h.
      ap (λ (x : Process). released_at x t) (get_or-take n processes p no_process (omega arith)) ∙ r.quiet t (omega arith) (omega arith) p (omega arith)) in
      rw same b
