-- What is released at a time, and until when nothing more is: of one process, and of the processes so far.
use Prim.Native.Nat.{ℕ, ◌+◌, ◌%◌, ◌≤◌, ◌<◌, min}
use mathlib.Core.Path.{◌≡◌, sym, ap, ap₂, subst, ◌∙◌}
use mathlib.Core.Logic.{◌≢◌}
use mathlib.Core.Bool.{Bool, cond, ◌&&◌, ◌||◌}
use mathlib.Core.List.{List}
use native.Mathlib.Decide.{dec_lt, ℕ_discrete}
use native.Mathlib.Nat.{add-mod_right, zero-mod}
use native.Mathlib.Omega.{arith}
use lib.ListN.{length, get_or, set, take, replicate, length-set, length-map, length-replicate, get_or-replicate, get_or-map}
use lib.Seq.{get_or-set_same, get_or-set_other, get_or-take, length-take-le}
use lib.Dec.{ltb, eqb}
use borrow.Author.Tests.{lt-ltb, le-ltb, eq-eqb, ne_eqb}
use Rattle.reply.specs.Tests.{split}
use Rattle.marks.specs.Row.{bit}
use Rattle.network.specs.Frame.{no_process, process_at}
use Rattle.network.specs.Valid.{GoodProcess}
use Rattle.network.specs.declared.Process.{Process}
use Rattle.graph.specs.Sequence.{released_at, released_now}
use Rattle.graph.specs.SequenceTold.{AddsDigit, GoodProcesses, Due, DueFrom, due_after, TellsReleased, ReleasedAt}
use Rattle.graph.specs.Releases.{next_multiple}
use Rattle.graph.proofs.FreeLoops.{PendingIn}
use Rattle.graph.proofs.RelativeMarks.{below_more}

-- ---- one process

module _ (process : Process) (time due : ℕ) where
  pub after_release : due ≡ time → due + process.period ≡ due_after process time due
  unfolding due_after
  after_release e = rw (eq-eqb due time e)

  pub no_release : due ≢ time → due ≡ due_after process time due
  unfolding due_after
  no_release d = rw (ne_eqb due time d)

  module _ (good : GoodProcess process) (d : Due process time due) where
    released_is : eqb due time ≡ released_at process time
    released_is = elim (ℕ_discrete due time) [
      | yes e ↦ eq-eqb due time e ∙ sym (eq-eqb (time % process.period) 0 (subst (λ x. x % process.period ≡ 0) e d.multiple))
      | no n ↦ ne_eqb due time n ∙ sym (d.quiet time (omega arith) (omega (arith, d.from)))
    ]

    -- after the time, the next release is due
    due_later : Due process (time + 1) (due_after process time due)
    due_later = elim (ℕ_discrete due time) [
      | yes e ↦ subst (λ x. Due process (time + 1) x) (after_release e) (record {
        from = let (pos, most) = good.period in omega arith;
        multiple = add-mod_right due process.period ∙ d.multiple;
        quiet = λ t h l. ne_eqb (t % process.period) 0 (λ z. omega (
          arith,
          next_multiple process.period good.period.0 due t d.multiple z (omega arith),
        ));
      })
      | no n ↦ subst (λ x. Due process (time + 1) x) (no_release n) (record {
        from = omega (arith, d.from);
        multiple = d.multiple;
        quiet = λ t h l. d.quiet t (omega arith) l;
      })
    ]

-- a later time, up to the release
due_from : (process : Process) (time later due : ℕ) → Due process time due → time ≤ later → later ≤ due → Due process later due
due_from process time later due d h l = record { from = l; multiple = d.multiple; quiet = λ t a b. d.quiet t (omega arith) b }

-- ---- several

-- at the start of a frame all are due
pub due_begins : (n : ℕ) (processes : List Process) (due : List ℕ) → n ≤ 12 → due ≡ replicate 12 0 → DueFrom n processes 0 due
due_begins n processes due few e = record {
  size = ap (λ (l : List ℕ). length l) e ∙ length-replicate {A = ℕ} 12 0;
  each = λ p h. subst (λ x. Due (process_at processes p) 0 x) (sym (ap (λ (l : List ℕ). get_or l p 0) e ∙ get_or-replicate 12 p 0 0 (omega arith))) (record {
    from = omega arith;
    multiple = zero-mod (process_at processes p).period;
    quiet = λ t h l. absurd (omega arith);
  });
}

-- of the first i processes: which release, when each is due again, and which is next
pub record ReleasedSoFar (processes : List Process) (time frame : ℕ) (old : List ℕ) (i pending next : ℕ) (due : List ℕ) : Type 0 where
  pub size : length due ≡ 12
  pub each : (k : ℕ) → k < i → get_or due k 0 ≡ due_after (process_at processes k) time (get_or old k 0)
  pub rest : (k : ℕ) → i ≤ k → get_or due k 0 ≡ get_or old k 0
  pub digits : (k : ℕ) → bit pending k ≡ (ltb k i && eqb (get_or old k 0) time)
  pub least : (k : ℕ) → k < i → next ≤ get_or due k 0
  pub after : time < next
  pub within : next ≤ frame

module _ (processes : List Process) (time frame : ℕ) (old : List ℕ) where
  module _ (n : ℕ) (good : GoodProcesses n processes) (told : DueFrom n processes time old) where
    module _ (i : ℕ) (h : i < n) (pending next : ℕ) (due : List ℕ) (s : ReleasedSoFar processes time frame old i pending next due)
        (new later : ℕ) (a : AddsDigit pending i (eqb (get_or due i 0) time) new) (l : later ≡ due_after (process_at processes i) time (get_or due i 0)) where
      own : later ≡ due_after (process_at processes i) time (get_or old i 0)
      own = l ∙ ap (due_after (process_at processes i) time) (s.rest i (omega arith))

      is_later : time < later
      is_later = omega (arith, own, (due_later (process_at processes i) time (get_or old i 0) (good.good i h) (told.each i h)).from)

      pub released_goes_on : (sooner : ℕ) → sooner ≡ min next later → ReleasedSoFar processes time frame old (i + 1) new sooner (set due i later)
      released_goes_on sooner r = record {
        size = length-set due i later ∙ s.size;
        each = λ k b. elim (ℕ_discrete k i) [
          | yes z ↦
              subst (λ x. get_or (set due i later) x 0 ≡ due_after (process_at processes x) time (get_or old x 0)) (sym z)
              (get_or-set_same due i later 0 (omega (arith, s.size, good.few)) ∙ own)
          | no d ↦ get_or-set_other due i k later 0 d ∙ s.each k (omega arith)
        ];
        rest = λ k b. get_or-set_other due i k later 0 (λ z. omega arith) ∙ s.rest k (omega arith);
        digits = λ k.
            a.digits k ∙ ap₂ (λ (x : Bool) (y : ℕ). x || (eqb k i && eqb y time)) (s.digits k) (s.rest i (omega arith))
            ∙ below_more (λ x. eqb (get_or old x 0) time) i k;
        least = λ k b. elim (ℕ_discrete k i) [
          | yes z ↦ subst (λ x. sooner ≤ get_or (set due i later) x 0) (sym z) (omega (arith, r, get_or-set_same due i later 0 (omega (arith, s.size, good.few))))
          | no d ↦ omega (arith, r, s.least k (omega arith), get_or-set_other due i k later 0 d)
        ];
        after = omega (arith, r, is_later, s.after);
        within = omega (arith, r, s.within);
      }

    module _ (i pending next : ℕ) (due : List ℕ) (few : i ≤ n) (all : n ≤ i) (s : ReleasedSoFar processes time frame old i pending next due) where
      again : (p : ℕ) → p < n → Due (process_at processes p) (time + 1) (get_or due p 0)
      again p h = subst (λ x. Due (process_at processes p) (time + 1) x) (sym (s.each p (omega arith)))
          (due_later (process_at processes p) time (get_or old p 0) (good.good p h) (told.each p h))

      pub released_due : DueFrom n processes next due
      released_due = record {
        size = s.size;
        each = λ p h. due_from (process_at processes p) (time + 1) next (get_or due p 0) (again p h) (omega (arith, s.after)) (s.least p (omega arith));
      }

      pub released_ends : TellsReleased n processes time frame (record { pending = pending; next = next })
      released_ends = record {
        digits = λ p. s.digits p ∙ elim (dec_lt p n) [
          | yes h ↦ rw (lt-ltb p i (omega arith), lt-ltb p n h) (released_is (process_at processes p) time (get_or old p 0) (good.good p h) (told.each p h))
          | no h ↦ rw (le-ltb p i (omega arith), le-ltb p n (omega arith))
        ];
        after = s.after;
        within = s.within;
        quiet = λ t a b p h. (again p h).quiet t (omega arith) (omega (arith, s.least p (omega arith)));
      }

-- ---- the jobs that are then pending

module _ (n : ℕ) (processes : List Process) (few : n ≤ length processes) (time : ℕ) where
  now_size : length (released_now (take n processes) time) ≡ n
  unfolding released_now
  now_size = length-map (take n processes) (λ p. cond (released_at p time) p.burst 0) ∙ length-take-le n processes few

  now_at : (k : ℕ) → k < n → get_or (released_now (take n processes) time) k 0 ≡ cond (released_at (process_at processes k) time) (process_at processes k).burst 0
  unfolding released_now
  now_at k h =
      let none : ◌≡◌ {A = ℕ} (cond (released_at no_process time) 0 0) 0 = split (released_at no_process time) (λ t. rw t) (λ t. rw t) in
      ap (λ (d : ℕ). get_or (released_now (take n processes) time) k d) (sym none)
      ∙ get_or-map (λ p. cond (released_at p time) p.burst 0) (take n processes) k no_process
      ∙ ap (λ (p : Process). cond (released_at p time) p.burst 0) (get_or-take n processes k no_process h)

  pub released_pending : (word : ℕ) → ReleasedAt n processes time word → PendingIn n processes word (released_now (take n processes) time)
  released_pending word t = record {
    wide = now_size;
    counts = λ q h.
        let own : bit word q ≡ released_at (process_at processes q) time = t.digits q ∙ rw (lt-ltb q n h) in
        now_at q h ∙ ap (λ (b : Bool). cond b (process_at processes q).burst 0) (sym own);
    past = λ q h. t.digits q ∙ rw (le-ltb q n h);
  }
