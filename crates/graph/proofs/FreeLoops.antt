-- The processes before each, as words; and the search for the smallest free process.
use Prim.Native.Nat.{ℕ, ◌+◌, ◌^◌, ◌≤◌, ◌<◌}
use mathlib.Core.Path.{◌≡◌, refl, sym, ap, subst, ◌∙◌}
use mathlib.Core.Bool.{Bool, true, false, cond, not, ◌&&◌}
use mathlib.Core.List.{List}
use native.Mathlib.Decide.{dec_lt, ℕ_discrete}
use native.Mathlib.Omega.{arith}
use Rattle.std.specs.Prelude.{None, Some}
use lib.ListN.{length, get_or}
use lib.Bits.{bit_and}
use borrow.Author.Tests.{lt-ltb, eq-eqb, ne_eqb}
use Rattle.reply.specs.Tests.{split, clash, both}
use Rattle.reply.specs.AllAny.{any_same}
use Rattle.reply.specs.First.{first_only}
use Rattle.marks.specs.Row.{bit}
use Rattle.marks.specs.declared.Row.{Row}
use Rattle.network.specs.Frame.{process_at}
use Rattle.network.specs.Chains.{holds}
use Rattle.network.specs.ChainLaws.{relation_holds}
use Rattle.network.specs.ChainsSame.{relation_same}
use Rattle.network.specs.declared.Process.{Process}
use Rattle.graph.specs.Order.{row_relation}
use Rattle.graph.specs.Sequence.{is_pending, is_free, next_free}
use Rattle.graph.specs.SequenceTold.{NextDigit, IsNext, FirstOf, FirstWords, FewDigits, FirstFree, word_relation, free_in, GoodProcesses}
use Rattle.graph.proofs.Digits.{shares_none}
use Rattle.graph.proofs.TakeOne.{next_is}

-- ---- the processes before each

-- the words below p are done
pub record FirstSoFar (n : ℕ) (ahead : List Row) (p : ℕ) (words : List ℕ) : Type 0 where
  pub size : length words ≡ 12
  pub done : (i : ℕ) → i < p → FirstOf n ahead i (get_or words i 0)

-- they hold the relation of the rows
pub words_relate : (n : ℕ) (ahead : List Row) (first : List ℕ) → FirstWords n ahead first → row_relation n ahead ≡ word_relation n first
unfolding row_relation word_relation
words_relate n ahead first f = relation_same n _ _ (λ a b h l. sym ((f.words b l).digits a ∙ rw (lt-ltb a n h)))

-- ---- the search

-- none below `at` is free
pub record NoneFree (pending : ℕ) (first : List ℕ) (at : ℕ) : Type 0 where
  pub none : (k : ℕ) → k < at → free_in pending first k ≡ false

module _ (pending : ℕ) (first : List ℕ) where
  -- the next digit is a process
  pub next_below : FewDigits 12 pending → {at p : ℕ} → IsNext pending at p → p < 12
  next_below few {p = p} d = elim (dec_lt p 12) [ yes h ↦ h | no h ↦ clash d.has (few.none p (omega arith)) ]

  module _ (at p : ℕ) (s : NoneFree pending first at) (d : IsNext pending at p) where
    none_below : (k : ℕ) → k < p → free_in pending first k ≡ false
    unfolding free_in
    none_below k h = elim (dec_lt k at) [ yes m ↦ s.none k m | no m ↦ rw (d.none k (omega arith) h) ]

    pub look_goes_on : (bit_and (get_or first p 0) pending ≡ 0 → ⊥) → NoneFree pending first (p + 1)
    unfolding free_in
    look_goes_on other = record {
      none = λ k l. elim (ℕ_discrete k p) [
        | yes z ↦ subst (λ x. free_in pending first x ≡ false) (sym z) (rw (d.has, ne_eqb (bit_and (get_or first p 0) pending) 0 other))
        | no e ↦ none_below k (omega arith)
      ];
    }

    pub look_found : p < 12 → bit_and (get_or first p 0) pending ≡ 0 → FirstFree pending first (Some p)
    unfolding free_in
    look_found l e = (
      l,
      record {
        from = omega arith;
        to = omega arith;
        before = λ k a b. none_below k b;
        passes = λ m. rw (d.has, eq-eqb (bit_and (get_or first p 0) pending) 0 e);
      },
    )

  pub look_none : (at : ℕ) → NoneFree pending first at → NextDigit pending at None → FirstFree pending first None
  unfolding free_in
  look_none at s none = record {
    from = omega arith;
    to = omega arith;
    before = λ k a b. elim (dec_lt k at) [ yes m ↦ s.none k m | no m ↦ rw (none k (omega arith)) ];
    passes = λ m. absurd (omega arith);
  }

-- ---- the same in jobs that are pending

-- a process below n whose digit a word has is pending with its whole burst, another with no job
pub record PendingIn (n : ℕ) (processes : List Process) (word : ℕ) (pending : List ℕ) : Type 0 where
  pub wide : length pending ≡ n
  pub counts : (q : ℕ) → q < n → get_or pending q 0 ≡ cond (bit word q) (process_at processes q).burst 0
  pub past : (q : ℕ) → n ≤ q → bit word q ≡ false

module _ (n : ℕ) (processes : List Process) (good : GoodProcesses n processes) (first : List ℕ) (word : ℕ) (fits : word < 2 ^ 64) (pending : List ℕ)
    (s : PendingIn n processes word pending) where
  pending_is : (q : ℕ) → q < n → is_pending pending q ≡ bit word q
  pending_is q h = split (bit word q)
      (λ t. rw (s.counts q h, t) (lt-ltb 0 (process_at processes q).burst (good.good q h).burst.0))
      (λ t. rw (s.counts q h, t) refl)

  free_same : (p : ℕ) → p < n → free_in word first p ≡ is_free (word_relation n first) pending p
  unfolding free_in is_free word_relation
  free_same p h =
      rw (pending_is p h, s.wide)
      (ap (λ (b : Bool). bit word p && b)
      (shares_none n (get_or first p 0) word fits s.past
      ∙ ap not (any_same n (λ q. bit word q && bit (get_or first p 0) q) (λ q. is_pending pending q && holds (word_relation n first) q p)
      (λ q l. rw (pending_is q l, relation_holds n (λ a b. bit (get_or first b 0) a) q p l h)))))

  -- a free process has its digit
  pub free_digit : (p : ℕ) → FirstFree word first (Some p) → bit word p ≡ true
  unfolding free_in
  free_digit p f = (both (bit word p) _ (f.1.passes f.0)).0

  pub free_below : (p : ℕ) → FirstFree word first (Some p) → p < n
  free_below p f = elim (dec_lt p n) [ yes h ↦ h | no h ↦ clash (free_digit p f) (s.past p (omega arith)) ]

  pub next_same : (p : ℕ) → FirstFree word first (Some p) → p ≡ next_free (word_relation n first) pending
  next_same p f =
      let h : p < n = free_below p f in
      first_only (is_free (word_relation n first) pending) 0 (0 + length pending) p (next_free (word_relation n first) pending)
      (record {
        from = omega arith;
        to = omega (arith, s.wide);
        before = λ k a b. sym (free_same k (omega arith)) ∙ f.1.before k a b;
        passes = λ l. sym (free_same p h) ∙ f.1.passes f.0;
      })
      (next_is (word_relation n first) pending)

  pub none_next : FirstFree word first None → length pending ≤ next_free (word_relation n first) pending
  none_next f = elim (dec_lt (next_free (word_relation n first) pending) (length pending)) [
    | yes h ↦ clash
        ((next_is (word_relation n first) pending).passes (omega arith))
        (sym (free_same (next_free (word_relation n first) pending) (omega (arith, s.wide))) ∙ f.before (next_free (word_relation n first) pending) (omega arith) (omega (arith, s.wide, good.few)))
    | no h ↦ omega arith
  ]
