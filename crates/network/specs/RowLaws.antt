-- Pairs marked in rows: one pair more is one mark more, and the rows judge ends and cycles as the pairs themselves.
use Rattle.std.specs.Prelude.{ℕ, ◌≤◌, ◌<◌, ◌≡◌, refl, ◌≢◌, Bool, true, false, ◌&&◌, ◌||◌, List, [], ◌∷◌, ◌++◌, set, replicate, eqb}
use Rattle.std.proofs.Math.Path.{sym, ap, ap₂}
use Rattle.std.proofs.Common.{◌∙◌, arith}
use Rattle.std.proofs.Math.Decide.{ℕ_discrete}
use Rattle.std.proofs.Math.ListN.{length, get_or, length-set}
use Rattle.std.proofs.lemmas.List.{length-replicate, get_or-replicate}
use Rattle.std.proofs.Math.Seq.{ext_get_or, get_or-set_same, get_or-set_other}
use borrow.Author.Tests.{eq-eqb, ne_eqb, eqb-true}
use Rattle.reply.specs.Tests.{same_test, split}
use Rattle.marks.specs.Row.{marked, row_of, no_marks, with_of}
use Rattle.marks.specs.Laws.{marked_row, marked_none, fit_none, row_is, rows_same}
use Rattle.marks.specs.declared.Row.{Row}
use Rattle.network.specs.Lists.{table}
use Rattle.network.specs.ListLaws.{length_table, get_or_table}
use Rattle.network.specs.Pairs.{same_pair, is_pair, apart, good_ends, aheads, cyclic}
use Rattle.network.specs.PairLaws.{apart_true, pair_none, pair_more}
use Rattle.network.specs.Told.{pair_rows, ends_by}
use Rattle.network.specs.declared.Pair.{Pair}
use Rattle.network.specs.Chains.{holds, chains, Relation}
use Rattle.network.specs.ChainsSame.{chains_same}
use Rattle.reply.specs.Tools.{any}

abbrev pair : ℕ → ℕ → Pair
pair a b = record { higher = a; lower = b }

pub rows_none : replicate 12 no_marks ≡ pair_rows []
unfolding pair_rows
rows_none = ext_get_or no_marks (replicate 12 no_marks) (table 12 (λ a. row_of (is_pair [] a))) (length-replicate 12 no_marks ∙ sym (length_table 12 _))
    (λ a h.
    let small : a < 12 = omega (arith, length-replicate 12 no_marks) in
    get_or-replicate 12 a no_marks no_marks small ∙ row_is no_marks (is_pair [] a) fit_none (λ b l. marked_none b ∙ sym (pair_none a b)) ∙ sym (get_or_table 12 (λ a. row_of (is_pair [] a)) a no_marks small))

module _ (pairs : List Pair) where
  pub row_at : (a : ℕ) → a < 12 → get_or (pair_rows pairs) a no_marks ≡ row_of (is_pair pairs a)
  unfolding pair_rows
  row_at a h = get_or_table 12 (λ a. row_of (is_pair pairs a)) a no_marks h

  pub row_has : (a b : ℕ) → a < 12 → b < 128 → marked (get_or (pair_rows pairs) a no_marks) b ≡ is_pair pairs a b
  row_has a b h l = ap (λ (r : Row). marked r b) (row_at a h) ∙ marked_row (is_pair pairs a) b l

  -- one pair more is one mark more
  module _ (h l : ℕ) (hh : h < 12) (hl : l < 128) where
    marks_more : (a b : ℕ) → is_pair (pairs ++ (pair h l ∷ [])) a b ≡ (is_pair pairs a b || (eqb h a && eqb l b))
    unfolding same_pair
    marks_more a b = pair_more pairs (pair h l) a b

    same_row : with_of (row_of (is_pair pairs h)) l ≡ row_of (is_pair (pairs ++ (pair h l ∷ [])) h)
    unfolding with_of
    same_row = rows_same _ _ (λ i m.
        ap₂ (λ s t. s || t) (marked_row (is_pair pairs h) i m) (same_test (eqb i l) (eqb l i) (λ t. eq-eqb l i (sym (eqb-true i l t))) (λ t. eq-eqb i l (sym (eqb-true l i t))))
        ∙ sym (marks_more h i ∙ rw (eq-eqb h h refl)))

    other_row : (a : ℕ) → a ≢ h → row_of (is_pair pairs a) ≡ row_of (is_pair (pairs ++ (pair h l ∷ [])) a)
    other_row a d = rows_same _ _ (λ i m. sym (marks_more a i ∙ rw (ne_eqb h a (λ e. d (sym e))) (or_false (is_pair pairs a i))))
      where
        or_false : (b : Bool) → (b || false) ≡ b
        or_false true = refl
        or_false false = refl

    pub rows_more : set (pair_rows pairs) h (with_of (get_or (pair_rows pairs) h no_marks) l) ≡ pair_rows (pairs ++ (pair h l ∷ []))
    unfolding pair_rows
    rows_more =
        let size : length (pair_rows pairs) ≡ 12 = length_table 12 _ in
        ext_get_or no_marks _ _ (length-set (pair_rows pairs) h _ ∙ size ∙ sym (length_table 12 (λ a. row_of (is_pair (pairs ++ (pair h l ∷ [])) a))))
        (λ a m.
        let small : a < 12 = omega (arith, length-set (pair_rows pairs) h (with_of (get_or (pair_rows pairs) h no_marks) l), size) in
        elim (ℕ_discrete a h) [
          | yes e ↦
              ap (λ (k : ℕ). get_or (set (pair_rows pairs) h (with_of (get_or (pair_rows pairs) h no_marks) l)) k no_marks) e
              ∙ get_or-set_same (pair_rows pairs) h (with_of (get_or (pair_rows pairs) h no_marks) l) no_marks (omega (arith, size))
              ∙ ap (λ (r : Row). with_of r l) (row_at h hh) ∙ same_row
              ∙ sym (get_or_table 12 (λ a. row_of (is_pair (pairs ++ (pair h l ∷ [])) a)) h no_marks hh)
              ∙ ap (λ (k : ℕ). get_or (pair_rows (pairs ++ (pair h l ∷ []))) k no_marks) (sym e)
          | no d ↦
              get_or-set_other (pair_rows pairs) h a (with_of (get_or (pair_rows pairs) h no_marks) l) no_marks d
              ∙ row_at a small ∙ other_row a d ∙ sym (get_or_table 12 (λ a. row_of (is_pair (pairs ++ (pair h l ∷ [])) a)) a no_marks small)
        ])

pub ends_rows : (n : ℕ) (pairs : List Pair) (w r : ℕ) → n ≤ 12 → ends_by n (pair_rows pairs) w r ≡ good_ends n pairs w r
unfolding ends_by good_ends
ends_rows n pairs w r small = split (apart n w r)
    (λ e.
    let (h, l, d) = apart_true n w r e in
    rw (e, row_has pairs w r (omega arith) (omega arith), row_has pairs r w (omega arith) (omega arith)))
    (λ e. rw e)

-- a chain leads from a process to itself
pub cycle_rows : (n : ℕ) (pairs : List Pair) → n ≤ 12 → any n (λ a. holds (chains n (λ a b. marked (get_or (pair_rows pairs) a no_marks) b)) a a) ≡ cyclic n pairs
unfolding cyclic aheads
cycle_rows n pairs small = ap (λ (t : Relation). any n (λ a. holds t a a)) (chains_same n _ _ (λ a b h l. row_has pairs a b (omega arith) (omega arith)))
