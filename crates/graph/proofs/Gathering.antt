-- The loop that gathers what the rows marked by a row mark. A mark that a row gathered has too needs no look: its own row is inside that one.
use Prim.Native.Nat.{ℕ, ◌≤◌, ◌<◌}
use mathlib.Core.Path.{◌≡◌, refl, sym, ap, subst, ◌∙◌}
use mathlib.Core.Logic.{⊎_elim, inl, inr}
use mathlib.Core.Bool.{Bool, true, false, not, ◌&&◌, ◌||◌}
use mathlib.Core.List.{List}
use Rattle.std.specs.Prelude.{None, Some}
use native.Mathlib.Omega.{arith}
use lib.ListN.{get_or}
use lib.Dec.{eqb}
use borrow.Author.Tests.{eqb-true, eq-eqb}
use Rattle.reply.specs.Tools.{any}
use Rattle.reply.specs.Tests.{split, clash, either, both, both_true, either_true, same_test}
use Rattle.reply.specs.AllAny.{any_true, any_make}
use Rattle.marks.specs.Row.{marked, no_marks, or_of, without_of, count_of}
use Rattle.marks.specs.Laws.{Fit, marked_none, marked_or, marked_without, fit_none, fit_or, row_is, rows_same}
use Rattle.marks.specs.declared.Row.{Row}
use Rattle.graph.specs.ReductionTold.{FindsMark, except_of, ReachesOn, gathered}
use Rattle.graph.proofs.Marks.{marked_except, fewer_marks}

-- the row marks k, whose row marks x
abbrev through : List Row → Row → ℕ → ℕ → Bool
through rows row x k = marked row k && marked (get_or rows k no_marks) x

-- the marks of `row` that are not left are gathered in `far`
pub record Gathers (rows : List Row) (row far left : Row) : Type 0 where
  pub fit : Fit far
  pub sound : (x : ℕ) → marked far x ≡ true → any 128 (through rows row x) ≡ true
  pub inside : (k : ℕ) → marked left k ≡ true → marked row k ≡ true
  pub covered : (k : ℕ) → marked row k ≡ true → marked left k ≡ false → (x : ℕ) → marked (get_or rows k no_marks) x ≡ true → marked far x ≡ true

pub gathers_begin : (rows : List Row) (row far : Row) → far ≡ no_marks → Gathers rows row far row
gathers_begin rows row far e = record {
  fit = subst (λ r. Fit r) (sym e) fit_none;
  sound = λ x t. absurd (clash t (ap (λ (r : Row). marked r x) e ∙ marked_none x));
  inside = λ k t. t;
  covered = λ k t u x m. absurd (clash t u);
}

module _ {rows : List Row} {row far left : Row} (s : Gathers rows row far left) where
  pub gathers_end : FindsMark left None → far ≡ gathered 128 rows row
  unfolding gathered
  gathers_end none = row_is far _ s.fit (λ x l. same_test (marked far x) (any 128 (through rows row x)) (s.sound x) (λ t.
      let (k, b, u) = any_true 128 (through rows row x) t in
      let (a, m) = both (marked row k) (marked (get_or rows k no_marks) x) u in
      s.covered k a (none k) x m))

  module _ (i : ℕ) (found : FindsMark left (Some i)) where
    own : marked row i ≡ true
    own = s.inside i found.1

    wide_marks : (wide : Row) → wide ≡ or_of far (get_or rows i no_marks) → (x : ℕ) → marked wide x ≡ (marked far x || marked (get_or rows i no_marks) x)
    wide_marks wide w x = ap (λ (r : Row). marked r x) w ∙ marked_or far (get_or rows i no_marks) x

    module _ (others new : Row) (o : others ≡ without_of left (get_or rows i no_marks)) (e : new ≡ except_of others i) where
      left_marks : (k : ℕ) → marked new k ≡ ((marked left k && not (marked (get_or rows i no_marks) k)) && not (eqb k i))
      left_marks k =
          ap (λ (r : Row). marked r k) e
          ∙ marked_except others i found.0 k
          ∙ ap (λ (b : Bool). b && not (eqb k i)) (ap (λ (r : Row). marked r k) o ∙ marked_without left (get_or rows i no_marks) k)

      left_inside : (k : ℕ) → marked new k ≡ true → marked left k ≡ true
      left_inside k t =
          let (a, b) = both (marked left k && not (marked (get_or rows i no_marks) k)) (not (eqb k i)) (sym (left_marks k) ∙ t) in
          (both (marked left k) (not (marked (get_or rows i no_marks) k)) a).0

      pub gathers_less : count_of new < count_of left
      gathers_less = fewer_marks new left i found.0 (left_marks i ∙ rw (eq-eqb i i refl) (and_false (marked left i && not (marked (get_or rows i no_marks) i)))) found.1 left_inside
        where
          and_false : (b : Bool) → (b && false) ≡ false
          and_false true = refl
          and_false false = refl

      pub gathers_go_on : ReachesOn rows row → (wide : Row) → wide ≡ or_of far (get_or rows i no_marks) → Gathers rows row wide new
      gathers_go_on joins wide w = record {
        fit = subst (λ r. Fit r) (sym w) (fit_or far (get_or rows i no_marks));
        sound = λ x t. ⊎_elim
            (λ u. s.sound x u)
            (λ u. any_make 128 (through rows row x) i found.0 (both_true (marked row i) (marked (get_or rows i no_marks) x) own u))
            (either (marked far x) (marked (get_or rows i no_marks) x) (sym (wide_marks wide w x) ∙ t));
        inside = λ k t. s.inside k (left_inside k t);
        covered = λ k t u x m. wide_marks wide w x ∙ either_true (marked far x) (marked (get_or rows i no_marks) x) (split (marked left k)
            (λ l. inr (split (marked (get_or rows i no_marks) k)
            (λ a. joins.join i k x own a m)
            (λ a. split (eqb k i)
            (λ b. subst (λ y. marked (get_or rows y no_marks) x ≡ true) (eqb-true k i b) m)
            (λ b. absurd (clash (left_marks k ∙ rw (l, a, b)) u)))))
            (λ l. inl (s.covered k t l x m)));
      }

-- the marks of a row that stand below n are all that it has
pub gathered_few : (n : ℕ) (rows : List Row) (row : Row) → n ≤ 128 → ((k : ℕ) → marked row k ≡ true → k < n) → gathered 128 rows row ≡ gathered n rows row
unfolding gathered
gathered_few n rows row few below = rows_same _ _ (λ x h. same_test (any 128 (through rows row x)) (any n (through rows row x))
    (λ t.
    let (k, l, u) = any_true 128 (through rows row x) t in
    any_make n (through rows row x) k (below k (both (marked row k) (marked (get_or rows k no_marks) x) u).0) u)
    (λ t.
    let (k, l, u) = any_true n (through rows row x) t in
    any_make 128 (through rows row x) k (omega arith) u))
