-- The pairs of a struct marked in rows one by one; and the chains that they make.
use Prim.Native.Nat.{ℕ, ◌+◌, ◌≤◌, ◌<◌}
use mathlib.Core.Path.{◌≡◌, refl, sym, ap, subst, ◌∙◌}
use mathlib.Core.Bool.{Bool, true, false, ◌&&◌, ◌||◌}
use mathlib.Core.List.{List}
use native.Mathlib.Decide.{ℕ_discrete}
use native.Mathlib.Numerals.{add-one}
use native.Mathlib.Omega.{arith}
use lib.ListN.{length, get_or, set, take, replicate, get_or-replicate}
use lib.Seq.{get_or-set_same, get_or-set_other, take-suc}
use lib.Dec.{eqb}
use borrow.Author.Tests.{eq-eqb, ne_eqb, eqb-true}
use Rattle.reply.specs.Tests.{same_test}
use Rattle.marks.specs.Row.{marked, no_marks, with_of}
use Rattle.marks.specs.Laws.{marked_none, marked_with}
use Rattle.marks.specs.declared.Row.{Row}
use Rattle.network.specs.Chains.{Relation, holds, chains}
use Rattle.network.specs.ChainsSame.{chains_same}
use Rattle.network.specs.RowChains.{Leads}
use Rattle.network.specs.Pairs.{no_pair, same_pair, is_pair, aheads}
use Rattle.network.specs.PairLaws.{pair_none, pair_more}
use Rattle.network.specs.Net.{within}
use Rattle.network.specs.AheadTold.{PairAdded, MarksPairs, count_of, AheadTold}
use Rattle.network.specs.declared.Pair.{Pair}
use Rattle.network.specs.declared.Network.{Network}

or_false : (b : Bool) → (b || false) ≡ b
or_false true = refl
or_false false = refl

-- ---- one pair

module _ (pair : Pair) (old : List Row) where
  -- it is marked
  pub added : (more : Row) → length old ≡ 12 → pair.higher < 12 → pair.lower < 12 → more ≡ with_of (get_or old pair.higher no_marks) pair.lower
      → PairAdded pair old (set old pair.higher more)
  unfolding same_pair
  added more size h l e = record {
    marks = λ a b ha hb. elim (ℕ_discrete a pair.higher) [
      | yes z ↦
          subst (λ x. marked (get_or (set old pair.higher more) x no_marks) b ≡ (marked (get_or old x no_marks) b || (eqb pair.higher x && eqb pair.lower b))) (sym z)
          (ap (λ (r : Row). marked r b) (get_or-set_same old pair.higher more no_marks (omega (arith, size)) ∙ e)
          ∙ marked_with (get_or old pair.higher no_marks) pair.lower (omega arith) b
          ∙ ap (λ (t : Bool). marked (get_or old pair.higher no_marks) b || t) (turned b pair.lower)
          ∙ sym (rw (eq-eqb pair.higher pair.higher refl)))
      | no d ↦
          ap (λ (r : Row). marked r b) (get_or-set_other old pair.higher a more no_marks d)
          ∙ sym (rw (ne_eqb pair.higher a (λ z. d (sym z))) (or_false (marked (get_or old a no_marks) b)))
    ];
  }
    where
      turned : (i k : ℕ) → eqb i k ≡ eqb k i
      turned i k = same_test (eqb i k) (eqb k i) (λ t. eq-eqb k i (sym (eqb-true i k t))) (λ t. eq-eqb i k (sym (eqb-true k i t)))

  -- it is of a number that is no process
  pub left_out_higher : 12 ≤ pair.higher → PairAdded pair old old
  unfolding same_pair
  left_out_higher h = record {
    marks = λ a b ha hb. sym (rw (ne_eqb pair.higher a (λ z. omega arith)) (or_false (marked (get_or old a no_marks) b)));
  }

  pub left_out_lower : 12 ≤ pair.lower → PairAdded pair old old
  unfolding same_pair
  left_out_lower h = record {
    marks = λ a b ha hb.
        sym (rw (ne_eqb pair.lower b (λ z. omega arith))
        (ap (λ (t : Bool). marked (get_or old a no_marks) b || t) (and_false (eqb pair.higher a)) ∙ or_false (marked (get_or old a no_marks) b)));
  }
    where
      and_false : (b : Bool) → (b && false) ≡ false
      and_false true = refl
      and_false false = refl

-- ---- the first i pairs

module _ (pairs : List Pair) where
  pub pairs_begin : (rows : List Row) → rows ≡ replicate 12 no_marks → MarksPairs (take 0 pairs) rows
  pairs_begin rows e = record {
    marks = λ a b h l.
        ap (λ (r : List Row). marked (get_or r a no_marks) b) e
        ∙ ap (λ (r : Row). marked r b) (get_or-replicate 12 a no_marks no_marks h)
        ∙ marked_none b ∙ sym (pair_none a b);
  }

  pub pairs_go_on : (i : ℕ) (old new : List Row) → i < length pairs → MarksPairs (take i pairs) old → PairAdded (get_or pairs i no_pair) old new
      → MarksPairs (take (i + 1) pairs) new
  pairs_go_on i old new h m p = record {
    marks = λ a b ha hb.
        p.marks a b ha hb
        ∙ ap (λ (t : Bool). t || same_pair (get_or pairs i no_pair) a b) (m.marks a b ha hb)
        ∙ sym (ap (λ (l : List Pair). is_pair l a b) (ap (λ (k : ℕ). take k pairs) (add-one i) ∙ take-suc pairs i no_pair h) ∙ pair_more (take i pairs) (get_or pairs i no_pair) a b);
  }

-- ---- where chains lead

-- where chains of marks lead, when the marks are pairs
leads_pairs : (n : ℕ) (pairs : List Pair) (rows ends : List Row) → n ≤ 12 → MarksPairs pairs rows → Leads n (λ a b. marked (get_or rows a no_marks) b) n ends
    → (a b : ℕ) → a < n → b < n → marked (get_or ends a no_marks) b ≡ holds (aheads n pairs) a b
unfolding aheads chains
leads_pairs n pairs rows ends small m l a b ha hb =
    l.marks a b ha hb
    ∙ ap (λ (t : Relation). holds t a b) (chains_same n (λ a b. marked (get_or rows a no_marks) b) (is_pair pairs) (λ i k hi hk. m.marks i k (omega arith) (omega arith)))

pub ahead_within : (network : Network) (n : ℕ) (rows ends : List Row) → n ≡ count_of network → MarksPairs (within network).pairs rows
    → Leads n (λ a b. marked (get_or rows a no_marks) b) n ends → AheadTold network ends
unfolding within
ahead_within network n rows ends e m l =
    let of-count : Leads (count_of network) (λ a b. marked (get_or rows a no_marks) b) (count_of network) ends = subst (λ x. Leads x (λ a b. marked (get_or rows a no_marks) b) x ends) e l in
    record { marks = leads_pairs (count_of network) (take network.pair_count network.pairs) rows ends (omega arith) m of-count }
