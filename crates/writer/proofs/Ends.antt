-- Pairs judged and marked in rows; channels judged by those rows; both together.
use Prim.Native.Nat.{ℕ, ◌+◌, ◌≤◌, ◌<◌}
use mathlib.Core.Path.{◌≡◌, refl, sym, ap, subst, ◌∙◌}
use mathlib.Core.Bool.{Bool, true, false, not, ◌&&◌}
use mathlib.Core.List.{List, [], ◌∷◌, ◌++◌}
use native.Mathlib.Omega.{arith}
use lib.ListN.{length, get_or, set, take, replicate}
use Rattle.reply.specs.Tools.{any}
use Rattle.marks.specs.Row.{marked, no_marks, with_of}
use Rattle.marks.specs.declared.Row.{Row}
use Rattle.network.specs.Chains.{holds, chains}
use Rattle.network.specs.Pairs.{no_pair, is_pair, apart}
use Rattle.network.specs.PairLaws.{apart_true, good_later}
use Rattle.network.specs.RowLaws.{rows_none, row_has, rows_more, ends_rows, cycle_rows}
use Rattle.network.specs.Net.{no_channel}
use Rattle.network.specs.Valid.{GoodChannel}
use Rattle.network.specs.Told.{pair_rows, ends_by}
use Rattle.network.specs.declared.Pair.{Pair}
use Rattle.network.specs.declared.Channel.{Channel}
use Rattle.roundtrip.specs.Kinds.{ends_true}
use Rattle.std.specs.List.{list_all}
use Rattle.std.proofs.Common.{take_all, leb-true}
use Rattle.reply.specs.Tests.{both}
use lib.Dec.{leb}
use Rattle.network.specs.Read.{most_capacity}
use Rattle.writer.specs.Good.{good_channel, NewPair, PairsMarked, GoodEnds}
use Rattle.writer.proofs.Laying.{take_more}
use Rattle.writer.proofs.Passing.{goods_none, goods_next, all_true}

-- ---- pairs

module _ (n : ℕ) (pairs : List Pair) where
  pub pairs_none : (rows : List Row) → rows ≡ replicate 12 no_marks → PairsMarked n [] rows
  pairs_none rows e = record { good = goods_none no_pair (NewPair n); marks = e ∙ rows_none }

  -- the two processes of a pair have rows
  pub in_rows : (p : Pair) {t : Bool} → n ≤ 12 → t ≡ apart n p.higher p.lower → t ≡ true → (p.higher < 12) × (p.lower < 12)
  in_rows p small told apart-is = omega (arith, apart_true n p.higher p.lower (sym told ∙ apart-is))

  module _ {i : ℕ} {rows : List Row} (s : PairsMarked n (take i pairs) rows) (small : n ≤ 12)
      (p : Pair) (is : p ≡ get_or pairs i no_pair) {t : Bool} (told : t ≡ apart n p.higher p.lower) (apart-is : t ≡ true) where
    pub pairs_more : {has : Bool} → has ≡ marked (get_or rows p.higher no_marks) p.lower → has ≡ false → {row : Row} → row ≡ with_of (get_or rows p.higher no_marks) p.lower
        → i < length pairs → PairsMarked n (take (i + 1) pairs) (set rows p.higher row)
    pairs_more has-is new row_is h =
        let inside = in_rows p small told apart-is in
        let earlier = take i pairs in
        let more : take (i + 1) pairs ≡ earlier ++ (p ∷ []) = take_more no_pair pairs i h ∙ ap (λ (q : Pair). earlier ++ (q ∷ [])) (sym is) in
        let old : is_pair earlier p.higher p.lower ≡ false =
        sym (row_has earlier p.higher p.lower inside.0 (omega (arith, inside.1)))
        ∙ ap (λ (r : List Row). marked (get_or r p.higher no_marks) p.lower) (sym s.marks) ∙ sym has-is ∙ new in
        let good : NewPair n earlier p = good_later n earlier p.higher p.lower (sym told ∙ apart-is) ∙ ap not old in
        record {
          good = goods_next no_pair (NewPair n) p more s.good good;
          marks =
              ap (λ (r : Row). set rows p.higher r) row_is ∙ ap (λ (r : List Row). set r p.higher (with_of (get_or r p.higher no_marks) p.lower)) s.marks
              ∙ rows_more earlier p.higher p.lower inside.0 (omega (arith, inside.1)) ∙ ap pair_rows (sym more);
        }

  pub pairs_all : {i : ℕ} {rows : List Row} → PairsMarked n (take i pairs) rows → length pairs ≤ i → PairsMarked n pairs rows
  pairs_all {i} {rows} s h = subst (λ (l : List Pair). PairsMarked n l rows) (take_all i pairs h) s

-- ---- pairs and channels

module _ (n : ℕ) (pairs : List Pair) (channels : List Channel) (small : n ≤ 12) (rows : List Row) (put : PairsMarked n pairs rows) where
  -- a channel that is good by the rows is good
  by_rows : (c : Channel) → good_channel n rows c ≡ true → GoodChannel n pairs c
  by_rows c g =
      let (g₁, g₂) = both (leb c.kind 1) _ g in
      let (g₃, g₄) = both (leb 1 c.capacity && leb c.capacity (most_capacity c.kind)) _ g₂ in
      let (g₅, g₆) = both (leb 1 c.capacity) _ g₃ in
      let ends = sym (ends_rows n pairs c.writer c.reader small) ∙ ap (λ (r : List Row). ends_by n r c.writer c.reader) (sym put.marks) ∙ g₄ in
      let ((h, l, d), p) = ends_true n pairs c.writer c.reader ends in
      record { kind = leb-true c.kind 1 g₁; capacity = (leb-true 1 c.capacity g₅, leb-true c.capacity (most_capacity c.kind) g₆); writer = h; reader = l; apart = d; pair = p }

  pub ends_good : {t : Bool} → t ≡ any n (λ a. holds (chains n (λ a b. marked (get_or rows a no_marks) b)) a a) → t ≡ false
      → list_all (good_channel n rows) channels ≡ true → GoodEnds n pairs channels
  ends_good told none all = record {
    pairs_good = put.good;
    acyclic =
        ap not (sym (cycle_rows n pairs small) ∙ ap (λ (r : List Row). any n (λ a. holds (chains n (λ a b. marked (get_or r a no_marks) b)) a a)) (sym put.marks) ∙ sym told ∙ none);
    channels_good = record { size = refl; good = λ i h. by_rows (get_or channels i no_channel) (all_true (good_channel n rows) channels no_channel all i h) };
  }
