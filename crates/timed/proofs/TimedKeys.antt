-- The keys of the jobs: made one by one, the least of them found, and one job's taken away.
use Rattle.std.specs.Prelude.{ℕ, zero, suc, ◌+◌, ◌*◌, ◌%◌, ◌≤◌, ◌<◌, min, ◌≡◌, refl, true, false, not, List, get_or, set, replicate}
use Rattle.std.proofs.Common.{sym, ap, ◌∙◌, arith, length-set, get_or-set_same, get_or-set_other}
use Rattle.std.proofs.Math.Decide.{ℕ_discrete, dec_lt}
use Rattle.std.proofs.lemmas.List.{length-replicate, get_or-replicate}
use borrow.Author.Tests.{not-true}
use Rattle.reply.specs.Tests.{split, clash}
use Rattle.reply.specs.Pick.{Lowest, picked}
use Rattle.marks.specs.Row.{marked, no_marks, with_of}
use Rattle.marks.specs.Laws.{marked_none, with_same, with_other}
use Rattle.marks.specs.declared.Row.{Row}
use Rattle.plan.specs.Plan.{start_at}
use Rattle.timed.specs.TimedTold.{StartsSmall, KeysTell, Chooses, next_by}

-- ---- the keys of the first j jobs

pub no_keys : (plan : List ℕ) → KeysTell no_marks plan 0 (replicate 128 4294967295)
no_keys plan = record {
  size = length-replicate {A = ℕ} 128 4294967295;
  untimed = λ i h e. absurd (omega arith);
  timed_one = λ i h e. absurd (omega arith);
  none = λ i h l. get_or-replicate {A = ℕ} 128 i 4294967295 0 l;
}

module _ {plan keys : List ℕ} {j : ℕ} (so_far : KeysTell no_marks plan j keys) where
  abbrev key : ℕ
  key = 128 * start_at plan j + j

  pub one_key : j < 128 → KeysTell no_marks plan (j + 1) (set keys j (128 * start_at plan j + j))
  one_key h = record {
    size = length-set keys j key ∙ so_far.size;
    untimed = λ i l e. elim (dec_lt i j) [
      | yes below ↦ get_or-set_other keys j i key 0 (λ z. omega arith) ∙ so_far.untimed i below e
      | no past ↦ let same : i ≡ j = omega arith in rw same (get_or-set_same keys j key 0 (omega (arith, so_far.size)))
    ];
    timed_one = λ i l e. clash e (marked_none i);
    none = λ i g l. get_or-set_other keys j i key 0 (λ z. omega arith) ∙ so_far.none i (omega arith) l;
  }

  pub all_keys : (n : ℕ) → j ≤ n → n ≤ j → KeysTell no_marks plan n keys
  all_keys n l g = let same : n ≡ j = omega arith in rw same so_far

-- ---- the least of the first j keys

pub record LeastSo (keys : List ℕ) (least j : ℕ) : Type 0 where
  pub one : (i : ℕ) × (i < 128) × (least ≡ get_or keys i 0)
  pub each : (i : ℕ) → i < j → least ≤ get_or keys i 0

module _ (keys : List ℕ) where
  pub first_key : LeastSo keys (get_or keys 0 0) 0
  first_key = record { one = (0, omega arith, refl); each = λ i h. absurd (omega arith) }

  no_less : {least j : ℕ} → LeastSo keys least j → least ≤ get_or keys j 0 → LeastSo keys least (j + 1)
  no_less {least} {j} so_far l = record {
    one = so_far.one;
    each = λ i h. elim (dec_lt i j) [ yes below ↦ so_far.each i below | no past ↦ let same : i ≡ j = omega arith in rw same l ];
  }

  one_less : {least j : ℕ} → LeastSo keys least j → j < 128 → get_or keys j 0 < least → LeastSo keys (get_or keys j 0) (j + 1)
  one_less {least} {j} so_far h l = record {
    one = (j, h, refl);
    each = λ i g. elim (dec_lt i j) [ yes below ↦ omega (arith, so_far.each i below) | no past ↦ let same : i ≡ j = omega arith in rw same (omega arith) ];
  }

  pub least_step : {least j : ℕ} → LeastSo keys least j → j < 128 → LeastSo keys (min least (get_or keys j 0)) (j + 1)
  least_step {least} {j} so_far h = elim (dec_lt (get_or keys j 0) least) [
    | yes l ↦ let e : min least (get_or keys j 0) ≡ get_or keys j 0 = omega arith in rw e (one_less so_far h l)
    | no g ↦ let e : min least (get_or keys j 0) ≡ least = omega arith in rw e (no_less so_far (omega arith))
  ]

-- its job is the next
pub least_chosen : {keys : List ℕ} {key : ℕ} → LeastSo keys key 128 → Chooses keys (key % 128)
least_chosen {keys} {key} L = record { is = λ timed plan n S K some. go timed plan n S K (next_by timed plan n) refl some }
  where
    go : (timed : Row) (plan : List ℕ) (n : ℕ) → StartsSmall plan n → KeysTell timed plan n keys → (x : ℕ) → next_by timed plan n ≡ x
        → (next_by timed plan n ≡ 0 → ⊥) → suc (key % 128) ≡ next_by timed plan n
    go timed plan n S K zero e some = absurd (some e)
    go timed plan n S K (suc m) e some =
        let P : Lowest (λ j. not (marked timed j)) (start_at plan) n m = picked (λ j. not (marked timed j)) (start_at plan) n m e in
        let below : m < n = P.below in
        let unmarked : marked timed m ≡ false = not-true (marked timed m) P.passes in
        let own : get_or keys m 0 ≡ 128 * start_at plan m + m = K.untimed m below unmarked in
        let (j, hj, is) = L.one in
        let most : key ≤ get_or keys m 0 = L.each m (omega (arith, S.few)) in
        let small : key ≤ 256127 = omega (arith, most, own, S.small m below, S.few) in
        let low : j < n = elim (dec_lt j n) [ yes l ↦ l | no l ↦ absurd (omega (arith, K.none j (omega arith) hj)) ] in
        let next : marked timed j ≡ false = split (marked timed j) (λ t. absurd (omega (arith, K.timed_one j low t))) (λ f. f) in
        let mine : get_or keys j 0 ≡ 128 * start_at plan j + j = K.untimed j low next in
        let passes : not (marked timed j) ≡ true = rw next refl in
        let least : start_at plan m ≤ start_at plan j = P.least j low passes in
        let same : j ≡ m = elim (dec_lt j m) [
          | yes l ↦ absurd (omega (arith, P.lowest j l passes, most, own, mine, is, S.few))
          | no g ↦ omega (arith, least, most, own, mine, is, S.few)
        ] in
        let job : key % 128 ≡ m = omega (arith, is, mine, same, S.few) in
        ap suc job ∙ sym e

-- ---- one more job is timed

pub key_timed : {timed : Row} {plan keys : List ℕ} {n job : ℕ} → KeysTell timed plan n keys → job < n → n ≤ 128 → KeysTell (with_of timed job) plan n (set keys job 4294967295)
key_timed {timed} {plan} {keys} {n} {job} K h few = record {
  size = length-set keys job 4294967295 ∙ K.size;
  untimed = λ i l e. elim (ℕ_discrete i job) [
    | yes z ↦ clash (ap (marked (with_of timed job)) z ∙ with_same timed job (omega arith)) e
    | no d ↦ get_or-set_other keys job i 4294967295 0 d ∙ K.untimed i l (sym (with_other timed job i d) ∙ e)
  ];
  timed_one = λ i l e. elim (ℕ_discrete i job) [
    | yes z ↦ rw z (get_or-set_same keys job 4294967295 0 (omega (arith, K.size)))
    | no d ↦ get_or-set_other keys job i 4294967295 0 d ∙ K.timed_one i l (sym (with_other timed job i d) ∙ e)
  ];
  none = λ i g l. get_or-set_other keys job i 4294967295 0 (λ z. omega arith) ∙ K.none i g l;
}
