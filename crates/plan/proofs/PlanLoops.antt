-- The loops of the planner: the best number so far, the latest end so far, the earliest processor so far, and the jobs placed so far.
use Rattle.std.specs.Prelude.{ℕ, zero, suc, ◌+◌, ◌*◌, ◌≤◌, ◌<◌, max, ◌≡◌, refl, Bool, true, false, cond, List, take, Option, Some, None, IsSome, Ok, Err}
use Rattle.std.specs.declared.result.Result as Std
use Rattle.std.specs.Option.{option_map}
use Rattle.std.proofs.Common.{sym, ap, subst, ◌∙◌, arith, add-one, get_or}
use borrow.Author.Tests.{lt-ltb, le-ltb, ltb-true, ltb-false}
use Rattle.reply.specs.Tools.{pick, better}
use Rattle.reply.specs.Tests.{split}
use Rattle.reply.specs.Pick.{pick_zero, pick_suc, pick_most, some_picked}
use Rattle.reply.specs.Result.{done, refused}
use Rattle.reply.specs.declared.Refusal.{Refusal}
use Rattle.marks.specs.Row.{marked}
use Rattle.marks.specs.declared.Row.{Row}
use Rattle.graph.specs.Work.{Work}
use Rattle.graph.specs.declared.Framed.{Framed}
use Rattle.plan.specs.Greatest.{greatest, greatest_zero, greatest_suc}
use Rattle.plan.specs.Plan.{any_processor, planned_by}
use Rattle.plan.specs.PlanTold.{picked_of, beats, LeastOf, ready_by, Tabled, Reached, After, Stepped, AllPlaced}
use Rattle.plan.specs.PlanSteps.{none_reached, all_planned, one_misses}
use Rattle.plan.specs.Standing.{nothing_by}
use Rattle.plan.specs.declared.standing.Standing.{Standing}

-- ---- the best number so far, if there is one

pub suc_of : {x b : ℕ} → Some b ≡ picked_of x → x ≡ suc b
suc_of {x = zero} e = cc
suc_of {x = suc m} e = cc

module _ (q : ℕ → Bool) (key : ℕ → ℕ) where
  -- one number more
  pick_more : (j x : ℕ) → pick q key j ≡ x → pick q key (j + 1) ≡ better q key j x
  pick_more j x e = ap (pick q key) (add-one j) ∙ pick_suc q key j ∙ ap (better q key j) e

  stays : (j x : ℕ) → q j ≡ false → better q key j x ≡ x
  stays j zero e = rw e refl
  stays j (suc m) e = rw e refl

  -- the best of the first j, and its key
  abbrev BestIs : ℕ → Option (ℕ × ℕ) → Type 0
  BestIs j None = pick q key j ≡ 0
  BestIs j (Some (i, least)) = (pick q key j ≡ suc i) × (least ≡ key i)

  best_passed : (j : ℕ) (best : Option (ℕ × ℕ)) → q j ≡ false → BestIs j best → BestIs (j + 1) best
  best_passed j None e b = pick_more j 0 b ∙ stays j 0 e
  best_passed j (Some (i, least)) e b = (pick_more j (suc i) b.0 ∙ stays j (suc i) e, b.1)

  best_kept : (j i least : ℕ) → q j ≡ true → least ≤ key j → BestIs j (Some (i, least)) → BestIs (j + 1) (Some (i, least))
  best_kept j i least e l b = (pick_more j (suc i) b.0 ∙ rw (e, le-ltb (key j) (key i) (omega (arith, b.1))) refl, b.1)

  best_taken : (j i least : ℕ) → q j ≡ true → key j < least → BestIs j (Some (i, least)) → BestIs (j + 1) (Some (j, key j))
  best_taken j i least e l b = (pick_more j (suc i) b.0 ∙ rw (e, lt-ltb (key j) (key i) (omega (arith, b.1))) refl, refl)

  best_first : (j : ℕ) → q j ≡ true → BestIs j None → BestIs (j + 1) (Some (j, key j))
  best_first j e b = (pick_more j 0 b ∙ rw e refl, refl)

  -- what was found is one of the first n
  pub found_low : (n : ℕ) {b : ℕ} {found : Option ℕ} → found ≡ Some b → found ≡ picked_of (pick q key n) → (b < n) × (suc b ≡ pick q key n)
  found_low n {b} e h = let is : pick q key n ≡ suc b = suc_of (sym e ∙ h) in (omega (arith, pick_most q key n), sym is)

-- of every test and key that say what the calls may give
pub record Least (passes : ℕ → Bool → Type 0) (keys : ℕ → ℕ → Type 0) (n j : ℕ) (best : Option (ℕ × ℕ)) : Type 0 where
  pub is : (q : ℕ → Bool) (key : ℕ → ℕ) → ((i : ℕ) (b : Bool) → i < n → passes i b → b ≡ q i) → ((i k : ℕ) → i < n → keys i k → k ≡ key i) → BestIs q key j best

module _ {passes : ℕ → Bool → Type 0} {keys : ℕ → ℕ → Type 0} {n : ℕ} where
  pub none_yet : Least passes keys n 0 None
  none_yet = record { is = λ q key f g. pick_zero q key }

  module _ {j : ℕ} {best : Option (ℕ × ℕ)} (so_far : Least passes keys n j best) (below : j < n) {b : Bool} (told : passes j b) where
    pub passed_by : b ≡ false → Least passes keys n (j + 1) best
    passed_by e = record { is = λ q key f g. best_passed q key j best (sym (f j b below told) ∙ e) (so_far.is q key f g) }

    module _ (pass : b ≡ true) {here : ℕ} (at : keys j here) where
      pub taken : {i least : ℕ} → best ≡ Some (i, least) → here < least → Least passes keys n (j + 1) (Some (j, here))
      taken {i} {least} e l = record {
        is = λ q key f g. rw (g j here below at)
            (best_taken q key j i least (sym (f j b below told) ∙ pass) (omega (arith, g j here below at)) (subst (BestIs q key j) e (so_far.is q key f g)));
      }

      pub first_taken : best ≡ None → Least passes keys n (j + 1) (Some (j, here))
      first_taken e = record {
        is = λ q key f g. rw (g j here below at) (best_first q key j (sym (f j b below told) ∙ pass) (subst (BestIs q key j) e (so_far.is q key f g)));
      }

  -- a number of a lesser key passes: it is the best now
  pub won : (best : Option (ℕ × ℕ)) {j here : ℕ} {b : Bool} → Least passes keys n j best → j < n → passes j b → b ≡ true → keys j here → beats best here ≡ true
      → Least passes keys n (j + 1) (Some (j, here))
  won None so_far below told pass at e = first_taken so_far below told pass at refl
  won (Some (i, least)) {here = here} so_far below told pass at e = taken so_far below told pass at refl (ltb-true here least e)

  -- one of no lesser key leaves the best as it is, whether it passes or not
  pub lost : (best : Option (ℕ × ℕ)) {j here : ℕ} → Least passes keys n j best → j < n → keys j here → beats best here ≡ false → Least passes keys n (j + 1) best
  lost None so_far below at e = let z : ◌≡◌ {A = ℕ} 0 1 = ap (λ (b : Bool). cond b 0 1) e in absurd (omega arith)
  lost (Some (i, least)) {j} {here} so_far below at e = record {
    is = λ q key f g. split (q j)
        (λ t. best_kept q key j i least t (omega (arith, ltb-false here least e, g j here below at)) (so_far.is q key f g))
        (λ t. best_passed q key j (Some (i, least)) t (so_far.is q key f g));
  }

  module _ {j : ℕ} {best : Option (ℕ × ℕ)} (so_far : Least passes keys n j best) (l : j ≤ n) (g : n ≤ j) where
    all_seen : j ≡ n
    all_seen = omega arith

    pub best_of : {found : Option ℕ} → found ≡ option_map (λ (p : ℕ × ℕ). p.0) best → LeastOf passes keys n found
    best_of {found} e = record { is = λ q key f h. rw e (go q key best (so_far.is q key f h)) }
      where
        go : (q : ℕ → Bool) (key : ℕ → ℕ) (b : Option (ℕ × ℕ)) → BestIs q key j b → option_map (λ (p : ℕ × ℕ). p.0) b ≡ picked_of (pick q key n)
        go q key None is = rw (ap (pick q key) (sym all_seen) ∙ is) refl
        go q key (Some (i, least)) is = rw (ap (pick q key) (sym all_seen) ∙ is.0) refl

-- ---- the earliest processor: there is one

module _ (start : ℕ → ℕ) {n : ℕ} (some : 1 ≤ n) where
  pub one_found : {found : Option ℕ} → found ≡ picked_of (pick any_processor start n) → IsSome found
  one_found {found} h =
      let (p, is) = some_picked any_processor start n 0 some refl in
      rw (h, is) refl

-- ---- the latest end so far

module _ (ends : List ℕ) (row : Row) (release : ℕ) where
  abbrev end : ℕ → ℕ
  end i = cond (marked row i) (get_or ends i 0) 0

  pub at_release : release ≡ ready_by ends row 0 release
  at_release = omega (arith, greatest_zero end)

  one_more : (i : ℕ) → greatest (i + 1) end ≡ max (greatest i end) (end i)
  one_more i = ap (λ (k : ℕ). greatest k end) (add-one i) ∙ greatest_suc i end

  pub not_marked : (i : ℕ) {ready : ℕ} → ready ≡ ready_by ends row i release → marked row i ≡ false → ready ≡ ready_by ends row (i + 1) release
  not_marked i e t = omega (arith, e, one_more i, zero_end)
    where
      zero_end : end i ≡ 0
      zero_end = rw t refl

  pub is_marked : (i : ℕ) {ready : ℕ} → ready ≡ ready_by ends row i release → marked row i ≡ true → max ready (get_or ends i 0) ≡ ready_by ends row (i + 1) release
  is_marked i e t = omega (arith, e, one_more i, its_end)
    where
      its_end : end i ≡ get_or ends i 0
      its_end = rw t refl

  pub ready_of : {i j ready : ℕ} → ready ≡ ready_by ends row i release → i ≤ j → j ≤ i → ready ≡ ready_by ends row j release
  ready_of {i} {j} e l g = let same : i ≡ j = omega arith in e ∙ ap (λ (k : ℕ). ready_by ends row k release) same

-- ---- the jobs placed so far

pub record Going (t : Framed) (m : ℕ) (placed : Standing) (k : ℕ) : Type 0 where
  pub reached : (w : Work) → Tabled w t m → Reached w t m k placed

pub set_out : {t : Framed} {m : ℕ} → Going t m nothing_by 0
set_out = record { reached = λ w T. none_reached T }

module _ {t : Framed} {m k : ℕ} {placed placed' : Standing} {r : Std.Result (Unit {0}) Refusal}
    (so_far : Going t m placed k) (below : k < t.job_count) (stepped : Stepped t m placed r placed') where
  after : (w : Work) → Tabled w t m → After w t m (suc k) r placed'
  after w T = stepped.is w k below (so_far.reached w T)

  pub one_placed : {u : Unit {0}} → r ≡ Ok u → Going t m placed' (k + 1)
  one_placed e = record { reached = λ w T. rw (add-one k) (subst (λ (x : Std.Result (Unit {0}) Refusal). After w t m (suc k) x placed') e (after w T)) }

  pub one_missed : {refusal : Refusal} → r ≡ Err refusal → AllPlaced t m (Err refusal)
  one_missed {refusal} e = record { is = λ w T. record { is = rw (missed w T) refl } }
    where
      missed : (w : Work) → Tabled w t m → planned_by w m ≡ refused refusal.reply refusal.place
      missed w T = one_misses w m (suc k) refusal.reply refusal.place (omega (arith, T.count)) (subst (λ (x : Std.Result (Unit {0}) Refusal). After w t m (suc k) x placed') e (after w T))

pub placed_all : {t : Framed} {m k : ℕ} {placed : Standing} → Going t m placed k → k ≤ t.job_count → t.job_count ≤ k → AllPlaced t m (Ok placed.words)
placed_all {t} {m} {k} {placed} g l h = record { is = λ w T. record { is = rw (planned w T) refl } }
  where
    planned : (w : Work) → Tabled w t m → planned_by w m ≡ done (take (2 * t.job_count) placed.words)
    planned w T = let same : k ≡ t.job_count = omega arith in all_planned (subst (λ x. Reached w t m x placed) same (g.reached w T))
