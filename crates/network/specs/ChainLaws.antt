-- `chains` decides `Chain`: a chain leads from a to b exactly when `chains` holds there.
use Rattle.std.specs.Prelude.{ℕ, zero, suc, ◌≤◌, ◌<◌, ◌≡◌, ◌⊎◌, Bool, true, ◌&&◌, ◌||◌}
use Rattle.std.proofs.Common.{sym, subst, ◌∙◌, inl, inr, arith}
use Rattle.std.proofs.Math.Path.{ap}
use Rattle.std.proofs.Math.Bool.{false}
use mathlib.Core.List.{List, []}
use Rattle.std.proofs.Math.Decide.{dec_lt}
use Rattle.std.proofs.Math.ListN.{get_or}
use Rattle.reply.specs.Tests.{clash, either, both, either_true, both_true}
use Rattle.network.specs.Lists.{table}
use Rattle.network.specs.ListLaws.{get_or_table, get_or_table_past}
use Rattle.network.specs.Chains.{Chain, one, more, holds, relation, through, chains}

-- ---- relations

module _ (n : ℕ) (q : ℕ → ℕ → Bool) where
  pub relation_holds : (a b : ℕ) → a < n → b < n → holds (relation n q) a b ≡ q a b
  unfolding holds relation
  relation_holds a b ha hb = ap (λ (row : List Bool). get_or row b false) (get_or_table n (λ a. table n (λ b. q a b)) a [] ha) ∙ get_or_table n (λ b. q a b) b false hb

  pub relation_within : (a b : ℕ) → holds (relation n q) a b ≡ true → (a < n) × (b < n)
  unfolding holds relation
  relation_within a b e = elim (dec_lt a n) [
    | yes ha ↦ elim (dec_lt b n) [
      | yes hb ↦ (ha, hb)
      | no hb ↦ clash e (ap (λ (row : List Bool). get_or row b false) (get_or_table n (λ a. table n (λ b. q a b)) a [] ha) ∙ get_or_table_past n (λ b. q a b) b false (omega arith))
    ]
    | no ha ↦ clash e (ap (λ (row : List Bool). get_or row b false) (get_or_table_past n (λ a. table n (λ b. q a b)) a [] (omega arith)))
  ]

-- ---- chains

pub chain_join : {step : ℕ → ℕ → Bool} {a b c : ℕ} → Chain step a b → Chain step b c → Chain step a c
chain_join (one s) d = more s d
chain_join (more s d) e = more s (chain_join d e)

module _ (n : ℕ) (step : ℕ → ℕ → Bool) where
  abbrev via : ℕ → ℕ → ℕ → Bool
  via k a b = holds (through n step k) a b

  pub through_zero : (a b : ℕ) → a < n → b < n → holds (through n step 0) a b ≡ step a b
  unfolding through
  through_zero a b ha hb = relation_holds n step a b ha hb

  pub through_suc : (k a b : ℕ) → a < n → b < n
      → holds (through n step (suc k)) a b ≡ (holds (through n step k) a b || (holds (through n step k) a k && holds (through n step k) k b))
  unfolding through
  through_suc k a b ha hb = relation_holds n (λ a b. via k a b || (via k a k && via k k b)) a b ha hb

  sound : (k : ℕ) → k ≤ n → (a b : ℕ) → a < n → b < n → via k a b ≡ true → Chain step a b
  sound zero l a b ha hb e = one (sym (through_zero a b ha hb) ∙ e)
  sound (suc k) l a b ha hb e = go (either (via k a b) (via k a k && via k k b) (sym (through_suc k a b ha hb) ∙ e)) (sound k (omega arith))
    where
      go : (via k a b ≡ true) ⊎ ((via k a k && via k k b) ≡ true) → ((a b : ℕ) → a < n → b < n → via k a b ≡ true → Chain step a b) → Chain step a b
      go (inl t) ih = ih a b ha hb t
      go (inr t) ih =
          let (t₁, t₂) = both (via k a k) (via k k b) t in
          chain_join (ih a k ha (omega arith) t₁) (ih k b (omega arith) hb t₂)

  on : (k a b : ℕ) → a < n → b < n → via k a b ≡ true → via (suc k) a b ≡ true
  on k a b ha hb e = through_suc k a b ha hb ∙ either_true (via k a b) (via k a k && via k k b) (inl e)

  over : (k a b : ℕ) → a < n → b < n → via k a k ≡ true → via k k b ≡ true → via (suc k) a b ≡ true
  over k a b ha hb e f = through_suc k a b ha hb ∙ either_true (via k a b) (via k a k && via k k b) (inr (both_true (via k a k) (via k k b) e f))

  from_zero : (k a b : ℕ) → a < n → b < n → step a b ≡ true → via k a b ≡ true
  from_zero zero a b ha hb e = through_zero a b ha hb ∙ e
  from_zero (suc k) a b ha hb e = on k a b ha hb (from_zero k a b ha hb e)

  -- a step to c, below k, and on from there
  step_in : (k : ℕ) → k ≤ n → (a c b : ℕ) → a < n → c < k → b < n → step a c ≡ true → via k c b ≡ true → via k a b ≡ true
  step_in zero l a c b ha hc hb s e = absurd (omega arith)
  step_in (suc k) l a c b ha hc hb s e =
      go (either (via k c b) (via k c k && via k k b) (sym (through_suc k c b (omega arith) hb) ∙ e)) (dec_lt c k) (step_in k (omega arith) a c)
    where
      go : (via k c b ≡ true) ⊎ ((via k c k && via k k b) ≡ true) → Dec (c < k)
          → ((b : ℕ) → a < n → c < k → b < n → step a c ≡ true → via k c b ≡ true → via k a b ≡ true) → via (suc k) a b ≡ true
      go (inl t) (yes d) ih = on k a b ha hb (ih b ha d hb s t)
      go (inr t) (yes d) ih =
          let (t₁, t₂) = both (via k c k) (via k k b) t in
          over k a b ha hb (ih k ha d (omega arith) s t₁) t₂
      go (inl t) (no d) ih =
          let z : c ≡ k = omega arith in
          over k a b ha hb (from_zero k a k ha (omega arith) (subst (λ x. step a x ≡ true) z s)) (subst (λ x. via k x b ≡ true) z t)
      go (inr t) (no d) ih =
          let z : c ≡ k = omega arith in
          over k a b ha hb (from_zero k a k ha (omega arith) (subst (λ x. step a x ≡ true) z s)) (both (via k c k) (via k k b) t).1

  -- the relation is on the numbers below n
  module _ (within : (a b : ℕ) → step a b ≡ true → (a < n) × (b < n)) where
    pub chain_ends : {a b : ℕ} → Chain step a b → (a < n) × (b < n)
    chain_ends {a} {b} (one s) = within a b s
    chain_ends {a} {b} (more {b = c} s d) = ((within a c s).0, (chain_ends d).1)

    complete : {a b : ℕ} → Chain step a b → via n a b ≡ true
    complete {a} {b} (one s) = from_zero n a b (within a b s).0 (within a b s).1 s
    complete {a} {b} (more {b = c} s d) =
        step_in n (omega arith) a c b (within a c s).0 (within a c s).1 (chain_ends d).1 s (complete d)

    pub chains_complete : {a b : ℕ} → Chain step a b → holds (chains n step) a b ≡ true
    unfolding chains
    chains_complete c = complete c

    pub chains_sound : (a b : ℕ) → a < n → b < n → holds (chains n step) a b ≡ true → Chain step a b
    unfolding chains
    chains_sound a b ha hb e = sound n (omega arith) a b ha hb e
