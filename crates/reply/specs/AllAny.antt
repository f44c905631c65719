-- `all` and `any` are what they say.
use Rattle.std.specs.Prelude.{ℕ, zero, suc, ◌<◌, ◌≡◌, refl, ◌⊎◌, Bool, true, false, ◌&&◌, ◌||◌}
use Rattle.std.proofs.Common.{subst, inl, inr, arith}
use Rattle.std.proofs.Math.Decide.{dec_lt}
use Rattle.reply.specs.Tools.{all, any}
use Rattle.reply.specs.Tests.{split, clash, both, either}

-- what holds below n, and at n, holds below n + 1
pub below_suc : (n : ℕ) (Q : ℕ → Type 0) → Q n → ((i : ℕ) → i < n → Q i) → (i : ℕ) → i < suc n → Q i
below_suc n Q q f i h = elim (dec_lt i n) [ yes l ↦ f i l | no l ↦ subst Q (omega arith) q ]

-- ---- all

pub all_zero : (q : ℕ → Bool) → all 0 q ≡ true
unfolding all
all_zero q = refl

pub all_suc : (n : ℕ) (q : ℕ → Bool) → all (suc n) q ≡ (all n q && q n)
unfolding all
all_suc n q = refl

pub all_true : (n : ℕ) (q : ℕ → Bool) → all n q ≡ true → (i : ℕ) → i < n → q i ≡ true
unfolding all
all_true zero q e i h = absurd (omega arith)
all_true (suc n) q e i h =
    let (l, r) = both (all n q) (q n) e in
    below_suc n (λ k. q k ≡ true) r (all_true n q l) i h

pub all_make : (n : ℕ) (q : ℕ → Bool) → ((i : ℕ) → i < n → q i ≡ true) → all n q ≡ true
unfolding all
all_make zero q f = refl
all_make (suc n) q f = rw (all_make n q (λ i h. f i (omega arith)), f n (omega arith))

pub all_false : (n : ℕ) (q : ℕ → Bool) → all n q ≡ false → (i : ℕ) × (i < n) × (q i ≡ false)
unfolding all
all_false zero q e = clash refl e
all_false (suc n) q e = split (q n)
    (λ t. split (all n q)
    (λ u. clash (rw (t, u)) e)
    (λ u. let (i, h, f) = all_false n q u in (i, omega arith, f)))
    (λ t. (n, omega arith, t))

pub all_same : (n : ℕ) (q r : ℕ → Bool) → ((i : ℕ) → i < n → q i ≡ r i) → all n q ≡ all n r
unfolding all
all_same zero q r f = refl
all_same (suc n) q r f = rw (all_same n q r (λ i h. f i (omega arith)), f n (omega arith))

-- ---- any

pub any_zero : (q : ℕ → Bool) → any 0 q ≡ false
unfolding any
any_zero q = refl

pub any_suc : (n : ℕ) (q : ℕ → Bool) → any (suc n) q ≡ (any n q || q n)
unfolding any
any_suc n q = refl

pub any_true : (n : ℕ) (q : ℕ → Bool) → any n q ≡ true → (i : ℕ) × (i < n) × (q i ≡ true)
unfolding any
any_true zero q e = clash e refl
any_true (suc n) q e = go (either (any n q) (q n) e) (any_true n q)
  where
    go : (any n q ≡ true) ⊎ (q n ≡ true) → (any n q ≡ true → (i : ℕ) × (i < n) × (q i ≡ true)) → (i : ℕ) × (i < suc n) × (q i ≡ true)
    go (inl t) ih = let (i, h, f) = ih t in (i, omega arith, f)
    go (inr t) ih = (n, omega arith, t)

pub any_make : (n : ℕ) (q : ℕ → Bool) (i : ℕ) → i < n → q i ≡ true → any n q ≡ true
unfolding any
any_make zero q i h e = absurd (omega arith)
any_make (suc n) q i h e = split (any n q)
    (λ t. rw t)
    (λ t. rw t (below_suc n (λ k. q k ≡ true → q n ≡ true) (λ u. u) (λ k l u. clash (any_make n q k l u) t) i h e))

pub any_false : (n : ℕ) (q : ℕ → Bool) → any n q ≡ false → (i : ℕ) → i < n → q i ≡ false
any_false n q e i h = split (q i) (λ t. clash (any_make n q i h t) e) (λ t. t)

pub any_none : (n : ℕ) (q : ℕ → Bool) → ((i : ℕ) → i < n → q i ≡ false) → any n q ≡ false
unfolding any
any_none zero q f = refl
any_none (suc n) q f = rw (any_none n q (λ i h. f i (omega arith)), f n (omega arith))

pub any_same : (n : ℕ) (q r : ℕ → Bool) → ((i : ℕ) → i < n → q i ≡ r i) → any n q ≡ any n r
unfolding any
any_same zero q r f = refl
any_same (suc n) q r f = rw (any_same n q r (λ i h. f i (omega arith)), f n (omega arith))
