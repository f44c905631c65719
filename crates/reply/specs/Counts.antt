-- Laws of `count` and `sum`.
use Rattle.std.specs.Prelude.{ℕ, zero, suc, ◌+◌, ◌≤◌, ◌<◌, ◌≡◌, refl, ◌≢◌, Bool, true, false, cond}
use Rattle.std.proofs.Common.{sym, subst, zero-add, suc-add, arith}
use Rattle.std.proofs.Math.Decide.{dec_lt, ℕ_discrete}
use Rattle.reply.specs.Tools.{count, sum}
use Rattle.reply.specs.Tests.{split}
use Rattle.reply.specs.AllAny.{below_suc}

-- ---- count

pub count_zero : (q : ℕ → Bool) → count 0 q ≡ 0
unfolding count
count_zero q = refl

pub count_suc : (n : ℕ) (q : ℕ → Bool) → count (suc n) q ≡ count n q + cond (q n) 1 0
unfolding count
count_suc n q = refl

pub count_most : (n : ℕ) (q : ℕ → Bool) → count n q ≤ n
unfolding count
count_most zero q = omega arith
count_most (suc n) q = split (q n) (λ t. rw t (omega (arith, count_most n q))) (λ t. rw t (omega (arith, count_most n q)))

pub count_same : (n : ℕ) (q r : ℕ → Bool) → ((i : ℕ) → i < n → q i ≡ r i) → count n q ≡ count n r
unfolding count
count_same zero q r f = refl
count_same (suc n) q r f = rw (f n (omega arith), count_same n q r (λ i h. f i (omega arith)))

pub count_all : (n : ℕ) (q : ℕ → Bool) → ((i : ℕ) → i < n → q i ≡ true) → count n q ≡ n
unfolding count
count_all zero q f = refl
count_all (suc n) q f = rw (f n (omega arith)) (omega (arith, count_all n q (λ i h. f i (omega arith))))

pub count_none : (n : ℕ) (q : ℕ → Bool) → ((i : ℕ) → i < n → q i ≡ false) → count n q ≡ 0
unfolding count
count_none zero q f = refl
count_none (suc n) q f = rw (f n (omega arith)) (omega (arith, count_none n q (λ i h. f i (omega arith))))

pub count_full : (n : ℕ) (q : ℕ → Bool) → count n q ≡ n → (i : ℕ) → i < n → q i ≡ true
unfolding count
count_full zero q e i h = absurd (omega arith)
count_full (suc n) q e i h = split (q n)
    (λ t. below_suc n (λ k. q k ≡ true) t (count_full n q (omega (arith, rw t at e))) i h)
    (λ t. absurd (omega (arith, count_most n q, rw t at e)))

-- r passes where q does, and at j besides
pub count_one_more : (n : ℕ) (q r : ℕ → Bool) (j : ℕ) → j < n → q j ≡ false → r j ≡ true → ((i : ℕ) → i ≢ j → r i ≡ q i) → count n r ≡ count n q + 1
unfolding count
count_one_more zero q r j h a b f = absurd (omega arith)
count_one_more (suc n) q r j h a b f = elim (ℕ_discrete j n) [
  | yes e ↦
      let a' : q n ≡ false = subst (λ k. q k ≡ false) e a in
      let b' : r n ≡ true = subst (λ k. r k ≡ true) e b in
      rw (a', b') (omega (arith, count_same n r q (λ i l. f i (λ z. omega arith))))
  | no e ↦ rw (f n (λ z. e (sym z))) (omega (arith, count_one_more n q r j (omega arith) a b f))
]

-- the first m, and the n after them
pub count_add : (m n : ℕ) (q : ℕ → Bool) → count (n + m) q ≡ count m q + count n (λ i. q (i + m))
unfolding count
count_add m zero q = rw zero-add (omega arith)
count_add m (suc n) q = rw (suc-add n m, count_add m n q) (omega arith)

-- ---- sum

pub sum_zero : (f : ℕ → ℕ) → sum 0 f ≡ 0
unfolding sum
sum_zero f = refl

pub sum_suc : (n : ℕ) (f : ℕ → ℕ) → sum (suc n) f ≡ sum n f + f n
unfolding sum
sum_suc n f = refl

pub sum_same : (n : ℕ) (f g : ℕ → ℕ) → ((i : ℕ) → i < n → f i ≡ g i) → sum n f ≡ sum n g
unfolding sum
sum_same zero f g e = refl
sum_same (suc n) f g e = rw (e n (omega arith), sum_same n f g (λ i h. e i (omega arith)))

pub sum_each : (n : ℕ) (f : ℕ → ℕ) (i : ℕ) → i < n → f i ≤ sum n f
unfolding sum
sum_each zero f i h = absurd (omega arith)
sum_each (suc n) f i h = below_suc n (λ k. f k ≤ sum (suc n) f) (omega arith) (λ k l. omega (arith, sum_each n f k l)) i h

pub sum_add : (n : ℕ) (f g : ℕ → ℕ) → sum n (λ i. f i + g i) ≡ sum n f + sum n g
unfolding sum
sum_add zero f g = refl
sum_add (suc n) f g = omega (arith, sum_add n f g)

pub sum_none : (n : ℕ) (f : ℕ → ℕ) → ((i : ℕ) → i < n → f i ≡ 0) → sum n f ≡ 0
unfolding sum
sum_none zero f e = refl
sum_none (suc n) f e = omega (arith, sum_none n f (λ i h. e i (omega arith)), e n (omega arith))

pub sum_some : (n : ℕ) (f : ℕ → ℕ) → 0 < sum n f → (i : ℕ) × (i < n) × (0 < f i)
unfolding sum
sum_some zero f h = absurd (omega arith)
sum_some (suc n) f h = elim (dec_lt 0 (f n)) [
  | yes l ↦ (n, omega arith, l)
  | no l ↦ let (i, a, b) = sum_some n f (omega arith) in (i, omega arith, b)
]

-- g is f, but one less at j
pub sum_one_less : (n : ℕ) (f g : ℕ → ℕ) (j : ℕ) → j < n → f j ≡ g j + 1 → ((i : ℕ) → i ≢ j → g i ≡ f i) → sum n f ≡ sum n g + 1
unfolding sum
sum_one_less zero f g j h a e = absurd (omega arith)
sum_one_less (suc n) f g j h a e = elim (ℕ_discrete j n) [
  | yes z ↦
      let a' : f n ≡ g n + 1 = subst (λ k. f k ≡ g k + 1) z a in
      omega (arith, sum_same n f g (λ i l. sym (e i (λ y. omega arith))))
  | no d ↦ omega (arith, sum_one_less n f g j (omega arith) a e, e n (λ y. d (sym y)))
]
