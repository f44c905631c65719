-- Good things judged one after another: none, one more; and what it says that all pass a test.
use Prim.Native.Nat.{ℕ, zero, suc, ◌+◌, ◌<◌}
use mathlib.Core.Path.{◌≡◌, refl, subst}
use mathlib.Core.Bool.{Bool, true}
use mathlib.Core.List.{List, [], ◌∷◌, ◌++◌}
use native.Mathlib.Nat.{add-zero}
use native.Mathlib.Omega.{arith}
use lib.ListN.{length, get_or, take}
use Rattle.std.specs.List.{list_all, range_with_len}
use Rattle.std.proofs.Common.{length-append}
use Rattle.reply.specs.Tests.{both}
use Rattle.network.specs.Lists.{table}
use Rattle.network.specs.ListLaws.{length_table, get_or_table}
use Rattle.roundtrip.specs.Exactly.{Goods, goods_more}

module _ {A : Type 0} where
  -- ---- good things

  module _ (d : A) (Good : List A → A → Type 0) where
    pub goods_none : Goods d Good 0 []
    goods_none = record { size = refl; good = λ k l. absurd (omega arith) }

    pub goods_next : {xs ys : List A} (x : A) → ys ≡ xs ++ (x ∷ []) → Goods d Good (length xs) xs → Good xs x → Goods d Good (length ys) ys
    goods_next {xs} x e g h =
        let z : suc (length xs) ≡ length (xs ++ (x ∷ [])) = omega (arith, length-append xs (x ∷ [])) in
        rw e (subst (λ n. Goods d Good n (xs ++ (x ∷ []))) z (goods_more d Good (length xs) xs x g h))

    pub goods_table : (n : ℕ) (f : ℕ → A) → ((k : ℕ) → k < n → Good (take k (table n f)) (f k)) → Goods d Good n (table n f)
    goods_table n f g = record { size = length_table n f; good = λ k h. rw (get_or_table n f k d h) (g k h) }

  -- ---- tests that all pass

  pub all_true : (q : A → Bool) (xs : List A) (d : A) → list_all q xs ≡ true → (i : ℕ) → i < length xs → q (get_or xs i d) ≡ true
  all_true q [] d e i h = absurd (omega arith)
  all_true q (x ∷ xs) d e zero h = (both (q x) (list_all q xs) e).0
  all_true q (x ∷ xs) d e (suc i) h = all_true q xs d (both (q x) (list_all q xs) e).1 i (omega arith)

from_on : (q : ℕ → Bool) (a n : ℕ) → list_all q (range_with_len a n) ≡ true → (k : ℕ) → k < n → q (a + k) ≡ true
from_on q a zero e k h = absurd (omega arith)
from_on q a (suc n) e zero h = rw add-zero (both (q a) (list_all q (range_with_len (a + 1) n)) e).0
from_on q a (suc n) e (suc k) h =
    let z : a + 1 + k ≡ a + suc k = omega arith in
    subst (λ x. q x ≡ true) z (from_on q (a + 1) n (both (q a) (list_all q (range_with_len (a + 1) n)) e).1 k (omega arith))

pub all_below : (q : ℕ → Bool) (n : ℕ) → list_all q (range_with_len 0 n) ≡ true → (k : ℕ) → k < n → q k ≡ true
all_below q n e k h = let z : 0 + k ≡ k = omega arith in subst (λ x. q x ≡ true) z (from_on q 0 n e k h)
