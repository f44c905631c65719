-- Whether a test passes at any number below n, as a chain over the range tells it.
use Rattle.std.specs.Prelude.{ℕ, zero, suc, ◌+◌, ◌≡◌, refl, Bool, ◌||◌}
use Rattle.std.proofs.Common.{ap, ◌∙◌, arith, add-zero}
use Rattle.std.specs.List.{list_any, range_with_len}
use Rattle.reply.specs.Tests.{split}
use Rattle.reply.specs.Tools.{any}

module _ (q : ℕ → Bool) where
  more : (a n : ℕ) → list_any q (range_with_len a (suc n)) ≡ (list_any q (range_with_len a n) || q (a + n))
  more a zero = split (q a) (λ t. rw (add-zero, t)) (λ t. rw (add-zero, t))
  more a (suc n) =
      let z : a + 1 + n ≡ a + suc n = omega arith in
      split (q a) (λ t. rw t) (λ t. rw t (more (a + 1) n ∙ ap (λ k. list_any q (range_with_len (a + 1) n) || q k) z))

  pub any_range : (n : ℕ) → list_any q (range_with_len 0 n) ≡ any n q
  unfolding any
  any_range zero = refl
  any_range (suc n) =
      let z : 0 + n ≡ n = omega arith in
      more 0 n ∙ rw (any_range n, z)
