-- The groups of a number: one to five of them.
use Rattle.std.specs.Prelude.{◌≡◌, refl, [], ◌∷◌, ℕ, zero, suc, ◌+◌, ◌/◌, ◌%◌, ◌≤◌, ◌<◌, length}
use Rattle.std.proofs.Math.Path.{sym}
use Rattle.std.proofs.Common.{arith, lt-ltb, le-ltb}
use Rattle.std.proofs.Math.Decide.{dec_lt}
use Rattle.number.specs.Encode.{groups, encode}

pub groups_last : (more n : ℕ) → n < 128 → groups more n ≡ n ∷ []
unfolding groups
groups_last zero n h = refl
groups_last (suc more) n h = rw (lt-ltb n 128 h)

pub groups_more : (more n : ℕ) → 128 ≤ n → groups (suc more) n ≡ (128 + n % 128) ∷ groups more (n / 128)
unfolding groups
groups_more more n h = rw (le-ltb n 128 h)

pub groups_fifth : (n : ℕ) → groups 0 n ≡ n ∷ []
unfolding groups
groups_fifth n = refl

pub groups_size : (more n : ℕ) → (0 < length (groups more n)) × (length (groups more n) ≤ suc more)
groups_size zero n = rw (groups_fifth n) (omega arith)
groups_size (suc more) n = elim (dec_lt n 128) [
  | yes h ↦ rw (groups_last (suc more) n h) (omega arith)
  | no h ↦ rw (groups_more more n (omega arith)) (omega (arith, groups_size more (n / 128)))
]

pub encode_some : (n : ℕ) → 0 < length (encode n)
unfolding encode
encode_some n = (groups_size 4 n).0

pub encode_most : (n : ℕ) → length (encode n) ≤ 5
unfolding encode
encode_most n = (groups_size 4 n).1

-- the sizes, by the number
module _ (n : ℕ) where
  small : (more m : ℕ) → m < 128 → length (groups more m) ≡ 1
  small more m h = rw (groups_last more m h)

  further : (more m k : ℕ) → 128 ≤ m → length (groups more (m / 128)) ≡ k → length (groups (suc more) m) ≡ suc k
  further more m k h e = rw (groups_more more m h, e)

  pub size_one : n < 0x80 → 1 ≡ length (encode n)
  unfolding encode
  size_one h = sym (small 4 n h)

  pub size_two : 0x80 ≤ n → n < 0x4000 → 2 ≡ length (encode n)
  unfolding encode
  size_two l h = sym (further 3 n 1 l (small 3 (n / 128) (omega arith)))

  pub size_three : 0x4000 ≤ n → n < 0x20_0000 → 3 ≡ length (encode n)
  unfolding encode
  size_three l h = sym (further 3 n 2 (omega arith) (further 2 (n / 128) 1 (omega arith) (small 2 (n / 128 / 128) (omega arith))))

  pub size_four : 0x20_0000 ≤ n → n < 0x1000_0000 → 4 ≡ length (encode n)
  unfolding encode
  size_four l h = sym (further 3 n 3 (omega arith) (further 2 (n / 128) 2 (omega arith) (further 1 (n / 128 / 128) 1 (omega arith) (small 1 (n / 128 / 128 / 128) (omega arith)))))

  pub size_five : 0x1000_0000 ≤ n → 5 ≡ length (encode n)
  unfolding encode
  size_five l = sym (further 3 n 4 (omega arith) (further 2 (n / 128) 3 (omega arith) (further 1 (n / 128 / 128) 2 (omega arith) (further 0 (n / 128 / 128 / 128) 1 (omega arith) (rw (groups_fifth (n / 128 / 128 / 128 / 128)))))))
