-- Laws of filling a buffer from a position on.
use Rattle.std.specs.Prelude.{ℕ, suc, ◌+◌, ◌≤◌, ◌<◌, ◌≡◌, List, [], ◌∷◌, ◌++◌, set}
use Rattle.std.proofs.Common.{sym, ◌∙◌, add-zero, add-suc, suc-add, arith, length-append, le-leb}
use Rattle.std.proofs.Math.Decide.{dec_lt}
use Rattle.std.proofs.Math.ListN.{length}
use Rattle.std.proofs.lemmas.List.Edits.{sets}
use Rattle.std.proofs.Math.Seq.{length-sets}
use Rattle.std.proofs.lemmas.Bool.{lt-leb}
use Rattle.reply.specs.Result.{done, refused, and_then}
use Rattle.reply.specs.declared.Reply.TheVariants.{ShortBuffer}
use Rattle.number.specs.Put.{put_at, after}

pub sets_append : (buffer : List ℕ) (at : ℕ) (xs ys : List ℕ) → sets buffer at (xs ++ ys) ≡ sets (sets buffer at xs) (at + length xs) ys
sets_append buffer at [] ys = rw (add-zero at)
sets_append buffer at (x ∷ xs) ys = rw (add-suc at (length xs), ← suc-add at (length xs)) (sets_append (set buffer at x) (suc at) xs ys)

module _ (buffer : List ℕ) (at : ℕ) (bytes : List ℕ) where
  pub put_short : length buffer < at + length bytes → put_at buffer at bytes ≡ refused ShortBuffer 0
  unfolding put_at
  put_short h = rw (lt-leb _ _ h)

  pub after_short : length buffer < at + length bytes → after buffer at bytes ≡ buffer
  unfolding after
  after_short h = rw (lt-leb _ _ h)

  pub put_room : at + length bytes ≤ length buffer → put_at buffer at bytes ≡ done (at + length bytes)
  unfolding put_at
  put_room h = rw (le-leb _ _ h)

  pub after_room : at + length bytes ≤ length buffer → after buffer at bytes ≡ sets buffer at bytes
  unfolding after
  after_room h = rw (le-leb _ _ h)

  pub after_length : length (after buffer at bytes) ≡ length buffer
  after_length = elim (dec_lt (length buffer) (at + length bytes)) [
    | yes h ↦ rw (after_short h)
    | no h ↦ rw (after_room (omega arith)) (length-sets buffer at bytes)
  ]

-- writing xs and then ys is writing both
module _ (buffer : List ℕ) (at : ℕ) (xs ys : List ℕ) where
  size : length (xs ++ ys) ≡ length xs + length ys
  size = length-append xs ys

  pub put_both : (and_then (put_at buffer at xs) λ next. put_at (after buffer at xs) next ys) ≡ put_at buffer at (xs ++ ys)
  unfolding put_at
  put_both = elim (dec_lt (length buffer) (at + length xs)) [
    | yes h ↦ rw (put_short buffer at xs h) (sym (put_short buffer at (xs ++ ys) (omega (arith, size))))
    | no h ↦ rw (put_room buffer at xs (omega arith)) second
  ]
    where
      sum : at + length xs + length ys ≡ at + length (xs ++ ys)
      sum = omega (arith, size)

      second : put_at (after buffer at xs) (at + length xs) ys ≡ put_at buffer at (xs ++ ys)
      second = rw (after_length buffer at xs, sum)

  pub after_both : at + length (xs ++ ys) ≤ length buffer → after (after buffer at xs) (at + length xs) ys ≡ after buffer at (xs ++ ys)
  after_both room =
      let first : at + length xs ≤ length buffer = omega (arith, size) in
      let second : at + length xs + length ys ≤ length (after buffer at xs) = rw (after_length buffer at xs) (omega (arith, size)) in
      after_room (after buffer at xs) (at + length xs) ys second
      ∙ rw (after_room buffer at xs first, after_room buffer at (xs ++ ys) room) (sym (sets_append buffer at xs ys))
