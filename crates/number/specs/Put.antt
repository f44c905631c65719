-- Writing bytes into a lent buffer from a position on: what is answered, and what the buffer holds after. Bytes that do not fit are not written at all.
use Rattle.std.specs.Prelude.{ℕ, ◌+◌, Bool, cond, List, length, leb}
use Rattle.std.proofs.lemmas.List.Edits.{sets}
use Rattle.reply.specs.Result.{Result, done, and_then, require}
use Rattle.reply.specs.declared.Reply.TheVariants.{ShortBuffer}

abbrev pub fits : List ℕ → ℕ → List ℕ → Bool
fits buffer at bytes = leb (at + length bytes) (length buffer)

-- the position after the bytes
unfoldable pub put_at : List ℕ → ℕ → List ℕ → Result ℕ
put_at buffer at bytes =
    and_then (require (fits buffer at bytes) ShortBuffer 0) λ ok.
    done (at + length bytes)

unfoldable pub after : List ℕ → ℕ → List ℕ → List ℕ
after buffer at bytes = cond (fits buffer at bytes) (sets buffer at bytes) buffer
