-- How the code says what was read, or written: a number and the position after it, or the position alone; or the refusal.
use Rattle.std.specs.Prelude.{ℕ, ◌+◌, ◌≡◌, Ok, Err, cond, List, length, get_or, ltb, eqb}
use Rattle.std.proofs.Common.{ap}
use Rattle.std.specs.declared.result.Result as Std
use Rattle.reply.specs.Result.{Result, done, refused}
use Rattle.reply.specs.Told.{told}
use Rattle.reply.specs.declared.Reply.TheVariants.{FileEnds, MalformedNumber}
use Rattle.reply.specs.declared.Refusal.{Refusal}
use Rattle.number.specs.Parts.{Part, part}

abbrev pub part_told : {A : Type 0} → Result (Part A) → Std.Result (A × ℕ) Refusal
part_told = told (λ p. (p.it, p.next))

abbrev pub next_told : Result ℕ → Std.Result ℕ Refusal
next_told = told (λ next. next)

-- the group at a position after the first, of a number that begins at `start`: there is one, and it is not zero
abbrev pub further_at : List ℕ → ℕ → ℕ → Result (Part ℕ)
further_at file start at =
    cond (ltb at (length file))
    (cond (eqb (get_or file at 0) 0) (refused MalformedNumber start) (part (get_or file at 0) (at + 1)))
    (refused FileEnds start)

-- what a caller learns from each case
pub ok_same : {A E : Type 0} {x y : A} → ◌≡◌ {A = Std.Result A E} (Ok x) (Ok y) → x ≡ y
ok_same e = cc

pub pair_same : {A B E : Type 0} {x y : A} {m n : B} → ◌≡◌ {A = Std.Result (A × B) E} (Ok (x, m)) (Ok (y, n)) → (x ≡ y) × (m ≡ n)
pair_same {A} {B} e = (ap (λ (q : A × B). q.0) (ok_same e), ap (λ (q : A × B). q.1) (ok_same e))

pub part_ok : {A : Type 0} {it : A} {next : ℕ} (r : Result (Part A)) → Ok (it, next) ≡ part_told r → r ≡ part it next
part_ok (done p) e = let (i, n) = pair_same e in rw (i, n)
part_ok (refused reply place) e = cc

pub part_err : {A : Type 0} {e : Refusal} (r : Result (Part A)) → Err e ≡ part_told r → r ≡ refused e.reply e.place
part_err (done p) is = cc
part_err (refused reply place) is = cc

-- of a write: the position after it
pub next_is : {next : ℕ} (r : Result ℕ) → Ok next ≡ next_told r → r ≡ done next
next_is (done m) e = let n = ok_same e in rw n
next_is (refused reply place) e = cc
