-- A frame's part of the output words: words put into the part are words put into the whole, and words past the whole stay.
use Prim.Native.Nat.{ℕ, suc, ◌+◌, ◌≤◌}
use mathlib.Core.Path.{◌≡◌, refl, sym, ap, ◌∙◌}
use mathlib.Core.List.{List, [], ◌∷◌, ◌++◌, append_assoc}
use native.Mathlib.Nat.{zero-add, suc-add, add-suc}
use native.Mathlib.Omega.{arith}
use lib.ListN.{length, set, take, drop, length-set, length-drop}
use lib.Seq.{sets, set-append_left, length-take-le, take-append-le, drop-append-le}
use borrow.Rule.Slice.PartMut.{put_mid}

set_after : (front rest : List ℕ) (i x : ℕ) → set (front ++ rest) (length front + i) x ≡ front ++ set rest i x
set_after [] rest i x = rw (zero-add i)
set_after (y ∷ front) rest i x = rw (suc-add (length front) i) (ap (λ (l : List ℕ). y ∷ l) (set_after front rest i x))

sets_between : (front part rest : List ℕ) (i : ℕ) (vs : List ℕ) → i + length vs ≤ length part
    → sets (front ++ (part ++ rest)) (length front + i) vs ≡ front ++ (sets part i vs ++ rest)
sets_between front part rest i [] h = refl
sets_between front part rest i (v ∷ vs) h =
    rw (set_after front (part ++ rest) i v, set-append_left part rest i v (omega arith), ← add-suc (length front) i)
    (sets_between front (set part i v) rest (suc i) vs (omega (arith, length-set part i v)))

-- words put into the part
pub put_sets : (a k : ℕ) (whole part : List ℕ) (i : ℕ) (vs : List ℕ) → a ≤ length whole → i + length vs ≤ length part
    → put_mid a k whole (sets part i vs) ≡ sets (put_mid a k whole part) (a + i) vs
put_sets a k whole part i vs h l =
    sym (ap (λ (n : ℕ). sets (put_mid a k whole part) (n + i) vs) (sym (length-take-le a whole h))
    ∙ sets_between (take a whole) part (drop k (drop a whole)) i vs l)

-- the part of a whole that has words past it
pub part_before : (a k : ℕ) (whole rest : List ℕ) → a + k ≤ length whole → take k (drop a (whole ++ rest)) ≡ take k (drop a whole)
part_before a k whole rest h =
    ap (take k) (drop-append-le a whole rest (omega arith)) ∙ take-append-le k (drop a whole) rest (omega (arith, length-drop a whole))

pub put_before : (a k : ℕ) (whole rest part : List ℕ) → a + k ≤ length whole → put_mid a k (whole ++ rest) part ≡ put_mid a k whole part ++ rest
put_before a k whole rest part h =
    rw (
      take-append-le a whole rest (omega arith),
      drop-append-le a whole rest (omega arith),
      drop-append-le k (drop a whole) rest (omega (arith, length-drop a whole)),
    )
    (sym (append_assoc (take a whole) (part ++ drop k (drop a whole)) rest ∙ ap (λ (l : List ℕ). take a whole ++ l) (append_assoc part (drop k (drop a whole)) rest)))
