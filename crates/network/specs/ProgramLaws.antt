-- Laws of how programs stand in memory: a run of stores after what a list holds, rooms of 24 actions, and their zeros.
use Rattle.std.specs.Prelude.{ℕ, suc, ◌+◌, ◌-◌, ◌*◌, ◌≤◌, ◌≡◌, refl}
use Rattle.std.proofs.Common.{sym, ap, subst, ◌∙◌}
use mathlib.Core.List.{List, [], ◌∷◌, ◌++◌, map-append, append_assoc, append-nil}
use native.Mathlib.Omega.{arith}
use Rattle.std.proofs.Math.ListN.{length, replicate, length-append, length-replicate, replicate-append-replicate}
use Rattle.std.proofs.lemmas.List.{length-map}
use Rattle.std.proofs.lemmas.List.Edits.{sets}
use Rattle.network.specs.Lists.{each_of, fill_to}
use Rattle.network.specs.ListLaws.{each_more, length_fill, fill_store}
use Rattle.network.specs.Net.{four_fields, program_room, lengths}
use Rattle.network.specs.declared.Four.{Four}

module _ {A : Type 0} where
  -- a run of stores just after what the list holds
  pub fill_stores : (n : ℕ) (d : A) (l xs : List A) → length l + length xs ≤ n → sets (fill_to n d l) (length l) xs ≡ fill_to n d (l ++ xs)
  fill_stores n d l [] h = ap (fill_to n d) (sym (append-nil l))
  fill_stores n d l (x ∷ xs) h =
      let y : length (l ++ (x ∷ [])) ≡ suc (length l) = length-append l (x ∷ []) ∙ omega arith in
      ap (λ (m : List A). sets m (suc (length l)) xs) (fill_store n d l x (omega arith))
      ∙ subst (λ k. sets (fill_to n d (l ++ (x ∷ []))) k xs ≡ fill_to n d ((l ++ (x ∷ [])) ++ xs)) y (fill_stores n d (l ++ (x ∷ [])) xs (omega arith))
      ∙ ap (fill_to n d) (append_assoc l (x ∷ []) xs)

  -- a last part that was filled up already
  pub fill_filled : (n m : ℕ) (d : A) (xs ys : List A) → length ys ≤ m → length xs + m ≤ n → fill_to n d (xs ++ fill_to m d ys) ≡ fill_to n d (xs ++ ys)
  unfolding fill_to
  fill_filled n m d xs ys h k =
      let zs : List A = replicate (m - length ys) d in
      let e : length (xs ++ (ys ++ zs)) ≡ length xs + m = length-append xs (ys ++ zs) ∙ omega (arith, length-append ys zs, length-replicate (m - length ys) d) in
      let f : length (xs ++ ys) ≡ length xs + length ys = length-append xs ys in
      let g : (m - length ys) + (n - (length xs + m)) ≡ n - (length xs + length ys) = omega arith in
      rw (e, f, append_assoc, append_assoc, append_assoc, replicate-append-replicate, g)

-- ---- actions and programs

pub length_actions : (program : List Four) → length (each_of four_fields program) ≡ 4 * length program
unfolding each_of
length_actions [] = refl
length_actions (f ∷ program) = length-append (four_fields f) (each_of four_fields program) ∙ omega (arith, length_actions program)

pub length_room : (program : List Four) → length program ≤ 24 → length (program_room program) ≡ 96
length_room program h = length_fill 96 0 (each_of four_fields program) (omega (arith, length_actions program))

pub lengths_more : (programs : List (List Four)) (program : List Four) → lengths (programs ++ (program ∷ [])) ≡ lengths programs ++ (length program ∷ [])
lengths_more programs program = map-append (λ (p : List Four). length p) programs (program ∷ [])

pub length_lengths : (programs : List (List Four)) → length (lengths programs) ≡ length programs
length_lengths programs = length-map programs (λ (p : List Four). length p)

-- one more program after those that fill their rooms
module _ (n : ℕ) (programs : List (List Four)) (program : List Four) (small : length program ≤ 24) (room : length (each_of program_room programs) + 96 ≤ n) where
  pub rooms_more : sets (fill_to n 0 (each_of program_room programs)) (length (each_of program_room programs)) (each_of four_fields program)
      ≡ fill_to n 0 (each_of program_room (programs ++ (program ∷ [])))
  rooms_more =
      let s : length (each_of four_fields program) ≤ 96 = omega (arith, length_actions program) in
      fill_stores n 0 (each_of program_room programs) (each_of four_fields program) (omega arith)
      ∙ sym (fill_filled n 96 0 (each_of program_room programs) (each_of four_fields program) s room)
      ∙ ap (fill_to n 0) (sym (each_more program_room programs program))

pub length_rooms_more : (programs : List (List Four)) (program : List Four) → length program ≤ 24
    → length (each_of program_room (programs ++ (program ∷ []))) ≡ length (each_of program_room programs) + 96
length_rooms_more programs program h =
    ap length (each_more program_room programs program) ∙ length-append (each_of program_room programs) (program_room program) ∙ omega (arith, length_room program h)
