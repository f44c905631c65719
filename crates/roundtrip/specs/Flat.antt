-- Programs in their flat array: where each action stands, and that there is zero past it.
use Rattle.std.specs.Prelude.{ℕ, zero, suc, ◌+◌, ◌*◌, ◌≤◌, ◌<◌, ◌≡◌, refl, length, drop}
use Rattle.std.proofs.Math.Path.{sym, ap}
use Rattle.std.proofs.Common.{◌∙◌, arith, length-append, get_or-drop, drop-cons}
use mathlib.Core.List.{List, [], ◌∷◌}
use Rattle.std.proofs.Math.ListN.{get_or, get_or-append}
use Rattle.std.proofs.Math.Seq.{drop-append-add, drop-nil}
use Rattle.network.specs.Lists.{each_of, fill_to}
use Rattle.network.specs.ListLaws.{length_fill, fill_kept, fill_past, fill_at}
use Rattle.network.specs.Net.{no_four, four_fields, program_room, four_at}
use Rattle.network.specs.declared.Four.{Four}

pub length_numbers : (q : List Four) → length (each_of four_fields q) ≡ 4 * length q
unfolding each_of
length_numbers [] = refl
length_numbers (f ∷ q) = omega (arith, length_numbers q)

drop_numbers : (k : ℕ) (q : List Four) → drop (4 * k) (each_of four_fields q) ≡ each_of four_fields (drop k q)
unfolding each_of
drop_numbers zero q = refl
drop_numbers (suc k) [] = drop-nil (4 * suc k)
drop_numbers (suc k) (f ∷ q) = let z : 4 * suc k ≡ suc (suc (suc (suc (4 * k)))) = omega arith in rw z (drop_numbers k q)

-- number j of action k of a program
number_at : (q : List Four) (k j : ℕ) → k < length q → j < 4 → get_or (each_of four_fields q) (4 * k + j) 0 ≡ get_or (four_fields (get_or q k no_four)) j 0
unfolding each_of
number_at q k j h l =
    sym (get_or-drop (4 * k) (each_of four_fields q) j 0)
    ∙ ap (λ (l : List ℕ). get_or l j 0) (drop_numbers k q ∙ ap (each_of four_fields) (drop-cons q k no_four h))
    ∙ get_or-append (four_fields (get_or q k no_four)) (each_of four_fields (drop (suc k) q)) 0 j l

-- no program is longer than 24 actions
abbrev pub FewActions : List (List Four) → Type 0
FewActions ps = (p : ℕ) → p < length ps → length (get_or ps p []) ≤ 24

length_room : (q : List Four) → length q ≤ 24 → length (program_room q) ≡ 96
length_room q h = length_fill 96 0 (each_of four_fields q) (omega (arith, length_numbers q))

pub length_flat : (ps : List (List Four)) → FewActions ps → length (each_of program_room ps) ≡ 96 * length ps
unfolding each_of
length_flat [] fit = refl
length_flat (q ∷ ps) fit =
    length-append (program_room q) (each_of program_room ps)
    ∙ omega (arith, length_room q (fit 0 (omega arith)), length_flat ps (λ i l. fit (suc i) (omega arith)))

drop_flat : (p : ℕ) (ps : List (List Four)) → FewActions ps → drop (96 * p) (each_of program_room ps) ≡ each_of program_room (drop p ps)
unfolding each_of
drop_flat zero ps fit = refl
drop_flat (suc p) [] fit = drop-nil (96 * suc p)
drop_flat (suc p) (q ∷ ps) fit =
    let z : 96 * suc p ≡ length (program_room q) + 96 * p = omega (arith, length_room q (fit 0 (omega arith))) in
    rw z (drop-append-add (program_room q) (each_of program_room ps) (96 * p) ∙ drop_flat p ps (λ i l. fit (suc i) (omega arith)))

module _ (ps : List (List Four)) (fit : FewActions ps) (p : ℕ) (hp : p < length ps) where
  abbrev q : List Four
  q = get_or ps p []

  abbrev actions : List ℕ
  actions = fill_to 1152 0 (each_of program_room ps)

  -- number r of a program's room
  room_at : (r : ℕ) → r < 96 → get_or actions (96 * p + r) 0 ≡ get_or (program_room q) r 0
  unfolding each_of
  room_at r small =
      fill_at 1152 0 (each_of program_room ps) (96 * p + r)
      ∙ sym (get_or-drop (96 * p) (each_of program_room ps) r 0)
      ∙ ap (λ (l : List ℕ). get_or l r 0) (drop_flat p ps fit ∙ ap (each_of program_room) (drop-cons ps p [] hp))
      ∙ get_or-append (program_room q) (each_of program_room (drop (suc p) ps)) 0 r (omega (arith, length_room q (fit p hp)))

  pub flat_past : (r : ℕ) → 4 * length q ≤ r → r < 96 → get_or actions (96 * p + r) 0 ≡ 0
  flat_past r h small = room_at r small ∙ fill_past 96 0 (each_of four_fields q) r (omega (arith, length_numbers q))

  module _ (k : ℕ) (hk : k < length q) where
    flat_number : (j : ℕ) → j < 4 → get_or actions (96 * p + (4 * k + j)) 0 ≡ get_or (four_fields (get_or q k no_four)) j 0
    flat_number j hj =
        room_at (4 * k + j) (omega (arith, fit p hp))
        ∙ fill_kept 96 0 (each_of four_fields q) (4 * k + j) (omega (arith, length_numbers q))
        ∙ number_at q k j hk hj

    pub flat_four : four_at actions p k ≡ get_or q k no_four
    flat_four =
        let z₀ : 96 * p + 4 * k ≡ 96 * p + (4 * k + 0) = omega arith in
        let z₁ : 96 * p + 4 * k + 1 ≡ 96 * p + (4 * k + 1) = omega arith in
        let z₂ : 96 * p + 4 * k + 2 ≡ 96 * p + (4 * k + 2) = omega arith in
        let z₃ : 96 * p + 4 * k + 3 ≡ 96 * p + (4 * k + 3) = omega arith in
        rw (z₁, z₂, z₃, z₀, flat_number 0 (omega arith), flat_number 1 (omega arith), flat_number 2 (omega arith), flat_number 3 (omega arith))
