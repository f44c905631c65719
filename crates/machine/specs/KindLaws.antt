-- Kind and capacity of each channel stand where the table of kinds has them.
use Rattle.std.specs.Prelude.{◌≡◌, ℕ, zero, suc, ◌+◌, ◌*◌, ◌/◌, ◌%◌, ◌<◌, List, [], ◌∷◌, length, slice_index, slice_index_or, refl}
use Rattle.std.proofs.Common.{arith, sym, subst, ◌∙◌, ext_get_or}
use Rattle.std.proofs.Math.Decide.{ℕ_discrete}
use Rattle.network.specs.Net.{no_channel}
use Rattle.network.specs.declared.Channel.{Channel}
use Rattle.machine.specs.Acting.{kinds_in, KindsTold}

pub kind_at : (l : List Channel) (c : ℕ) → slice_index (kinds_in l) (2 * c) ≡ (slice_index_or l c no_channel).kind
unfolding kinds_in
kind_at [] c = refl
kind_at (x ∷ l) zero = refl
kind_at (x ∷ l) (suc c) = let next : 2 * suc c ≡ suc (suc (2 * c)) = omega arith in rw next (kind_at l c)

pub capacity_at : (l : List Channel) (c : ℕ) → slice_index (kinds_in l) (2 * c + 1) ≡ (slice_index_or l c no_channel).capacity
unfolding kinds_in
capacity_at [] c = refl
capacity_at (x ∷ l) zero = refl
capacity_at (x ∷ l) (suc c) = let next : 2 * suc c + 1 ≡ suc (suc (2 * c + 1)) = omega arith in rw next (capacity_at l c)

length_kinds : (l : List Channel) → length (kinds_in l) ≡ 2 * length l
unfolding kinds_in
length_kinds [] = refl
length_kinds (x ∷ l) = omega (arith, length_kinds l)

pub kinds_told : (l : List Channel) → length l ≡ 16 → KindsTold l (kinds_in l)
kinds_told l e = record { size = omega (arith, length_kinds l); kind = λ c h. kind_at l c; capacity = λ c h. capacity_at l c }

-- and no other table is told
pub kinds_only : (l : List Channel) → length l ≡ 16 → (kinds : List ℕ) → KindsTold l kinds → kinds ≡ kinds_in l
kinds_only l e kinds told = ext_get_or 0 kinds (kinds_in l) (omega (arith, told.size, length_kinds l)) (λ i h. each i (omega (arith, told.size)))
  where
    each : (i : ℕ) → i < 32 → slice_index kinds i ≡ slice_index (kinds_in l) i
    each i h = elim (ℕ_discrete (i % 2) 0) [
      | yes even ↦
          let is : 2 * (i / 2) ≡ i = omega arith in
          subst (λ (x : ℕ). slice_index kinds x ≡ slice_index (kinds_in l) x) is (told.kind (i / 2) (omega arith) ∙ sym (kind_at l (i / 2)))
      | no odd ↦
          let is : 2 * (i / 2) + 1 ≡ i = omega arith in
          subst (λ (x : ℕ). slice_index kinds x ≡ slice_index (kinds_in l) x) is (told.capacity (i / 2) (omega arith) ∙ sym (capacity_at l (i / 2)))
    ]
