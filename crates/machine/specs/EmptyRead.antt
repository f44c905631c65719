-- "a read with nothing there gives value 0 and flag 0": what the variables are after a read of a channel that holds nothing.
use Rattle.std.specs.Prelude.{◌≡◌, ℕ, zero, suc, List, [], ◌∷◌, slice_index, slice_set, refl}
use Rattle.network.specs.Net.{Net}
use Rattle.machine.specs.State.{State, var, contents_of}
use Rattle.machine.specs.Actions.{effect}
use Rattle.machine.specs.declared.Sample.{Sample}
use Rattle.machine.specs.declared.Action.TheVariants.{Read}

-- where 0 was put stands 0
zero_there : (l : List ℕ) (i : ℕ) → slice_index (slice_set l i 0) i ≡ 0
zero_there [] i = refl
zero_there (x ∷ l) zero = refl
zero_there (x ∷ l) (suc i) = zero_there l i

-- and it stays wherever 0 is put next
zero_kept : (l : List ℕ) (i j : ℕ) → slice_index l j ≡ 0 → slice_index (slice_set l i 0) j ≡ 0
zero_kept [] i j e = refl
zero_kept (x ∷ l) zero zero e = refl
zero_kept (x ∷ l) zero (suc j) e = e
zero_kept (x ∷ l) (suc i) zero e = e
zero_kept (x ∷ l) (suc i) (suc j) e = zero_kept l i j e

-- value and flag are 0 whatever the variables were before, also where one variable takes both
pub empty_read : (net : Net) (p : ℕ) (x : Sample) (ch b c : ℕ) (s : State) → (contents_of ch s).held ≡ []
    → (var p b (effect net p x (Read ch b c) s) ≡ 0) × (var p c (effect net p x (Read ch b c) s) ≡ 0)
unfolding effect
empty_read net p x ch b c s none = rw none (zero_kept (slice_set s.variables _ 0) _ _ (zero_there s.variables _), zero_there (slice_set s.variables _ 0) _)
