-- The loop that reads records of any kind into an array: what is read so far, one more, a refusal, the end.
use Prim.Native.Nat.{ℕ, ◌+◌, ◌≤◌, ◌<◌}
use mathlib.Core.Path.{◌≡◌, refl, sym, ap, subst, ◌∙◌}
use mathlib.Core.List.{List, [], ◌∷◌, ◌++◌}
use native.Mathlib.Omega.{arith}
use native.Mathlib.Numerals.{add-one}
use lib.ListN.{length, set, replicate, length-append}
use Rattle.reply.specs.Result.{Result, refused}
use Rattle.reply.specs.declared.Reply.{Reply}
use Rattle.number.specs.Parts.{Part, part, many}
use Rattle.number.specs.PartLaws.{many_zero, many_more, many_refused}
use Rattle.network.specs.Lists.{fill_to}
use Rattle.network.specs.ListLaws.{fill_none, fill_store}

-- i records are read, up to `at`, and stand at the front of an array of room for `room`
pub record SoFar {A : Type 0} (one : List A → ℕ → Result (Part A)) (none : A) (room from i at : ℕ) (stored : List A) : Type 0 where
  pub read : List A
  pub size : length read ≡ i
  pub gives : many i one from ≡ part read at
  pub stands : stored ≡ fill_to room none read

module _ {A : Type 0} (one : List A → ℕ → Result (Part A)) (none : A) (room from : ℕ) where
  abbrev pub start : (stored : List A) → stored ≡ replicate room none → SoFar one none room from 0 from stored
  start stored e = record { read = []; size = refl; gives = many_zero one from; stands = e ∙ sym (fill_none room none) }

  module _ {i at : ℕ} {stored : List A} (s : SoFar one none room from i at stored) where
    abbrev pub step : (x : A) (next : ℕ) → i < room → one s.read at ≡ part x next → SoFar one none room from (i + 1) next (set stored i x)
    step x next h e = record {
      read = s.read ++ (x ∷ []);
      size = length-append s.read (x ∷ []) ∙ omega (arith, s.size);
      gives = rw (add-one i) (many_more one from i s.read at x next s.gives e);
      stands =
          ap (λ (l : List A). set l i x) s.stands
          ∙ subst (λ k. set (fill_to room none s.read) k x ≡ fill_to room none (s.read ++ (x ∷ []))) s.size
          (fill_store room none s.read x (omega (arith, s.size)));
    }

    pub stop : (count : ℕ) (reply : Reply) (place : ℕ) → i < count → one s.read at ≡ refused reply place → many count one from ≡ refused reply place
    stop count reply place h e = many_refused one from i count s.read at reply place h s.gives e

    pub finish : (count : ℕ) → i ≤ count → count ≤ i → many count one from ≡ part s.read at
    finish count h k = let z : count ≡ i = omega arith in rw z s.gives
