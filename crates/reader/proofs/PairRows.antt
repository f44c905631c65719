-- Pairs as the code keeps them: read one by one, and marked in rows.
use Prim.Native.Nat.{ℕ, ◌+◌, ◌≤◌, ◌<◌}
use mathlib.Core.Path.{◌≡◌, refl, sym, ap, ◌∙◌}
use mathlib.Core.Bool.{Bool, true, false, not, ◌&&◌}
use mathlib.Core.List.{List, []}
use native.Mathlib.Omega.{arith}
use lib.ListN.{get_or, set, replicate}
use Rattle.reply.specs.Result.{Result, done, refused, and_then, require}
use Rattle.reply.specs.ResultLaws.{accepted, required}
use Rattle.reply.specs.declared.Reply.{Reply}
use Rattle.reply.specs.declared.Reply.TheVariants.{BadPair}
use Rattle.reply.specs.declared.Refusal.{Refusal}
use Rattle.std.specs.Prelude.{Ok, Err}
use Rattle.number.specs.Parts.{Part, part, reading, many}
use Rattle.number.specs.PartLaws.{same_part}
use Rattle.number.specs.Number.{number_at}
use Rattle.number.specs.Told.{part_told, part_ok, part_err}
use Rattle.marks.specs.Row.{marked, no_marks, with_of}
use Rattle.marks.specs.declared.Row.{Row}
use Rattle.network.specs.Pairs.{no_pair, is_pair, apart, good_pair}
use Rattle.network.specs.PairLaws.{apart_true, pair_none, good_first}
use Rattle.network.specs.Read.{one_pair}
use Rattle.network.specs.Told.{pair_rows}
use Rattle.network.specs.declared.Pair.{Pair}
use Rattle.network.specs.RowLaws.{rows_none, row_has, rows_more}
use Rattle.reader.specs.Told.{marked_told}
use Rattle.reader.proofs.Loop.{SoFar, start, step, stop}

abbrev pair : ℕ → ℕ → Pair
pair a b = record { higher = a; lower = b }

-- ---- one pair

abbrev judged : ℕ → ℕ → ℕ → ℕ → ℕ → Result (Part Pair)
judged n at higher lower next = and_then (require (apart n higher lower) BadPair at) λ ok. part (pair higher lower) next

-- readings that go on alike
same : {A B : Type 0} (r : Result (Part A)) (f g : A → ℕ → Result B) → ((x : A) (n : ℕ) → f x n ≡ g x n) → reading r f ≡ reading r g
same (done p) f g e = e p.it p.next
same (refused reply place) f g e = refl

-- the first pair of a file, with the test of a later one left out
pub first_pair : (file : List ℕ) (n at : ℕ) → one_pair file n [] at ≡ (reading (number_at file at) λ a at₁. reading (number_at file at₁) λ b next. judged n at a b next)
unfolding one_pair
first_pair file n at = same (number_at file at) _ _ (λ a m. same (number_at file m) _ _ (λ b next. rw (good_first n a b)))

-- ---- the same pair after others

-- a step put after each of the readings, or after all of them
lift : {A B C : Type 0} (r : Result (Part A)) (f : A → ℕ → Result C) (g : A → ℕ → Result B) (k : B → Result C)
    → ((x : A) (n : ℕ) → f x n ≡ and_then (g x n) k) → reading r f ≡ and_then (reading r g) k
lift (done p) f g k e = e p.it p.next
lift (refused reply place) f g k e = refl

module _ (file : List ℕ) (n : ℕ) (before : List Pair) (at : ℕ) where
  abbrev fresh : Part Pair → Result (Part Pair)
  fresh q = and_then (require (not (is_pair before q.it.higher q.it.lower)) BadPair at) λ ok. done q

  -- a later pair is a first pair, and then not a repeated one
  later : one_pair file n before at ≡ and_then (one_pair file n [] at) fresh
  unfolding one_pair good_pair
  later = lift (number_at file at) _ _ fresh (λ a m. lift (number_at file m) _ _ fresh (λ b next. go (apart n a b) a b next))
    where
      go : (s : Bool) (a b next : ℕ) → (and_then (require (s && not (is_pair before a b)) BadPair at) λ ok. part (pair a b) next)
          ≡ and_then (and_then (require (s && not (is_pair [] a b)) BadPair at) λ ok. part (pair a b) next) fresh
      go true a b next = rw (pair_none a b)
      go false a b next = refl

  pub later_refused : {reply : Reply} {place : ℕ} → one_pair file n [] at ≡ refused reply place → one_pair file n before at ≡ refused reply place
  later_refused e = later ∙ rw e

  module _ {p : Pair} {next : ℕ} (e : one_pair file n [] at ≡ part p next) where
    pub later_twice : is_pair before p.higher p.lower ≡ true → one_pair file n before at ≡ refused BadPair at
    later_twice t = later ∙ rw (e, t)

    pub later_new : is_pair before p.higher p.lower ≡ false → one_pair file n before at ≡ part p next
    later_new t = later ∙ rw (e, t)

    -- its processes are two of n
    pub in_range : (p.higher < n) × (p.lower < n)
    in_range =
        accepted (number_at file at) (λ a. reading (number_at file a.next) λ b m. judged n at a.it b m) _ (sym (first_pair file n at) ∙ e) λ a r₁ e₁.
        accepted (number_at file a.next) (λ b. judged n at a.it b.it b.next) _ e₁ λ b r₂ e₂.
        required (apart n a.it b.it) BadPair at (λ ok. part (pair a.it b.it) b.next) _ e₂ λ t e₃.
        let (h, l, d) = apart_true n a.it b.it t in
        same_part (record { it = pair a.it b.it; next = b.next }) _ (λ q m. (q.higher < n) × (q.lower < n)) e₃ (h, l)

-- ---- the loop

-- i pairs are read, up to `at`, and marked
pub record Marked (file : List ℕ) (n from i at : ℕ) (pairs : List Pair) (rows : List Row) : Type 0 where
  pub so_far : SoFar (one_pair file n) no_pair 66 from i at pairs
  pub marks : rows ≡ pair_rows so_far.read

pub begin : (file : List ℕ) (n from : ℕ) (pairs : List Pair) (rows : List Row) → pairs ≡ replicate 66 no_pair → rows ≡ replicate 12 no_marks → Marked file n from 0 from pairs rows
begin file n from pairs rows p r = record { so_far = start (one_pair file n) no_pair 66 from pairs p; marks = r ∙ rows_none }

module _ {file : List ℕ} {n from i at : ℕ} {pairs : List Pair} {rows : List Row} (m : Marked file n from i at pairs rows) (small : n ≤ 12) where
  module _ {p : Pair} {next : ℕ} (got : Ok (p, next) ≡ part_told (one_pair file n [] at)) where
    is : one_pair file n [] at ≡ part p next
    is = part_ok (one_pair file n [] at) got

    pub place : (p.higher < 12) × (p.lower < 12)
    place = omega (arith, in_range file n [] at is)

    module _ {t : Bool} (has : t ≡ marked (get_or rows p.higher no_marks) p.lower) where
      repeated : t ≡ is_pair m.so_far.read p.higher p.lower
      repeated = has ∙ ap (λ (l : List Row). marked (get_or l p.higher no_marks) p.lower) m.marks
          ∙ row_has m.so_far.read p.higher p.lower place.0 (omega (arith, place.1))

      pub again : t ≡ false → i < 66 → Marked file n from (i + 1) next (set pairs i p) (set rows p.higher (with_of (get_or rows p.higher no_marks) p.lower))
      again f h = record {
        so_far = step (one_pair file n) no_pair 66 from m.so_far p next h (later_new file n m.so_far.read at is (sym repeated ∙ f));
        marks =
            ap (λ (l : List Row). set l p.higher (with_of (get_or l p.higher no_marks) p.lower)) m.marks
            ∙ rows_more m.so_far.read p.higher p.lower place.0 (omega (arith, place.1));
      }

      pub twice : t ≡ true → (count : ℕ) → i < count → many count (one_pair file n) from ≡ refused BadPair at
      twice f count h = stop (one_pair file n) no_pair 66 from m.so_far count BadPair at h (later_twice file n m.so_far.read at is (sym repeated ∙ f))

  pub cut : {e : Refusal} → Err e ≡ part_told (one_pair file n [] at) → {count : ℕ} → i < count → Err e ≡ marked_told (many count (one_pair file n) from)
  cut {e} told {count} h =
      rw (stop (one_pair file n) no_pair 66 from m.so_far count e.reply e.place h
      (later_refused file n m.so_far.read at (part_err (one_pair file n [] at) told)))
