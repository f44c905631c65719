-- What is known once a number in a range, or a list with a count, is read.
use Prim.Native.Nat.{ℕ, ◌≤◌}
use mathlib.Core.Path.{◌≡◌, refl, subst}
use mathlib.Core.Bool.{◌&&◌}
use mathlib.Core.List.{List, []}
use borrow.Author.Tests.{leb-true}
use lib.Dec.{leb}
use lib.ListN.{length, take}
use Rattle.std.specs.Prelude.{Ok, Err}
use Rattle.reply.specs.Result.{Result, done, refused}
use Rattle.reply.specs.ResultLaws.{accepted, required}
use Rattle.reply.specs.Tests.{both}
use Rattle.reply.specs.declared.Reply.TheVariants.{OutOfRange}
use Rattle.reply.specs.declared.Refusal.{Refusal}
use Rattle.number.specs.Parts.{Part, part, many}
use Rattle.number.specs.PartLaws.{same_part, many_length}
use Rattle.number.specs.Number.{number_at}
use Rattle.number.specs.Told.{part_told, part_ok, pair_same}
use Rattle.network.specs.Lists.{fill_to}
use Rattle.network.specs.ListLaws.{take_fill}
use Rattle.network.specs.Read.{ranged, one_process}
use Rattle.network.specs.declared.Process.{Process}
use Rattle.reader.specs.Told.{list_told}

-- a number in a range is at most its end
pub ranged_most : (file : List ℕ) (low high at : ℕ) {value next : ℕ} → ranged file low high at ≡ part value next → value ≤ high
unfolding ranged
ranged_most file low high at e =
    accepted (number_at file at) _ _ e λ n r e₁.
    required (leb low n.it && leb n.it high) OutOfRange at _ _ e₁ λ t e₂.
    same_part n _ (λ v m. v ≤ high) e₂ (leb-true n.it high (both (leb low n.it) (leb n.it high) t).1)

pub told_most : (file : List ℕ) (low high at : ℕ) {value next : ℕ} → Ok (value, next) ≡ part_told (ranged file low high at) → value ≤ high
told_most file low high at e = ranged_most file low high at (part_ok (ranged file low high at) e)

-- `count` records are a list that stands at the front of an array
pub record Listed {A : Type 0} (room : ℕ) (none : A) (one : List A → ℕ → Result (Part A)) (count from : ℕ) (stored : List A) (next : ℕ) : Type 0 where
  pub list : List A
  pub is : many count one from ≡ part list next
  pub stands : stored ≡ fill_to room none list

stored_is : {A : Type 0} (room : ℕ) (none : A) (r : Result (Part (List A))) {stored : List A} {next : ℕ} → Ok (stored, next) ≡ list_told room none r
    → (list : List A) × (r ≡ part list next) × (stored ≡ fill_to room none list)
stored_is room none (done p) e = let (stored, n) = pair_same e in (p.it, rw n, stored)
stored_is room none (refused reply place) e = cc

pub list_err : {A : Type 0} (room : ℕ) (none : A) (r : Result (Part (List A))) {e : Refusal} → Err e ≡ list_told room none r → r ≡ refused e.reply e.place
list_err room none (done p) is = cc
list_err room none (refused reply place) is = cc

module _ {A : Type 0} {room : ℕ} {none : A} (one : List A → ℕ → Result (Part A)) (count from : ℕ) {stored : List A} {next : ℕ} where
  pub listed : Ok (stored, next) ≡ list_told room none (many count one from) → Listed room none one count from stored next
  listed e = let (list, is, stands) = stored_is room none (many count one from) e in record { list = list; is = is; stands = stands }

  module _ (l : Listed room none one count from stored next) where
    pub size : length l.list ≡ count
    size = many_length one from count l.list next l.is

    pub taken : take count stored ≡ l.list
    taken = rw l.stands (subst (λ k. take k (fill_to room none l.list) ≡ l.list) size (take_fill room none l.list))

-- what was read before a process does not matter
pub process_any : (file : List ℕ) (before : List Process) (at : ℕ) → one_process file [] at ≡ one_process file before at
unfolding one_process
process_any file before at = refl
