-- Text put piece by piece: one byte, one piece after another, a number's digits, the words of a loop.
use Prim.Native.Nat.{ℕ, ◌+◌, ◌/◌, ◌^◌, ◌≤◌, ◌<◌}
use mathlib.Core.Path.{◌≡◌, refl, sym, ◌∙◌}
use mathlib.Core.List.{List, [], ◌∷◌, ◌++◌}
use native.Mathlib.Omega.{arith}
use lib.ListN.{length, length-append, set, replicate}
use lib.Seq.{sets, sets-eq}
use borrow.Rule.Slice.PartMut.{put_mid}
use Rattle.std.proofs.lemmas.Grind.{common_steps}
use Rattle.number.specs.PutLaws.{sets_append}
use Rattle.std.specs.Fmt as Fmt
use Rattle.std.proofs.lemmas.Fmt.{decimal_by_steps}
use Rattle.listing.specs.Listing.{decimal}
use Rattle.listing.specs.DecimalLaws.{decimal_last, decimal_more}
use Rattle.listing.specs.Printed.{Printed, Put, no_text, text_with}
use Rattle.listing.specs.declared.text.Text.{Text}

-- ---- piece by piece

pub one : (before : List ℕ) (at b : ℕ) → Printed before at (b ∷ []) (set before at b) (at + 1)
one before at b = record { stands = refl; ends = refl }

module _ {before : List ℕ} {from : ℕ} {xs : List ℕ} {between : List ℕ} {at : ℕ} (a : Printed before from xs between at) where
  -- ys after xs
  pub join : {ys : List ℕ} {after : List ℕ} {next : ℕ} → Printed between at ys after next → Printed before from (xs ++ ys) after next
  join {ys} b = record {
    stands = b.stands ∙ rw (a.stands, a.ends) (sym (sets_append before from xs ys));
    ends = rw (length-append xs ys) (omega arith);
  }

  -- the same text in other words
  pub told : {ys : List ℕ} → xs ≡ ys → Printed before from ys between at
  told e = rw (← e) (record { stands = a.stands; ends = a.ends })

-- ---- numbers

-- std's plain decimal is ours
pub plain : (n : ℕ) → n < 2 ^ 64 → Fmt.decimal n ≡ decimal n
plain n h = decimal_by_steps (λ m ds. m < 10 ^ 20 → ds ≡ decimal m) (λ m l b. sym (decimal_last m l)) (λ m ds l e b. let same : ds ≡ decimal (m / 10) = e (omega arith) in rw same (sym (decimal_more m l b))) n h (omega arith)

-- ---- words

-- words written over a part of a buffer
pub put_there : (before words after : List ℕ) (from k : ℕ) → after ≡ words → k ≡ length words → from + length words ≤ length before → put_mid from k before after ≡ sets before from words
put_there before words after from k e z h = rw (e, z, sets-eq words before from h) (grind (arith, common_steps))

-- ---- a text from its first byte on

pub all_put : {before : Text} {words : List ℕ} {after : Text} → before ≡ no_text → Put before words after → after ≡ text_with words
all_put {before} {words} {after} fresh p =
    let bytes : after.bytes ≡ sets (replicate 4096 0) 0 words = p.stands ∙ rw fresh refl in
    let size : after.length ≡ length words = p.ends ∙ rw fresh (omega arith) in
    rw (← bytes, ← size) refl
