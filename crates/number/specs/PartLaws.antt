-- Laws of reading part by part, for every loop and every proof over such readings.
use Prim.Native.Nat.{ℕ, zero, suc, ◌+◌, ◌-◌, ◌<◌}
use Rattle.std.specs.Prelude.{◌≡◌, List, [], ◌∷◌, ◌++◌}
use Rattle.std.proofs.Math.Path.{refl}
use Rattle.std.proofs.Common.{subst, ◌∙◌, length-append}
use native.Mathlib.Omega.{arith}
use Rattle.std.proofs.Math.ListN.{length}
use Rattle.reply.specs.Result.{Result, done, refused}
use Rattle.reply.specs.ResultLaws.{accepted, done_same, Honest, honest_done, honest_then}
use Rattle.reply.specs.declared.Reply.{Reply}
use Rattle.number.specs.Parts.{Part, part, many}

-- what holds of a part that was made holds of the part that was asked for
pub same_part : {A : Type 0} (x y : Part A) (P : A → ℕ → Type 0) → done x ≡ done y → P x.it x.next → P y.it y.next
same_part {A} x y P e h = subst (λ (p : Part A). P p.it p.next) (done_same e) h

module _ {A : Type 0} (one : List A → ℕ → Result (Part A)) (at : ℕ) where
  pub many_zero : many 0 one at ≡ part [] at
  unfolding many
  many_zero = refl

  -- one more is read
  pub many_more : (i : ℕ) (xs : List A) (here : ℕ) (x : A) (next : ℕ)
      → many i one at ≡ part xs here → one xs here ≡ part x next → many (suc i) one at ≡ part (xs ++ (x ∷ [])) next
  unfolding many
  many_more i xs here x next e f = rw (e, f)

  many_stays : (i k : ℕ) (reply : Reply) (place : ℕ) → many i one at ≡ refused reply place → many (i + k) one at ≡ refused reply place
  unfolding many
  many_stays i zero reply place e = let z : i + 0 ≡ i = omega arith in rw z e
  many_stays i (suc k) reply place e = let z : i + suc k ≡ suc (i + k) = omega arith in rw (z, many_stays i k reply place e)

  -- the first that is refused is refused for all
  pub many_refused : (i n : ℕ) (xs : List A) (here : ℕ) (reply : Reply) (place : ℕ) → i < n
      → many i one at ≡ part xs here → one xs here ≡ refused reply place → many n one at ≡ refused reply place
  unfolding many
  many_refused i n xs here reply place h e f =
      let z : suc i + (n - suc i) ≡ n = omega arith in
      rw z at (many_stays (suc i) (n - suc i) reply place (rw (e, f)))

  pub many_length : (n : ℕ) (xs : List A) (next : ℕ) → many n one at ≡ part xs next → length xs ≡ n
  unfolding many
  many_length zero xs next e = same_part (record { it = []; next = at }) (record { it = xs; next = next }) (λ l m. length l ≡ 0) e refl
  many_length (suc n) xs next e =
      accepted {A = Part (List A)} _ _ _ e λ v r e₁.
      accepted (one v.it v.next) (λ w. part (v.it ++ (w.it ∷ [])) w.next) _ e₁ λ w r₁ e₂.
      same_part _ _ (λ l m. length l ≡ suc n) e₂ (length-append v.it (w.it ∷ []) ∙ omega (arith, many_length n v.it v.next r))

  pub many_honest : (n : ℕ) → ((before : List A) (here : ℕ) → Honest (one before here)) → Honest (many n one at)
  unfolding many
  many_honest zero h = honest_done _
  many_honest (suc n) h = honest_then _ _ (many_honest n h) λ v. honest_then _ _ (h v.it v.next) λ w. honest_done _
