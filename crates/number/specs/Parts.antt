-- Reading a file part by part: what is read goes on with the position after it, until something is refused.
use Rattle.std.specs.Prelude.{ℕ, zero, suc, List, [], ◌∷◌, ◌++◌}
use Rattle.reply.specs.Result.{Result, done, and_then}

-- what was read, and the position after it
pub record Part (A : Type 0) : Type 0 where
  pub it : A
  pub next : ℕ

abbrev pub part : {A : Type 0} → A → ℕ → Result (Part A)
part it next = done (record { it = it; next = next })

-- read one thing, then go on with it from the position after it
abbrev pub reading : {A B : Type 0} → Result (Part A) → (A → ℕ → Result B) → Result B
reading r then = and_then r (λ p. then p.it p.next)

-- n things one after another, each read in the light of those before it
unfoldable pub many : {A : Type 0} → ℕ → (List A → ℕ → Result (Part A)) → ℕ → Result (Part (List A))
many zero one at = part [] at
many (suc n) one at =
    reading (many n one at) λ before here.
    reading (one before here) λ x next.
    part (before ++ (x ∷ [])) next
