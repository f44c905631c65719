-- Two and four numbers read one after another, each step told by the number before it: together they are the definitions' readings.
use Rattle.std.specs.Prelude.{ℕ, ◌≡◌, Ok, Err}
use Rattle.std.proofs.Common.{◌∙◌}
use Rattle.std.specs.declared.result.Result as Std
use Rattle.reply.specs.Result.{Result, refused}
use Rattle.reply.specs.declared.Refusal.{Refusal}
use Rattle.number.specs.Parts.{Part, part, reading}
use Rattle.number.specs.Told.{part_told, part_ok, part_err}

-- a number that was read, or why none was
abbrev Number : Type 0
Number = Std.Result (ℕ × ℕ) Refusal

-- the same as a result again; and its value, 0 where there is none
abbrev as_result : Number → Result (Part ℕ)
as_result (Ok (value, next)) = part value next
as_result (Err e) = refused e.reply e.place

abbrev value_of : Number → ℕ
value_of (Ok (value, next)) = value
value_of (Err e) = 0

-- a step after a number that was refused is refused likewise
refused_on : {e : Refusal} (more : ℕ → Result (Part ℕ)) (a b : Number) → a ≡ Err e → b ≡ part_told (reading (as_result a) λ v n. more n) → b ≡ Err e
refused_on more a b is f = f ∙ rw is

-- a last number, and what is made of it
module _ {B : Type 0} (finish : ℕ → ℕ → Result B) where
  last : (s : Result (Part ℕ)) (d : Number) → d ≡ part_told s → reading s finish ≡ reading (as_result d) λ v n. finish (value_of d) n
  last s (Ok (v, n)) e = rw (part_ok s e)
  last s (Err refusal) e = rw (part_err s e)

-- two numbers
module _ {B : Type 0} (s₁ : Result (Part ℕ)) (s₂ : ℕ → Result (Part ℕ)) (finish : ℕ → ℕ → ℕ → Result B) where
  pub two : (a b : Number) → a ≡ part_told s₁ → b ≡ part_told (reading (as_result a) λ v n. s₂ n)
      → (reading s₁ λ v₁ n₁. reading (s₂ n₁) λ v₂ n₂. finish v₁ v₂ n₂) ≡ (reading (as_result b) λ v n. finish (value_of a) (value_of b) n)
  two (Ok (v₁, n₁)) b ea eb = rw (part_ok s₁ ea) (last (finish v₁) (s₂ n₁) b eb)
  two (Err e) b ea eb = rw (part_err s₁ ea, eb)

-- four; the third step may go by the first value, the fourth by the first and the third
module _ {B : Type 0} (s₁ : Result (Part ℕ)) (s₂ : ℕ → Result (Part ℕ)) (s₃ : ℕ → ℕ → Result (Part ℕ)) (s₄ : ℕ → ℕ → ℕ → Result (Part ℕ))
    (finish : ℕ → ℕ → ℕ → ℕ → ℕ → Result B) where
  pub four : (a b c d : Number) → a ≡ part_told s₁ → b ≡ part_told (reading (as_result a) λ v n. s₂ n)
      → c ≡ part_told (reading (as_result b) λ v n. s₃ (value_of a) n) → d ≡ part_told (reading (as_result c) λ v n. s₄ (value_of a) (value_of c) n)
      → (reading s₁ λ v₁ n₁. reading (s₂ n₁) λ v₂ n₂. reading (s₃ v₁ n₂) λ v₃ n₃. reading (s₄ v₁ v₃ n₃) λ v₄ n₄. finish v₁ v₂ v₃ v₄ n₄)
      ≡ (reading (as_result d) λ v n. finish (value_of a) (value_of b) (value_of c) (value_of d) n)
  four (Ok (v₁, n₁)) (Ok (v₂, n₂)) (Ok (v₃, n₃)) d ea eb ec ed =
      rw (part_ok s₁ ea, part_ok (s₂ n₁) eb, part_ok (s₃ v₁ n₂) ec) (last (finish v₁ v₂ v₃) (s₄ v₁ v₃ n₃) d ed)
  four (Ok (v₁, n₁)) (Ok (v₂, n₂)) (Err e) d ea eb ec ed =
      rw (part_ok s₁ ea, part_ok (s₂ n₁) eb, part_err (s₃ v₁ n₂) ec, ed)
  four (Ok (v₁, n₁)) (Err e) c d ea eb ec ed =
      rw (part_ok s₁ ea, part_err (s₂ n₁) eb, refused_on (s₄ v₁ (value_of c)) c d ec ed)
  four (Err e) b c d ea eb ec ed =
      rw (part_err s₁ ea, refused_on (s₄ 0 (value_of c)) c d (refused_on (s₃ 0) b c eb ec) ed)
