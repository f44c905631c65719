-- Small words of the definitions, on lists: the table of what stands at the numbers below n; a test of every element; a list filled up to a length.
use Rattle.std.specs.Prelude.{ℕ, zero, suc, ◌-◌, Bool, true, ◌&&◌, List, [], ◌∷◌, ◌++◌, length, replicate}

unfoldable pub table : {A : Type 0} → ℕ → (ℕ → A) → List A
table zero f = []
table (suc n) f = table n f ++ (f n ∷ [])

unfoldable pub every : {A : Type 0} → (A → Bool) → List A → Bool
every q [] = true
every q (x ∷ l) = q x && every q l

-- what each element gives, one after another
unfoldable pub each_of : {A : Type 0} → (A → List ℕ) → List A → List ℕ
each_of f [] = []
each_of f (x ∷ l) = f x ++ each_of f l

-- a list with zeros after it, n in all
unfoldable pub fill_to : {A : Type 0} → ℕ → A → List A → List A
fill_to n zeros l = l ++ replicate (n - length l) zeros
