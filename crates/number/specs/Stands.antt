-- Where bytes stand in a file.
use Rattle.std.specs.Prelude.{ℕ, ◌+◌, ◌<◌, ◌≡◌, refl, List, [], ◌++◌, length, get_or, drop}
use Rattle.std.proofs.Common.{sym, ap, subst, ◌∙◌, append_assoc, arith, length-append, drop-drop}
use Rattle.std.proofs.Math.Seq.{drop-append_seam}

-- from `at` up to `next`
pub record Stands (file : List ℕ) (at : ℕ) (bytes : List ℕ) (next : ℕ) : Type 0 where
  pub ends : next ≡ at + length bytes
  pub begins : drop at file ≡ bytes ++ drop next file

-- every element is a byte
abbrev pub Bytes : List ℕ → Type 0
Bytes file = (i : ℕ) → get_or file i 0 < 256

module _ (file : List ℕ) where
  pub stands_none : (at : ℕ) → Stands file at [] at
  stands_none at = record { ends = omega arith; begins = refl }

  pub stands_empty : {at next : ℕ} → Stands file at [] next → next ≡ at
  stands_empty s = omega (arith, s.ends)

  pub join : {at here next : ℕ} (b c : List ℕ) → Stands file at b here → Stands file here c next → Stands file at (b ++ c) next
  join b c s t = record {
    ends = omega (arith, s.ends, t.ends, length-append b c);
    begins = s.begins ∙ rw (append_assoc, t.begins);
  }

  pub cut : {at next : ℕ} (b c : List ℕ) → Stands file at (b ++ c) next → Stands file at b (at + length b) × Stands file (at + length b) c next
  cut {at} {next} b c s =
      let d : drop at file ≡ b ++ (c ++ drop next file) = s.begins ∙ append_assoc b c (drop next file) in
      let e : drop (at + length b) file ≡ c ++ drop next file = sym (drop-drop (length b) at file) ∙ ap (drop (length b)) d ∙ drop-append_seam b (c ++ drop next file) in (
        record { ends = refl; begins = d ∙ ap (λ (l : List ℕ). b ++ l) (sym e) },
        record { ends = omega (arith, s.ends, length-append b c); begins = e },
      )

  pub stands_same : {at next : ℕ} {b c : List ℕ} → b ≡ c → Stands file at b next → Stands file at c next
  stands_same {at} {next} e s = subst (λ (l : List ℕ). Stands file at l next) e s
