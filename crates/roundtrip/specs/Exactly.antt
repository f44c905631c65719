-- What it is for a reader to accept exactly the bytes of good things: numbers, numbers in a range, and many things one after another.
use Prim.Native.Nat.{ℕ, zero, suc, ◌+◌, ◌≤◌, ◌<◌, ◌^◌}
use Rattle.std.specs.Prelude.{◌≡◌, refl, take, leb}
use Rattle.std.proofs.Common.{sym, ◌∙◌, arith, length-append, take-suc, take_all, length-take-le, get_or-take, take-take}
use Rattle.std.proofs.Math.Path.{ap}
use mathlib.Core.List.{List, [], ◌∷◌, ◌++◌}
use Rattle.std.proofs.Math.Decide.{dec_lt}
use Rattle.std.proofs.Math.ListN.{length, get_or, get_or-append}
use Rattle.std.proofs.lemmas.List.{take-append-le}
use Rattle.std.proofs.Math.Seq.{take-append_seam, get_or-append_seam}
use borrow.Author.Tests.{le-leb, leb-true}
use Rattle.reply.specs.Tests.{both}
use Rattle.reply.specs.Result.{Result}
use Rattle.reply.specs.ResultLaws.{accepted, required}
use Rattle.number.specs.Parts.{Part, part, many}
use Rattle.number.specs.PartLaws.{same_part, many_more, many_zero}
use Rattle.number.specs.Number.{number_at}
use Rattle.number.specs.Encode.{encode}
use Rattle.number.specs.Stands.{Stands, Bytes, stands_none, stands_empty, stands_same, join, cut}
use Rattle.number.specs.Exact.{read_small, read_stands, stands_reads}
use Rattle.network.specs.Lists.{each_of}
use Rattle.network.specs.ListLaws.{each_more}
use Rattle.network.specs.Read.{ranged}

-- a reader accepts exactly the bytes of good things
pub record Exact {A : Type 0} (file : List ℕ) (at : ℕ) (r : Result (Part A)) (bytes : A → List ℕ) (Good : A → Type 0) : Type 0 where
  pub sound : (x : A) (next : ℕ) → r ≡ part x next → Good x × (Bytes file → Stands file at (bytes x) next)
  pub complete : (x : A) (next : ℕ) → Good x → Stands file at (bytes x) next → r ≡ part x next

-- ---- numbers

module _ (file : List ℕ) where
  pub number_exact : (at : ℕ) → Exact file at (number_at file at) encode (λ n. n < 2 ^ 32)
  number_exact at = record {
    sound = λ n next e. (read_small file at n next e, read_stands file at n next e);
    complete = λ n next small s. stands_reads file at n next s small;
  }

  pub ranged_exact : (low high at : ℕ) → high < 2 ^ 32 → Exact file at (ranged file low high at) encode (λ n. (low ≤ n) × (n ≤ high))
  unfolding ranged
  ranged_exact low high at small = record {
    sound = λ n next e.
        accepted _ _ _ e λ v r e₁.
        required _ _ _ _ _ e₁ λ t e₂.
        let (t₁, t₂) = both (leb low v.it) (leb v.it high) t in
        same_part _ _ (λ n next. ((low ≤ n) × (n ≤ high)) × (Bytes file → Stands file at (encode n) next)) e₂
        ((leb-true low v.it t₁, leb-true v.it high t₂), read_stands file at v.it v.next r);
    complete = λ n next g s. rw (stands_reads file at n next s (omega arith), le-leb low n g.0, le-leb n high g.1);
  }

-- ---- many

-- n things, each good after those before it
pub record Goods {A : Type 0} (d : A) (Good : List A → A → Type 0) (n : ℕ) (xs : List A) : Type 0 where
  pub size : length xs ≡ n
  pub good : (k : ℕ) → k < n → Good (take k xs) (get_or xs k d)

module _ {A : Type 0} (d : A) where
  all_but_last : (n : ℕ) (xs : List A) → length xs ≡ suc n → take n xs ++ (get_or xs n d ∷ []) ≡ xs
  all_but_last n xs h = sym (take-suc xs n d (omega arith)) ∙ take_all (suc n) xs (omega arith)

module _ {A : Type 0} (d : A) (Good : List A → A → Type 0) where
  pub goods_more : (n : ℕ) (xs : List A) (x : A) → Goods d Good n xs → Good xs x → Goods d Good (suc n) (xs ++ (x ∷ []))
  goods_more n xs x g h = record {
    size = omega (arith, length-append xs (x ∷ []), g.size);
    good = λ k l. elim (dec_lt k n) [
      | yes m ↦
          let s : k < length xs = omega (arith, g.size) in
          rw (take-append-le k xs (x ∷ []) (omega arith), get_or-append xs (x ∷ []) d k s) (g.good k m)
      | no m ↦
          let z : length xs ≡ k = omega (arith, g.size) in
          rw (← z, take-append_seam xs (x ∷ []), get_or-append_seam xs x [] d) h
    ];
  }

  goods_fewer : (n : ℕ) (xs : List A) → Goods d Good (suc n) xs → Goods d Good n (take n xs)
  goods_fewer n xs g = record {
    size = length-take-le n xs (omega (arith, g.size));
    good = λ k l. rw (take-take k n xs (omega arith), get_or-take n xs k d l) (g.good k (omega arith));
  }

-- if each thing is read exactly, so are n of them
module _ {A : Type 0} (d : A) (file : List ℕ) (one : List A → ℕ → Result (Part A)) (bytes : A → List ℕ) (Good : List A → A → Type 0)
    (each : (before : List A) (at : ℕ) → Exact file at (one before at) bytes (Good before)) (at : ℕ) where
  many_sound : (n : ℕ) (xs : List A) (next : ℕ) → many n one at ≡ part xs next → Goods d Good n xs × (Bytes file → Stands file at (each_of bytes xs) next)
  unfolding many each_of
  many_sound zero xs next e =
      same_part _ _ (λ xs next. Goods d Good 0 xs × (Bytes file → Stands file at (each_of bytes xs) next)) e
      (record { size = refl; good = λ k l. absurd (omega arith) }, λ y. stands_none file at)
  many_sound (suc n) xs next e =
      accepted _ _ _ e λ v r e₁.
      accepted _ _ _ e₁ λ w r₁ e₂.
      let (g, s) = many_sound n v.it v.next r in
      let (h, t) = (each v.it v.next).sound w.it w.next r₁ in
      same_part _ _ (λ xs next. Goods d Good (suc n) xs × (Bytes file → Stands file at (each_of bytes xs) next)) e₂ (
        goods_more d Good n v.it w.it g h,
        λ y. stands_same file (sym (each_more bytes v.it w.it)) (join file (each_of bytes v.it) (bytes w.it) (s y) (t y)),
      )

  many_complete : (n : ℕ) (xs : List A) (next : ℕ) → Goods d Good n xs → Stands file at (each_of bytes xs) next → many n one at ≡ part xs next
  unfolding each_of
  many_complete zero [] next g s = rw (stands_empty file s) (many_zero one at)
  many_complete zero (x ∷ xs) next g s = absurd (omega (arith, g.size))
  many_complete (suc n) xs next g s =
      let whole = all_but_last d n xs g.size in
      let x = get_or xs n d in
      let here = at + length (each_of bytes (take n xs)) in
      let (s₁, s₂) = cut file (each_of bytes (take n xs)) (bytes x) (stands_same file (sym (ap (each_of bytes) whole) ∙ each_more bytes (take n xs) x) s) in
      many_more one at n (take n xs) here x next
      (many_complete n (take n xs) here (goods_fewer d Good n xs g) s₁)
      ((each (take n xs) here).complete x next (g.good n (omega arith)) s₂)
      ∙ ap (λ (l : List A). part l next) whole

  pub many_exact : (n : ℕ) → Exact file at (many n one at) (each_of bytes) (Goods d Good n)
  many_exact n = record { sound = many_sound n; complete = many_complete n }
