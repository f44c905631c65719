-- Numbers laid one after another: one number, what follows it, the turns of a loop.
use Prim.Native.Nat.{ℕ, zero, suc, ◌+◌, ◌*◌, ◌≤◌, ◌<◌, min}
use mathlib.Core.Path.{◌≡◌, refl, sym, ap, ◌∙◌}
use mathlib.Core.List.{List, [], ◌∷◌, ◌++◌, append_assoc, append-nil}
use native.Mathlib.Decide.{dec_lt}
use native.Mathlib.Nat.{add-zero}
use native.Mathlib.Numerals.{add-one}
use native.Mathlib.Omega.{arith}
use lib.ListN.{length, get_or, take, drop, length-append}
use lib.Seq.{sets, sets-eq, take_at, take_all, take-suc, take-append-le, get_or-drop}
use Rattle.number.specs.Encode.{encode}
use Rattle.number.specs.Groups.{encode_most}
use Rattle.number.specs.PutLaws.{sets_append}
use Rattle.network.specs.Lists.{each_of, table}
use Rattle.network.specs.ListLaws.{take_lesser, each_append, each_one, each_more, length_table}
use Rattle.network.specs.Net.{within, process_fields, pair_fields, channel_fields, four_fields, program_at}
use Rattle.network.specs.Write.{program_fields, fields, encode_network}
use Rattle.writer.specs.Laid.{Laid, Encoded}
use Rattle.network.specs.declared.Process.{Process}
use Rattle.network.specs.declared.Pair.{Pair}
use Rattle.network.specs.declared.Channel.{Channel}
use Rattle.network.specs.declared.Four.{Four}
use Rattle.network.specs.declared.Network.{Network}

-- ---- none, one, and more

pub none : (buffer : List ℕ) (at most : ℕ) {xs : List ℕ} → xs ≡ [] → Laid buffer at xs most buffer at
unfolding each_of
none buffer at most e = rw e (record { stands = refl; ends = sym (add-zero at); near = omega arith })

module _ (before : List ℕ) (at n : ℕ) where
  pub one : {next : ℕ} {last : List ℕ} → next ≡ at + length (encode n) → last ≡ sets before at (encode n) → Laid before at (n ∷ []) 5 last next
  one e f = record { stands = rw (each_one encode n) f; ends = rw (each_one encode n) e; near = omega (arith, encode_most n) }

module _ {before : List ℕ} {from : ℕ} {xs : List ℕ} {m : ℕ} {between : List ℕ} {at : ℕ} (a : Laid before from xs m between at) where
  -- ys after xs
  pub join : {ys : List ℕ} {k : ℕ} {last : List ℕ} {next : ℕ} → Laid between at ys k last next → Laid before from (xs ++ ys) (m + k) last next
  join {ys} b = record {
    stands =
        b.stands
        ∙ rw (a.stands, a.ends) (sym (sets_append before from (each_of encode xs) (each_of encode ys)))
        ∙ ap (λ (l : List ℕ). sets before from l) (sym (each_append encode xs ys));
    ends = rw (each_append encode xs ys, length-append (each_of encode xs) (each_of encode ys)) (omega arith);
    near = omega arith;
  }

  -- the same numbers in other words, of which there may be more bytes
  pub told : {zs : List ℕ} {k : ℕ} → xs ≡ zs → m ≤ k → Laid before from zs k between at
  told e h = rw (← e) (record { stands = a.stands; ends = a.ends; near = omega arith })

-- ---- a loop over the elements of an array

module _ {A : Type 0} where
  pub take_more : (d : A) (l : List A) (i : ℕ) → i < length l → take (i + 1) l ≡ take i l ++ (get_or l i d ∷ [])
  take_more d l i h = rw (add-one i) (take-suc l i d h)

  pub take_table : (n : ℕ) (f : ℕ → A) (i : ℕ) → i ≤ n → take i (table n f) ≡ table i f
  unfolding table
  take_table zero f i h = let z : i ≡ 0 = omega arith in rw z
  take_table (suc n) f i h = elim (dec_lt n i) [
    | yes l ↦ let z : i ≡ suc n = omega arith in rw z (take_all (suc n) (table (suc n) f) (omega (arith, length_table (suc n) f)))
    | no l ↦ take-append-le i (table n f) (f n ∷ []) (omega (arith, length_table n f)) ∙ take_table n f i (omega arith)
  ]

  pub table_lesser : (f : ℕ → A) (count n most : ℕ) → n ≡ min count most → table n f ≡ take count (table most f)
  table_lesser f count n most e =
      sym (take_table most f n (omega arith)) ∙ take_lesser (table most f) count n most (length_table most f) e

  pub table_more : (f : ℕ → A) (k : ℕ) → table (k + 1) f ≡ table k f ++ (f k ∷ [])
  unfolding table
  table_more f k = rw (add-one k)

  pub each_none : (f : A → List ℕ) → each_of f [] ≡ []
  unfolding each_of
  each_none f = refl

  pub each_none_table : (f : A → List ℕ) (g : ℕ → A) → each_of f (table 0 g) ≡ []
  unfolding each_of table
  each_none_table f g = refl

  module _ (f : A → List ℕ) (i : ℕ) where
    pub each_take : (l : List A) (d : A) → i < length l → each_of f (take i l) ++ f (get_or l i d) ≡ each_of f (take (i + 1) l)
    each_take l d h = rw (add-one i, take-suc l i d h) (sym (each_more f (take i l) (get_or l i d)))

    pub each_table : (g : ℕ → A) → each_of f (table i g) ++ f (g i) ≡ each_of f (table (i + 1) g)
    each_table g = rw (table_more g i) (sym (each_more f (table i g) (g i)))

-- ---- the programs

pub programs_none : (counts : List ℕ) (g : ℕ → List Four) → program_fields counts (table 0 g) ≡ []
unfolding program_fields table
programs_none counts g = refl

programs_more : (counts : List ℕ) (ps : List (List Four)) (p : List Four)
    → program_fields counts (ps ++ (p ∷ [])) ≡ program_fields counts ps ++ (get_or counts (length ps) 0 ∷ each_of four_fields p)
unfolding program_fields
programs_more counts [] p = rw (append-nil (each_of four_fields p))
programs_more counts (q ∷ ps) p =
    let z : 1 + length ps ≡ suc (length ps) = omega arith in
    rw (programs_more (drop 1 counts) ps p, get_or-drop 1 counts (length ps) 0, z, append_assoc)

pub programs_table : (counts : List ℕ) (g : ℕ → List Four) (i : ℕ)
    → program_fields counts (table i g) ++ (get_or counts i 0 ∷ each_of four_fields (g i)) ≡ program_fields counts (table (i + 1) g)
programs_table counts g i = rw (table_more g i, programs_more counts (table i g) (g i), length_table i g)

-- ---- the whole

module _ (network : Network) where
  pub programs_are : (n : ℕ) → n ≡ min network.process_count 12 → table n (λ p. program_at network.actions (get_or network.action_counts p 0) p) ≡ (within network).programs
  unfolding within
  programs_are n e = table_lesser (λ p. program_at network.actions (get_or network.action_counts p 0) p) network.process_count n 12 e

  -- the parts of the file in order
  pub parts : {ps : List Process} {qs : List Pair} {cs : List Channel} {b₀ b₂ b₃ b₄ b₅ b₆ b₇ b₈ : List ℕ} {p₂ p₃ p₄ p₅ p₆ p₇ p₈ : ℕ}
      → ps ≡ (within network).processes → qs ≡ (within network).pairs → cs ≡ (within network).channels
      → length ps ≡ min network.process_count 12 → length qs ≡ min network.pair_count 66 → length cs ≡ min network.channel_count 16
      → Laid b₀ 0 (1 ∷ network.process_count ∷ []) 10 b₂ p₂
      → Laid b₂ p₂ (each_of process_fields ps) (20 * length ps) b₃ p₃
      → Laid b₃ p₃ (network.pair_count ∷ []) 5 b₄ p₄
      → Laid b₄ p₄ (each_of pair_fields qs) (10 * length qs) b₅ p₅
      → Laid b₅ p₅ (network.channel_count ∷ []) 5 b₆ p₆
      → Laid b₆ p₆ (each_of channel_fields cs) (20 * length cs) b₇ p₇
      → Laid b₇ p₇ (program_fields network.action_counts (within network).programs) 5820 b₈ p₈
      → Laid b₀ 0 (fields network) 7060 b₈ p₈
  unfolding fields
  parts p-is q-is c-is few₁ few₂ few₃ a c d e f g h = told (join a (join c (join d (join e (join f (join g h)))))) (rw (p-is, q-is, c-is)) (omega arith)

pub whole : (network : Network) (buffer last : List ℕ) (size : ℕ) → length buffer ≡ 7060 → Laid buffer 0 (fields network) 7060 last size → Encoded network size last
unfolding encode_network
whole network buffer last size room a =
    let e : size ≡ length (encode_network network) = omega (arith, a.ends) in
    let h : 0 + length (encode_network network) ≤ length buffer = omega (arith, a.near) in
    record {
      size_is = e;
      bytes = rw (a.stands, sets-eq (encode_network network) buffer 0 h) (take_at (encode_network network) _ size (sym e));
      most = omega (arith, a.near);
    }
