-- What is read as a number is exactly the encoding of its value: so each number has one form. Where a number ends; and which refusals there are.
use Rattle.std.specs.Prelude.{◌≡◌, refl, ◌⊎◌, length, drop, ltb, leb, eqb}
use Rattle.std.proofs.Common.{sym, ap, ◌∙◌, ⊎_elim, length-drop, drop-drop, lt-ltb, le-ltb, leb-true}
use Rattle.std.proofs.Math.Logic.{inl, inr}
use mathlib.Core.List.{List, [], ◌∷◌, ◌++◌, append-nil}
use Prim.Native.Nat.{ℕ, zero, suc, ◌+◌, ◌*◌, ◌/◌, ◌%◌, ◌^◌, ◌≤◌, ◌<◌}
use Rattle.std.proofs.Math.Nat.{pow-succ', one-le-pow}
use Rattle.std.proofs.Math.Decide.{dec_lt}
use native.Mathlib.Omega.{arith}
use Rattle.std.proofs.Math.Seq.{drop-append_seam, drop-length, get_or-drop}
use Rattle.std.proofs.lemmas.Bool.{eqb-false}
use Rattle.reply.specs.Tests.{split}
use Rattle.reply.specs.Result.{Result, done, refused}
use Rattle.reply.specs.ResultLaws.{accepted, refused_not, Honest, honest_done, honest_refused}
use Rattle.reply.specs.declared.Reply.TheVariants.{FileEnds, MalformedNumber}
use Rattle.number.specs.Parts.{Part, part}
use Rattle.number.specs.PartLaws.{same_part}
use Rattle.number.specs.Number.{plus, group, fifth, nonzero, rest_from, number_from, number_at}
use Rattle.number.specs.Encode.{groups, encode}
use Rattle.number.specs.Groups.{groups_last, groups_more, groups_fifth}
use Rattle.number.specs.Encoded.{number_back}
use Rattle.number.specs.Stands.{Stands, Bytes}

-- ---- the cases of a number that is read

plus_value : (low weight : ℕ) (r : Result (Part ℕ)) {n next : ℕ} → plus low weight r ≡ part n next → (v : ℕ) × (r ≡ part v next) × (n ≡ low + weight * v)
plus_value low weight r e =
    accepted r _ _ e λ p is f.
    same_part (record { it = low + weight * p.it; next = p.next }) _ (λ n next. (v : ℕ) × (r ≡ part v next) × (n ≡ low + weight * v)) f (p.it, is, refl)

nonzero_value : (start b : ℕ) (r : Result (Part ℕ)) {n next : ℕ} → nonzero start b r ≡ part n next → (0 < b) × (r ≡ part n next)
nonzero_value start b r e = split (eqb b 0) (λ t. refused_not (rw t at e)) (λ t. (omega (arith, eqb-false b 0 t), rw t at e))

fifth_value : (start b at : ℕ) {n next : ℕ} → fifth start b at ≡ part n next → (b ≤ 15) × (b ≡ n) × (at + 1 ≡ next)
fifth_value start b at e = split (leb b 15)
    (λ t. same_part (record { it = b; next = at + 1 }) _ (λ n next. (b ≤ 15) × (b ≡ n) × (at + 1 ≡ next)) (rw t at e) (leb-true b 15 t, refl, refl))
    (λ t. refused_not (rw t at e))

-- the bytes from `at` on begin with the groups of n, of which `more` follow the first at most
record Begins (more : ℕ) (bytes : List ℕ) (at n next : ℕ) : Type 0 where
  ends : next ≡ at + length (groups more n)
  tail : List ℕ
  begins : bytes ≡ groups more n ++ tail

record Reads (more : ℕ) (bytes : List ℕ) (at n next : ℕ) : Type 0 where
  small : n < 16 * 128 ^ more
  past : at < next
  within : next ≤ at + length bytes
  exact : Bytes bytes → Begins more bytes at n next

module _ (start : ℕ) where
  group_reads : (b : ℕ) (bytes : List ℕ) (at more n next : ℕ)
      → ((v : ℕ) → rest_from start more bytes (at + 1) ≡ part v next → (0 < v) × Reads more bytes (at + 1) v next)
      → group b at (rest_from start more bytes (at + 1)) ≡ part n next → (b ≤ n ⊎ 128 ≤ n) × Reads (suc more) (b ∷ bytes) at n next
  group_reads b bytes at more n next ih e = elim (dec_lt b 128) [ yes l ↦ last l | no l ↦ further (omega arith) ]
    where
      large : 1 ≤ 128 ^ more
      large = one-le-pow more 128 (omega arith)

      last : b < 128 → (b ≤ n ⊎ 128 ≤ n) × Reads (suc more) (b ∷ bytes) at n next
      last l = same_part (record { it = b; next = at + 1 }) _ (λ n next. (b ≤ n ⊎ 128 ≤ n) × Reads (suc more) (b ∷ bytes) at n next) (rw (lt-ltb b 128 l) at e) (
        inl (omega arith),
        record {
          small = omega (arith, pow-succ' 128 more, large);
          past = omega arith;
          within = omega arith;
          exact = λ byte. record { ends = rw (groups_last (suc more) b l); tail = bytes; begins = rw (groups_last (suc more) b l) };
        },
      )

      further : 128 ≤ b → (b ≤ n ⊎ 128 ≤ n) × Reads (suc more) (b ∷ bytes) at n next
      further l =
          let (v, r, sum) = plus_value (b % 128) 128 (rest_from start more bytes (at + 1)) (rw (le-ltb b 128 l) at e) in
          let (positive, is) = ih v r in
          let some : groups (suc more) n ≡ (128 + n % 128) ∷ groups more (n / 128) = groups_more more n (omega arith) in
          let high : n / 128 ≡ v = omega arith in (
            inr (omega arith),
            record {
              small = omega (arith, pow-succ' 128 more, is.small);
              past = omega (arith, is.past);
              within = omega (arith, is.within);
              exact = λ byte.
                  let rest = is.exact (λ i. byte (suc i)) in
                  let low : 128 + n % 128 ≡ b = omega (arith, byte 0) in
                  record {
                    ends = rw (some, high) (omega (arith, rest.ends));
                    tail = rest.tail;
                    begins = rw (some, high, low, ← rest.begins);
                  };
            },
          )

  rest_reads : (more : ℕ) (bytes : List ℕ) (at n next : ℕ) → rest_from start more bytes at ≡ part n next → (0 < n) × Reads more bytes at n next
  unfolding rest_from
  rest_reads more [] at n next e = refused_not e
  rest_reads zero (b ∷ bytes) at n next e =
      let (positive, e') = nonzero_value start b (fifth start b at) e in
      let (low, value, after) = fifth_value start b at e' in (
        omega arith,
        record {
          small = omega arith;
          past = omega arith;
          within = omega arith;
          exact = λ byte. record { ends = rw (groups_fifth n) (sym after); tail = bytes; begins = rw (groups_fifth n, value) };
        },
      )
  rest_reads (suc more) (b ∷ bytes) at n next e =
      let (positive, e') = nonzero_value start b (group b at (rest_from start more bytes (at + 1))) e in
      let (large, is) = group_reads b bytes at more n next (λ v. rest_reads more bytes (at + 1) v next) e' in
      (⊎_elim (λ l. omega arith) (λ l. omega arith) large, is)

number_reads : (bytes : List ℕ) (at n next : ℕ) → number_from bytes at ≡ part n next → Reads 4 bytes at n next
unfolding number_from
number_reads [] at n next e = refused_not e
number_reads (b ∷ bytes) at n next e = (group_reads at b bytes at 3 n next (λ v. rest_reads at 3 bytes (at + 1) v next) e).1

-- ---- the laws

begins_stand : (file : List ℕ) (at : ℕ) {more n next : ℕ} → Begins more (drop at file) at n next → Stands file at (groups more n) next
begins_stand file at {more} {n} {next} is =
    let rest : drop next file ≡ is.tail =
    ap (λ (k : ℕ). drop k file) is.ends ∙ sym (drop-drop (length (groups more n)) at file) ∙ ap (drop (length (groups more n))) is.begins ∙ drop-append_seam (groups more n) is.tail in
    record { ends = is.ends; begins = is.begins ∙ rw rest }

module _ (file : List ℕ) (at n next : ℕ) where
  reads : number_at file at ≡ part n next → Reads 4 (drop at file) at n next
  unfolding number_at
  reads e = number_reads (drop at file) at n next e

  pub read_small : number_at file at ≡ part n next → n < 2 ^ 32
  read_small e = (reads e).small

  -- a read ends past its start, and within the file
  pub read_within : number_at file at ≡ part n next → (at < next) × (next ≤ length file)
  read_within e = omega (arith, (reads e).past, (reads e).within, length-drop at file)

  -- what was read is the encoding of its value
  pub read_stands : number_at file at ≡ part n next → Bytes file → Stands file at (encode n) next
  unfolding encode
  read_stands e byte = begins_stand file at ((reads e).exact (λ i. rw get_or-drop (byte (at + i))))

  -- what was encoded reads back, at any offset, with anything after it
  pub stands_reads : Stands file at (encode n) next → n < 2 ^ 32 → number_at file at ≡ part n next
  unfolding number_at
  stands_reads s small = rw (s.begins, number_back n (drop next file) at small, ← s.ends)

-- bytes that are a number and nothing more are its encoding
pub one_form : (bytes : List ℕ) (n : ℕ) → Bytes bytes → number_at bytes 0 ≡ part n (length bytes) → bytes ≡ encode n
one_form bytes n byte e = (read_stands bytes 0 n (length bytes) e byte).begins ∙ rw (drop-length bytes) (append-nil (encode n))

-- ---- refusals

-- by reply 1 or 2, at the number's start
abbrev pub Refusal : ℕ → Result (Part ℕ) → Type 0
Refusal start (done p) = Unit {0}
Refusal start (refused reply place) = (place ≡ start) × ((reply ≡ FileEnds) ⊎ (reply ≡ MalformedNumber))

module _ (start : ℕ) where
  group_refusal : (b at : ℕ) (rest : Result (Part ℕ)) → Refusal start rest → Refusal start (group b at rest)
  group_refusal b at rest h = split (ltb b 128) (λ t. rw t tt) (λ t. rw t (further rest h))
    where
      further : (r : Result (Part ℕ)) → Refusal start r → Refusal start (plus (b % 128) 128 r)
      further (done p) h = tt
      further (refused reply place) h = h

  nonzero_refusal : (b : ℕ) (r : Result (Part ℕ)) → Refusal start r → Refusal start (nonzero start b r)
  nonzero_refusal b r h = split (eqb b 0) (λ t. rw t (refl, inr refl)) (λ t. rw t h)

  rest_refusal : (more : ℕ) (bytes : List ℕ) (at : ℕ) → Refusal start (rest_from start more bytes at)
  unfolding rest_from
  rest_refusal more [] at = (refl, inl refl)
  rest_refusal zero (b ∷ bytes) at = nonzero_refusal b (fifth start b at) (split (leb b 15) (λ t. rw t tt) (λ t. rw t (refl, inr refl)))
  rest_refusal (suc more) (b ∷ bytes) at = nonzero_refusal b (group b at (rest_from start more bytes (at + 1))) (group_refusal b at (rest_from start more bytes (at + 1)) (rest_refusal more bytes (at + 1)))

pub number_refusal : (file : List ℕ) (at : ℕ) → Refusal at (number_at file at)
unfolding number_at number_from
number_refusal file at = go (drop at file)
  where
    go : (bytes : List ℕ) → Refusal at (number_from bytes at)
    go [] = (refl, inl refl)
    go (b ∷ bytes) = group_refusal at b at (rest_from at 3 bytes (at + 1)) (rest_refusal at 3 bytes (at + 1))

pub number_honest : (file : List ℕ) (at : ℕ) → Honest (number_at file at)
number_honest file at = go (number_at file at) (number_refusal file at)
  where
    go : (r : Result (Part ℕ)) → Refusal at r → Honest r
    go (done p) h = honest_done p
    go (refused reply place) (same, inl e) = rw e (honest_refused FileEnds place (omega arith))
    go (refused reply place) (same, inr e) = rw e (honest_refused MalformedNumber place (omega arith))
