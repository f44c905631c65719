-- Samples in a table of words: after two words are put in, in words that follow one another, and that all samples make all words.
use Rattle.std.specs.Prelude.{ℕ, suc, ◌+◌, ◌*◌, ◌/◌, ◌%◌, ◌<◌, ◌≡◌, refl, ◌≢◌, List, [], ◌∷◌, ◌++◌, length, get_or, set, replicate}
use Rattle.std.proofs.Common.{sym, ap, ◌∙◌, add-one, arith, length-set, ext_get_or, get_or-set_same, get_or-set_other}
use Rattle.std.proofs.Math.Decide.{dec_lt}
use Rattle.std.proofs.lemmas.List.{length-replicate, get_or-replicate}
use Rattle.std.proofs.Math.ListN.{get_or-append, get_or-eq_default}
use Rattle.std.proofs.lemmas.List.Edits.{sets}
use Rattle.std.proofs.Math.Seq.{get_or-append_seam}
use Rattle.machine.specs.WholeJob.{blank}
use Rattle.machine.specs.Samples.{sample_at, sample_words}
use Rattle.machine.specs.declared.Sample.{Sample}

-- a list of equals, in range or not
pub get_or_same : {A : Type 0} (n i : ℕ) (a : A) → get_or (replicate n a) i a ≡ a
get_or_same n i a = elim (dec_lt i n) [
  | yes h ↦ get_or-replicate n i a a h
  | no h ↦ get_or-eq_default (replicate n a) a {n = i} (simp length-replicate (omega arith))
]

pub no_samples : (n k : ℕ) → sample_at (replicate n 0) k ≡ blank
unfolding sample_at
no_samples n k = rw (get_or_same {A = ℕ} n (2 * k) 0, get_or_same {A = ℕ} n (2 * k + 1) 0)

-- ---- two words put in

pub put_same : (l : List ℕ) (k : ℕ) (o : Sample) → 2 * k + 1 < length l → sample_at (sets l (2 * k) (sample_words o)) k ≡ o
unfolding sample_at
put_same l k o h = rw (
  add-one (2 * k),
  get_or-set_other (set l (2 * k) o.present) (suc (2 * k)) (2 * k) o.value 0 (omega arith),
  get_or-set_same l (2 * k) o.present 0 (omega arith),
  get_or-set_same (set l (2 * k) o.present) (suc (2 * k)) o.value 0 (simp length-set (omega arith)),
)

pub put_other : (l : List ℕ) (k : ℕ) (o : Sample) (i : ℕ) → i ≢ k → sample_at (sets l (2 * k) (sample_words o)) i ≡ sample_at l i
unfolding sample_at
put_other l k o i d =
    let a : 2 * i ≢ 2 * k = λ e. d (omega arith) in
    let b : 2 * i + 1 ≢ suc (2 * k) = λ e. d (omega arith) in
    rw (
      get_or-set_other (set l (2 * k) o.present) (suc (2 * k)) (2 * i) o.value 0 (omega arith),
      get_or-set_other l (2 * k) (2 * i) o.present 0 a,
      get_or-set_other (set l (2 * k) o.present) (suc (2 * k)) (2 * i + 1) o.value 0 b,
      get_or-set_other l (2 * k) (2 * i + 1) o.present 0 (omega arith),
    )

-- ---- words after words

pub sample_front : (l more : List ℕ) (k : ℕ) → 2 * k + 1 < length l → sample_at (l ++ more) k ≡ sample_at l k
unfolding sample_at
sample_front l more k h = rw (get_or-append l more 0 (2 * k) (omega arith), get_or-append l more 0 (2 * k + 1) h)

seam_next : (l : List ℕ) (x y : ℕ) → get_or (l ++ x ∷ y ∷ []) (suc (length l)) 0 ≡ y
seam_next [] x y = refl
seam_next (z ∷ l) x y = seam_next l x y

pub sample_seam : (l : List ℕ) (o : Sample) (n : ℕ) → length l ≡ 2 * n → sample_at (l ++ sample_words o) n ≡ o
unfolding sample_at
sample_seam l o n e = rw (
  sym e,
  get_or-append_seam l o.present (o.value ∷ []) 0,
  add-one (length l),
  seam_next l o.present o.value,
)

-- ---- all samples

pub samples_same : (n : ℕ) (l k : List ℕ) → length l ≡ 2 * n → length k ≡ 2 * n → ((i : ℕ) → i < n → sample_at l i ≡ sample_at k i) → l ≡ k
unfolding sample_at
samples_same n l k a b f = ext_get_or 0 l k (a ∙ sym b) (λ i h. elim (dec_lt (i % 2) 1) [
  | yes e ↦
      let z : i ≡ 2 * (i / 2) = omega arith in
      ap (λ x. get_or l x 0) z ∙ ap (λ o. o.present) (f (i / 2) (omega arith)) ∙ ap (λ x. get_or k x 0) (sym z)
  | no e ↦
      let z : i ≡ 2 * (i / 2) + 1 = omega arith in
      ap (λ x. get_or l x 0) z ∙ ap (λ o. o.value) (f (i / 2) (omega arith)) ∙ ap (λ x. get_or k x 0) (sym z)
])
