-- The frame, one process after another: its length is the least common multiple of the length without the last process and the last period.
use Prim.Native.Nat.{ℕ, zero, suc, ◌+◌, ◌%◌, ◌≤◌, ◌<◌}
use Rattle.std.specs.Prelude.{◌≡◌, refl, Bool, true, false, ◌&&◌, List, [], ◌∷◌, ◌++◌, length, take, eqb}
use Rattle.std.proofs.Common.{sym, ◌∙◌, mod-lt, mod-eq_of_lt, arith, length-take-le, get_or-take, take-suc, eqb-true, eq-eqb, ne_eqb}
use Rattle.std.proofs.Math.Path.{ap}
use Rattle.std.proofs.Math.Decide.{dec_lt, ℕ_discrete}
use Rattle.std.proofs.Math.Nat.{zero-mod, mod-mod_of_dvd, dvd_of_mod-eq-zero}
use Rattle.std.proofs.Math.Dec.{leb}
use Rattle.reply.specs.Tools.{sum, first_from}
use Rattle.reply.specs.Tests.{split, same_test}
use Rattle.reply.specs.Counts.{sum_same}
use Rattle.reply.specs.First.{First, first_from_is, first_only}
use Rattle.network.specs.Lists.{every}
use Rattle.network.specs.ListLaws.{every_true, every_make}
use Rattle.network.specs.Frame.{no_process, process_at, divides, frame_length, jobs_of, job_count, fits_frame}
use Rattle.network.specs.declared.Process.{Process}

-- both divide h
abbrev pub shared : ℕ → ℕ → ℕ → Bool
shared a b h = eqb (h % a) 0 && eqb (h % b) 0

-- the least number from 1 to 2000 that both divide; 2001 if there is none
unfoldable pub common_multiple : ℕ → ℕ → ℕ
common_multiple a b = first_from 2000 1 (shared a b)

-- ---- the first that passes

-- tests that agree have the same first
pub first_same : (tries at : ℕ) (q r : ℕ → Bool) → ((i : ℕ) → at ≤ i → i < at + tries → q i ≡ r i) → first_from tries at q ≡ first_from tries at r
unfolding first_from
first_same zero at q r f = refl
first_same (suc tries) at q r f =
    rw (f at (omega arith) (omega arith), first_same tries (suc at) q r (λ i h l. f i (omega arith) (omega arith)))

pub common_is : (a b k : ℕ) → First (shared a b) 1 2001 k → k ≡ common_multiple a b
unfolding common_multiple
common_is a b k f = first_only (shared a b) 1 2001 k (first_from 2000 1 (shared a b)) f (first_from_is 2000 1 (shared a b))

pub common_either_way : (a b : ℕ) → common_multiple a b ≡ common_multiple b a
unfolding common_multiple
common_either_way a b = first_same 2000 1 (shared a b) (shared b a) (λ i h l. swap (eqb (i % a) 0) (eqb (i % b) 0))
  where
    swap : (s t : Bool) → (s && t) ≡ (t && s)
    swap true true = refl
    swap true false = refl
    swap false true = refl
    swap false false = refl

-- ---- the frame

every_more : {A : Type 0} (q : A → Bool) (l : List A) (x : A) → every q (l ++ (x ∷ [])) ≡ (every q l && q x)
unfolding every
every_more q [] x = split (q x) (λ t. rw t) (λ t. rw t)
every_more q (y ∷ l) x = split (q y) (λ t. rw (t, every_more q l x)) (λ t. rw t)

frame_first : (l : List Process) → First (λ h. every (divides h) l) 1 2001 (frame_length l)
unfolding frame_length
frame_first l = first_from_is 2000 1 (λ h. every (divides h) l)

pub frame_none : frame_length [] ≡ 1
frame_none = first_only (λ h. every (divides h) []) 1 2001 (frame_length []) 1 (frame_first [])
    (record { from = omega arith; to = omega arith; before = λ i h l. absurd (omega arith); passes = λ h. every_make (divides 1) [] no_process (λ i l. absurd (omega arith)) })

module _ (l : List Process) where
  -- the rest of h by the frame, and h itself: the same periods divide both
  rest_same : (h : ℕ) → frame_length l ≤ 2000 → every (divides (h % frame_length l)) l ≡ every (divides h) l
  rest_same h s = same_test (every (divides (h % frame_length l)) l) (every (divides h) l)
      (λ t. every_make (divides h) l no_process (λ i b. sym (at i b) ∙ every_true (divides (h % frame_length l)) l no_process t i b))
      (λ t. every_make (divides (h % frame_length l)) l no_process (λ i b. at i b ∙ every_true (divides h) l no_process t i b))
    where
      at : (i : ℕ) → i < length l → divides (h % frame_length l) (process_at l i) ≡ divides h (process_at l i)
      at i b =
          let t : divides (frame_length l) (process_at l i) ≡ true = every_true (divides (frame_length l)) l no_process ((frame_first l).passes (omega arith)) i b in
          ap (λ (x : ℕ). eqb x 0)
          (mod-mod_of_dvd (process_at l i).period h (dvd_of_mod-eq-zero (process_at l i).period (eqb-true (frame_length l % (process_at l i).period) 0 t)))

  all_divide_zero : every (divides 0) l ≡ true
  all_divide_zero = every_make (divides 0) l no_process (λ i b. eq-eqb (0 % (process_at l i).period) 0 (zero-mod (process_at l i).period))

  -- the common multiples of the periods are the multiples of the frame
  pub frame_divides : (h : ℕ) → 1 ≤ h → h ≤ 2000 → every (divides h) l ≡ eqb (h % frame_length l) 0
  frame_divides h b t = elim (dec_lt 2000 (frame_length l)) [
    | yes s ↦
        (frame_first l).before h b (omega arith)
        ∙ sym (ne_eqb (h % frame_length l) 0 (λ e. omega (arith, mod-eq_of_lt {n = h} {m = frame_length l} (omega arith))))
    | no s ↦ elim (ℕ_discrete (h % frame_length l) 0) [
      | yes e ↦ sym (rest_same h (omega arith)) ∙ ap (λ (x : ℕ). every (divides x) l) e ∙ all_divide_zero ∙ sym (eq-eqb (h % frame_length l) 0 e)
      | no e ↦
          sym (rest_same h (omega arith)) ∙ (frame_first l).before (h % frame_length l) (omega arith) (mod-lt h {m = frame_length l} (omega (arith, (frame_first l).from)))
          ∙ sym (ne_eqb (h % frame_length l) 0 e)
    ]
  ]

  pub frame_more : (p : Process) → frame_length (l ++ (p ∷ [])) ≡ common_multiple (frame_length l) p.period
  unfolding frame_length common_multiple
  frame_more p = first_same 2000 1 (λ h. every (divides h) (l ++ (p ∷ []))) (shared (frame_length l) p.period)
      (λ h b t. every_more (divides h) l p ∙ ap (λ (x : Bool). x && divides h p) (frame_divides h b (omega arith)))

-- ---- the processes of an array, the first so many of them

module _ (processes : List Process) where
  pub frame_next : (i : ℕ) → i < length processes → frame_length (take (suc i) processes) ≡ common_multiple (frame_length (take i processes)) (process_at processes i).period
  frame_next i h = ap frame_length (take-suc processes i no_process h) ∙ frame_more (take i processes) (process_at processes i)

  pub jobs_are : (count : ℕ) → count ≤ length processes
      → job_count (take count processes) ≡ sum count (λ k. jobs_of (frame_length (take count processes)) (process_at processes k))
  unfolding job_count
  jobs_are count h =
      let f : ℕ = frame_length (take count processes) in
      ap (λ (n : ℕ). sum n (λ k. jobs_of f (process_at (take count processes) k))) (length-take-le count processes h)
      ∙ sum_same count (λ k. jobs_of f (process_at (take count processes) k)) (λ k. jobs_of f (process_at processes k))
      (λ k l. ap (λ (p : Process). jobs_of f p) (get_or-take count processes k no_process l))

  pub fits_is : (count : ℕ) → count ≤ length processes
      → fits_frame (take count processes)
      ≡ (leb (frame_length (take count processes)) 2000 && leb (sum count (λ k. jobs_of (frame_length (take count processes)) (process_at processes k))) 128)
  unfolding fits_frame
  fits_is count h = ap (λ (n : ℕ). leb (frame_length (take count processes)) 2000 && leb n 128) (jobs_are count h)
