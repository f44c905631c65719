-- How often a process is released: once in each of the frame's periods; and a release is a whole period before the frame's end.
use Prim.Native.Nat.{ℕ, zero, suc, ◌+◌, ◌-◌, ◌*◌, ◌/◌, ◌%◌, ◌≤◌, ◌<◌}
use Rattle.std.specs.Prelude.{◌≡◌, Bool, false, eqb, length, get_or}
use Rattle.std.proofs.Math.Path.{refl}
use Rattle.std.proofs.Common.{subst, ◌∙◌, mod-eq_of_lt, div-add-mod', mul-le-mul_right, suc-mul, arith, eq-eqb, ne_eqb}
use Rattle.std.proofs.Math.Bool.{cond}
use mathlib.Core.List.{List, [], ◌∷◌}
use Rattle.std.proofs.Math.Decide.{dec_lt}
use Rattle.std.proofs.Math.Nat.{mul-add-mod_self_right, mul-mod_left}
use Rattle.std.proofs.Math.ListN.{length-map}
use Rattle.reply.specs.Tools.{count, sum}
use Rattle.reply.specs.Tests.{split}
use Rattle.reply.specs.Counts.{count_zero, count_suc, sum_same}
use Rattle.network.specs.Frame.{no_process, process_at}
use Rattle.network.specs.declared.Process.{Process}
use Rattle.graph.specs.Sequence.{released_at, released_now, pending_count}

-- ---- multiples of a period

module _ (T : ℕ) (pos : 1 ≤ T) where
  abbrev multiple : ℕ → Bool
  multiple t = eqb (t % T) 0

  count_row : (k r : ℕ) → r < T → count (k * T + suc r) multiple ≡ count (k * T) multiple + 1
  count_row k zero h =
      let z : k * T + suc zero ≡ suc (k * T) = omega arith in
      rw z (count_suc (k * T) multiple ∙ rw (eq-eqb (k * T % T) 0 (mul-mod_left k T)))
  count_row k (suc r) h =
      let m : (k * T + suc r) % T ≡ suc r = mul-add-mod_self_right k T (suc r) ∙ mod-eq_of_lt h in
      let t : eqb ((k * T + suc r) % T) 0 ≡ false = ne_eqb ((k * T + suc r) % T) 0 (λ e. omega arith) in
      let z : k * T + suc (suc r) ≡ suc (k * T + suc r) = omega arith in
      rw z (count_suc (k * T + suc r) multiple ∙ rw t (omega (arith, count_row k r (omega arith))))

  count_multiples : (k : ℕ) → count (k * T) multiple ≡ k
  count_multiples zero = let z : 0 * T ≡ 0 = omega arith in rw z (count_zero multiple)
  count_multiples (suc k) =
      let z : suc k * T ≡ k * T + suc (T - 1) = omega (arith, suc-mul k T) in
      rw z (omega (arith, count_row k (T - 1) (omega arith), count_multiples k))

  -- the multiples of T below h, which is one itself
  pub count_divided : (h : ℕ) → h % T ≡ 0 → count h (λ t. eqb (t % T) 0) ≡ h / T
  count_divided h e =
      let z : h / T * T ≡ h = omega (arith, div-add-mod' h T) in
      subst (λ x. count x (λ t. eqb (t % T) 0) ≡ h / T) z (count_multiples (h / T))

  -- a multiple of T before another is T or more before it
  pub next_multiple : (t h : ℕ) → t % T ≡ 0 → h % T ≡ 0 → t < h → t + T ≤ h
  next_multiple t h e f l =
      let a : t / T * T ≡ t = omega (arith, div-add-mod' t T) in
      let b : h / T * T ≡ h = omega (arith, div-add-mod' h T) in
      elim (dec_lt (t / T) (h / T)) [
        | yes k ↦ omega (arith, mul-le-mul_right T k, suc-mul (t / T) T)
        | no k ↦ let k' : h / T ≤ t / T = omega arith in absurd (omega (arith, mul-le-mul_right T k'))
      ]

-- ---- what is released at a time

-- how many jobs process p releases at a time: its burst, or none
abbrev pub releases : List Process → ℕ → ℕ → ℕ
releases processes time p = cond (released_at (process_at processes p) time) (process_at processes p).burst 0

module _ (time : ℕ) where
  pub released_now_lem : (processes : List Process) (p : ℕ) → get_or (released_now processes time) p 0 ≡ releases processes time p
  unfolding released_now
  released_now_lem [] p = split (released_at no_process time) (λ t. rw t) (λ t. rw t)
  released_now_lem (x ∷ l) zero = refl
  released_now_lem (x ∷ l) (suc p) = released_now_lem l p

  pub released_size : (processes : List Process) → length (released_now processes time) ≡ length processes
  unfolding released_now
  released_size processes = length-map processes (λ p. cond (released_at p time) p.burst 0)

  -- in all
  pub released_count : (processes : List Process) → pending_count (released_now processes time) ≡ sum (length processes) (releases processes time)
  released_count processes = rw (released_size processes) (sum_same (length processes) _ (releases processes time) (λ p h. released_now_lem processes p))
