-- Laws of results: what it says that steps are done, or refused, one after another.
use Prim.Native.Nat.{ℕ, zero, suc, ◌+◌, ◌-◌, ◌<◌}
use Rattle.std.specs.Prelude.{◌≡◌, Bool, true, false}
use Rattle.std.proofs.Math.Path.{refl}
use Rattle.std.proofs.Common.{sym, ap, ◌∙◌}
use native.Mathlib.Omega.{arith}
use Rattle.reply.specs.AllAny.{below_suc}
use Rattle.reply.specs.Reply.{reply_number}
use Rattle.reply.specs.Result.{Result, done, refused, and_then, require, in_order, answer_of}
use Rattle.reply.specs.declared.Reply.{Reply}
use Rattle.reply.specs.declared.Reply.TheVariants.{Done}

-- ---- done and refused

pub done_same : {A : Type 0} {a b : A} → done a ≡ done b → a ≡ b
done_same e = cc

pub refused_not : {A B : Type 0} {a : A} {reply : Reply} {place : ℕ} → refused reply place ≡ done a → B
refused_not e = let z : ◌≡◌ {A = ℕ} 0 1 = cc in absurd (omega arith)

-- two steps are done: so was the first, and then the second
pub accepted : {A B P : Type 0} (r : Result A) (next : A → Result B) (b : B)
    → and_then r next ≡ done b → ((a : A) → r ≡ done a → next a ≡ done b → P) → P
accepted (done a) next b e k = k a refl e
accepted (refused reply place) next b e k = refused_not e

pub required : {B P : Type 0} (test : Bool) (reply : Reply) (place : ℕ) (next : Unit {0} → Result B) (b : B)
    → and_then (require test reply place) next ≡ done b → (test ≡ true → next tt ≡ done b → P) → P
required true reply place next b e k = k refl e
required false reply place next b e k = refused_not e

pub require_done : (test : Bool) (reply : Reply) (place : ℕ) {u : Unit {0}} → require test reply place ≡ done u → test ≡ true
require_done true reply place e = refl
require_done false reply place e = refused_not e

-- ---- one after another

module _ (judge : ℕ → Result (Unit {0})) where
  pub order_zero : in_order 0 judge ≡ done tt
  unfolding in_order
  order_zero = refl

  pub order_more : (i : ℕ) → in_order i judge ≡ done tt → in_order (suc i) judge ≡ judge i
  unfolding in_order
  order_more i e = rw e

  order_stays : (i k : ℕ) (reply : Reply) (place : ℕ) → in_order i judge ≡ refused reply place → in_order (i + k) judge ≡ refused reply place
  unfolding in_order
  order_stays i zero reply place e = let z : i + 0 ≡ i = omega arith in rw z e
  order_stays i (suc k) reply place e = let z : i + suc k ≡ suc (i + k) = omega arith in rw (z, order_stays i k reply place e)

  -- the first that refuses refuses for all
  pub order_refused : (i n : ℕ) (reply : Reply) (place : ℕ) → i < n → in_order i judge ≡ done tt → judge i ≡ refused reply place → in_order n judge ≡ refused reply place
  order_refused i n reply place h d r =
      let z : suc i + (n - suc i) ≡ n = omega arith in
      rw z at (order_stays (suc i) (n - suc i) reply place (order_more i d ∙ r))

  pub order_done : (n : ℕ) → in_order n judge ≡ done tt → (i : ℕ) → i < n → judge i ≡ done tt
  unfolding in_order
  order_done zero e i h = absurd (omega arith)
  order_done (suc n) e i h =
      accepted (in_order n judge) (λ ok. judge n) tt e λ ok d f.
      below_suc n (λ k. judge k ≡ done tt) f (order_done n d) i h

  pub order_make : (n : ℕ) → ((i : ℕ) → i < n → judge i ≡ done tt) → in_order n judge ≡ done tt
  unfolding in_order
  order_make zero f = refl
  order_make (suc n) f = rw (order_make n (λ i h. f i (omega arith)), f n (omega arith))

-- ---- no refusal says "done"

pub record Honest {A : Type 0} (r : Result A) : Type 0 where
  pub above : (reply : Reply) (place : ℕ) → r ≡ refused reply place → 0 < reply_number reply

refused_same : {A : Type 0} {r s : Reply} {p q : ℕ} → ◌≡◌ {A = Result A} (refused r p) (refused s q) → r ≡ s
refused_same e = cc

pub honest_done : {A : Type 0} (a : A) → Honest (done a)
honest_done a = record { above = λ reply place e. refused_not (sym e) }

pub honest_refused : {A : Type 0} (reply : Reply) (place : ℕ) → 0 < reply_number reply → Honest {A = A} (refused reply place)
honest_refused reply place h = record { above = λ reply' place' e. rw (refused_same e) at h }

pub honest_then : {A B : Type 0} (r : Result A) (next : A → Result B) → Honest r → ((a : A) → Honest (next a)) → Honest (and_then r next)
honest_then (done a) next h k = k a
honest_then (refused reply place) next h k = honest_refused reply place (h.above reply place refl)

pub honest_require : (test : Bool) (reply : Reply) (place : ℕ) → 0 < reply_number reply → Honest (require test reply place)
honest_require true reply place h = honest_done tt
honest_require false reply place h = honest_refused reply place h

pub honest_order : (n : ℕ) (judge : ℕ → Result (Unit {0})) → ((i : ℕ) → i < n → Honest (judge i)) → Honest (in_order n judge)
unfolding in_order
honest_order zero judge h = honest_done tt
honest_order (suc n) judge h = honest_then (in_order n judge) (λ ok. judge n) (honest_order n judge (λ i l. h i (omega arith))) (λ ok. h n (omega arith))

-- a caller that sees reply 0 has what the call gives
pub zero_means : {A P : Type 0} (r : Result A) → Honest r → reply_number (answer_of r).reply ≡ 0 → ((a : A) → r ≡ done a → P) → P
zero_means (done a) h e k = k a refl
zero_means (refused reply place) h e k = absurd (omega (arith, h.above reply place refl))

pub done_means : {A P : Type 0} (r : Result A) → Honest r → (answer_of r).reply ≡ Done → ((a : A) → r ≡ done a → P) → P
done_means r h e k = zero_means r h (ap reply_number e) k

-- and one that sees another reply has a refusal
pub other_means : {A P : Type 0} (r : Result A) → (reply_number (answer_of r).reply ≡ 0 → ⊥) → ((reply : Reply) (place : ℕ) → r ≡ refused reply place → P) → P
other_means (done a) n k = absurd (n refl)
other_means (refused reply place) n k = k reply place refl

-- of judges in order, the first that refuses
pub record Refusal (judge : ℕ → Result (Unit {0})) (n : ℕ) (reply : Reply) (place : ℕ) : Type 0 where
  pub at : ℕ
  pub below : at < n
  pub before : in_order at judge ≡ done tt
  pub refuses : judge at ≡ refused reply place

pub refusal_of : (n : ℕ) (judge : ℕ → Result (Unit {0})) (reply : Reply) (place : ℕ) → in_order n judge ≡ refused reply place → Refusal judge n reply place
unfolding in_order
refusal_of zero judge reply place e = refused_not (sym e)
refusal_of (suc n) judge reply place e = go (in_order n judge) refl e (refusal_of n judge reply place)
  where
    go : (r : Result (Unit {0})) → in_order n judge ≡ r → and_then r (λ ok. judge n) ≡ refused reply place
        → (in_order n judge ≡ refused reply place → Refusal judge n reply place) → Refusal judge (suc n) reply place
    go (done tt) d e ih = record { at = n; below = omega arith; before = d; refuses = e }
    go (refused r p) d e ih =
        let R : Refusal judge n reply place = ih (d ∙ e) in
        record { at = R.at; below = omega arith; before = R.before; refuses = R.refuses }

-- judges that say the same one by one say the same in order
pub order_same : (n : ℕ) (f g : ℕ → Result (Unit {0})) → ((i : ℕ) → i < n → f i ≡ g i) → in_order n f ≡ in_order n g
unfolding in_order
order_same zero f g e = refl
order_same (suc n) f g e = rw (order_same n f g (λ i h. e i (omega arith)), e n (omega arith))
