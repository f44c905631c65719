-- An action that the reader accepts, and an action in plain words, are one thing.
use Rattle.std.specs.Prelude.{ℕ, ◌+◌, ◌≤◌, ◌<◌, ◌^◌, ◌≡◌, Bool, true, ◌&&◌, List, length, get_or, ltb, leb, eqb}
use Rattle.std.proofs.Math.Path.{refl}
use Rattle.std.proofs.Common.{sym, subst, arith}
use Rattle.std.proofs.Math.Decide.{ℕ_discrete}
use borrow.Author.Tests.{lt-ltb, ltb-true, le-leb, leb-true, eq-eqb, eqb-true}
use Rattle.reply.specs.Tests.{split, clash, both}
use Rattle.network.specs.Net.{no_channel}
use Rattle.network.specs.Read.{is_var, is_zero, is_read, is_written, is_skip, good_action}
use Rattle.network.specs.Valid.{GoodAction}
use Rattle.network.specs.declared.Channel.{Channel}
use Rattle.network.specs.declared.Four.{Four}

-- four numbers of 32 bits
pub record Small (f : Four) : Type 0 where
  pub head : f.head < 2 ^ 32
  pub a : f.a < 2 ^ 32
  pub b : f.b < 2 ^ 32
  pub c : f.c < 2 ^ 32

-- by the eight actions
pub eight : {P : Type 0} (head : ℕ) → head < 8
    → (head ≡ 0 → P) → (head ≡ 1 → P) → (head ≡ 2 → P) → (head ≡ 3 → P) → (head ≡ 4 → P) → (head ≡ 5 → P) → (head ≡ 6 → P) → (head ≡ 7 → P) → P
eight {P} head known set add subtract read write input output skip =
    by 0 (omega arith) set λ l₁. by 1 l₁ add λ l₂. by 2 l₂ subtract λ l₃. by 3 l₃ read λ l₄.
    by 4 l₄ write λ l₅. by 5 l₅ input λ l₆. by 6 l₆ output λ l₇. by 7 l₇ skip λ l₈. absurd (omega arith)
  where
    by : (m : ℕ) → m ≤ head → (head ≡ m → P) → (m + 1 ≤ head → P) → P
    by m l y z = elim (ℕ_discrete head m) [ yes e ↦ y e | no d ↦ z (omega arith) ]

both3 : (t u v : Bool) → (t && (u && v)) ≡ true → (t ≡ true) × (u ≡ true) × (v ≡ true)
both3 t u v e = let (x, y) = both t (u && v) e in let (y₁, y₂) = both u v y in (x, y₁, y₂)

module _ (channels : List Channel) (p n k : ℕ) (head a b c : ℕ) where
  abbrev four : ℕ → Four
  four h = record { head = h; a = a; b = b; c = c }

  -- ---- accepted, so good

  module _ (g : good_action channels p n k (four head) ≡ true) where
    at_head : (h : ℕ) → head ≡ h → good_action channels p n k (four h) ≡ true
    at_head h e = subst (λ (h : ℕ). good_action channels p n k (four h) ≡ true) e g

    known_true : head < 8
    unfolding good_action
    known_true =
        split (eqb head 0) (λ e. omega (arith, eqb-true head 0 e)) λ e₀. split (eqb head 1) (λ e. omega (arith, eqb-true head 1 e)) λ e₁.
        split (eqb head 2) (λ e. omega (arith, eqb-true head 2 e)) λ e₂. split (eqb head 3) (λ e. omega (arith, eqb-true head 3 e)) λ e₃.
        split (eqb head 4) (λ e. omega (arith, eqb-true head 4 e)) λ e₄. split (eqb head 5) (λ e. omega (arith, eqb-true head 5 e)) λ e₅.
        split (eqb head 6) (λ e. omega (arith, eqb-true head 6 e)) λ e₆. split (eqb head 7) (λ e. omega (arith, eqb-true head 7 e)) λ e₇.
        clash (rw (e₀, e₁, e₂, e₃, e₄, e₅, e₆, e₇) at g) refl

    made_good : b < 2 ^ 32 → GoodAction channels p n k (four head)
    unfolding good_action
    made_good small = record {
      known = known_true;
      set = λ e. let (x, y) = both (is_var a) (is_zero c) (at_head 0 e) in (ltb-true a 8 x, eqb-true c 0 y);
      add = λ e. let (x, y, z) = both3 (is_var a) (is_var b) (is_var c) (at_head 1 e) in (ltb-true a 8 x, ltb-true b 8 y, ltb-true c 8 z);
      subtract = λ e. let (x, y, z) = both3 (is_var a) (is_var b) (is_var c) (at_head 2 e) in (ltb-true a 8 x, ltb-true b 8 y, ltb-true c 8 z);
      read = λ e.
          let (x, y, z) = both3 (is_read channels p a) (is_var b) (is_var c) (at_head 3 e) in
          let (x₁, x₂) = both (ltb a (length channels)) (eqb (get_or channels a no_channel).reader p) x in
          ((ltb-true a (length channels) x₁, eqb-true (get_or channels a no_channel).reader p x₂), ltb-true b 8 y, ltb-true c 8 z);
      write = λ e.
          let (x, y, z) = both3 (is_written channels p a) (is_var b) (is_zero c) (at_head 4 e) in
          let (x₁, x₂) = both (ltb a (length channels)) (eqb (get_or channels a no_channel).writer p) x in
          ((ltb-true a (length channels) x₁, eqb-true (get_or channels a no_channel).writer p x₂), ltb-true b 8 y, eqb-true c 0 z);
      input = λ e. let (x, y, z) = both3 (is_var a) (is_var b) (is_zero c) (at_head 5 e) in (ltb-true a 8 x, ltb-true b 8 y, eqb-true c 0 z);
      output = λ e. let (x, y, z) = both3 (is_var a) (is_zero b) (is_zero c) (at_head 6 e) in (ltb-true a 8 x, eqb-true b 0 y, eqb-true c 0 z);
      skip = λ e.
          let (x, y, z) = both3 (is_var a) (is_skip n k b) (is_zero c) (at_head 7 e) in
          let (y₁, y₂) = both (leb 1 b) (leb (k + 1 + b) n) y in
          (ltb-true a 8 x, (leb-true 1 b y₁, leb-true (k + 1 + b) n y₂), eqb-true c 0 z);
      number = small;
    }

  -- ---- good, so accepted

  module _ (g : GoodAction channels p n k (four head)) where
    at_number : (h : ℕ) → head ≡ h → good_action channels p n k (four h) ≡ true → good_action channels p n k (four head) ≡ true
    at_number h e t = subst (λ (h : ℕ). good_action channels p n k (four h) ≡ true) (sym e) t

    made_true : good_action channels p n k (four head) ≡ true
    unfolding good_action
    made_true = eight head g.known
        (λ e. let (x, y) = g.set e in at_number 0 e (rw (lt-ltb a 8 x, eq-eqb c 0 y)))
        (λ e. let (x, y, z) = g.add e in at_number 1 e (rw (lt-ltb a 8 x, lt-ltb b 8 y, lt-ltb c 8 z)))
        (λ e. let (x, y, z) = g.subtract e in at_number 2 e (rw (lt-ltb a 8 x, lt-ltb b 8 y, lt-ltb c 8 z)))
        (λ e. let ((x₁, x₂), y, z) = g.read e in
        at_number 3 e (rw (lt-ltb a (length channels) x₁, eq-eqb (get_or channels a no_channel).reader p x₂, lt-ltb b 8 y, lt-ltb c 8 z)))
        (λ e. let ((x₁, x₂), y, z) = g.write e in
        at_number 4 e (rw (lt-ltb a (length channels) x₁, eq-eqb (get_or channels a no_channel).writer p x₂, lt-ltb b 8 y, eq-eqb c 0 z)))
        (λ e. let (x, y, z) = g.input e in at_number 5 e (rw (lt-ltb a 8 x, lt-ltb b 8 y, eq-eqb c 0 z)))
        (λ e. let (x, y, z) = g.output e in at_number 6 e (rw (lt-ltb a 8 x, eq-eqb b 0 y, eq-eqb c 0 z)))
        (λ e. let (x, (y₁, y₂), z) = g.skip e in at_number 7 e (rw (lt-ltb a 8 x, le-leb 1 b y₁, le-leb (k + 1 + b) n y₂, eq-eqb c 0 z)))

module _ (channels : List Channel) (p n k : ℕ) (f : Four) where
  pub accepted_good : good_action channels p n k f ≡ true → f.b < 2 ^ 32 → GoodAction channels p n k f
  accepted_good g small = made_good channels p n k f.head f.a f.b f.c g small

  pub good_accepted : GoodAction channels p n k f → good_action channels p n k f ≡ true
  good_accepted g = made_true channels p n k f.head f.a f.b f.c g

  -- the operands but for the number that action 0 sets
  pub good_ends_lem : length channels ≤ 16 → GoodAction channels p n k f → (f.a < 16) × (f.c < 16)
  good_ends_lem h g = eight f.head g.known
      (λ e. omega (arith, g.set e)) (λ e. omega (arith, g.add e)) (λ e. omega (arith, g.subtract e)) (λ e. omega (arith, g.read e))
      (λ e. omega (arith, g.write e)) (λ e. omega (arith, g.input e)) (λ e. omega (arith, g.output e)) (λ e. omega (arith, g.skip e))

  pub good_small : length channels ≤ 16 → GoodAction channels p n k f → Small f
  good_small h g =
      let (x, z) = good_ends_lem h g in
      record { head = omega (arith, g.known); a = omega arith; b = g.number; c = omega arith }
