-- The search for a common multiple: `at` steps through the multiples of the larger number.
use Prim.Native.Nat.{ℕ, ◌+◌, ◌-◌, ◌%◌, ◌≤◌, ◌<◌, min, max}
use mathlib.Core.Path.{◌≡◌, sym, ap, subst, ◌∙◌}
use mathlib.Core.Bool.{false}
use native.Mathlib.Decide.{dec_lt, ℕ_discrete}
use native.Mathlib.Nat.{zero-add, mod-zero, mod_self, mod-eq_of_lt, mod-add-mod}
use native.Mathlib.Omega.{arith}
use lib.Dec.{eqb}
use borrow.Author.Tests.{eq-eqb, ne_eqb}
use Rattle.reply.specs.Tests.{both_true, split}
use Rattle.network.specs.FrameLaws.{shared, common_multiple, common_is, common_either_way}

-- `at` is a multiple, and no number below it is one that both divide
pub record Reached (large small at : ℕ) : Type 0 where
  pub some : 1 ≤ small
  pub least : small ≤ large
  pub past : large ≤ at
  pub multiple : at % large ≡ 0
  pub none : (h : ℕ) → 1 ≤ h → h < at → shared large small h ≡ false

module _ (large small : ℕ) where
  not_first : (h : ℕ) → (h % large ≡ 0 → ⊥) → shared large small h ≡ false
  not_first h d = rw (ne_eqb (h % large) 0 d)

  not_second : (h : ℕ) → (h % small ≡ 0 → ⊥) → shared large small h ≡ false
  not_second h d = rw (ne_eqb (h % small) 0 d) (split (eqb (h % large) 0) (λ t. rw t) (λ t. rw t))

  pub start : 1 ≤ small → small ≤ large → Reached large small large
  start s l = record {
    some = s;
    least = l;
    past = omega arith;
    multiple = mod_self large;
    none = λ h b t. not_first h (λ e. omega (arith, mod-eq_of_lt {n = h} {m = large} t));
  }

  module _ (at : ℕ) (r : Reached large small at) where
    -- between one multiple and the next there is none
    between : (h : ℕ) → at < h → h < at + large → h % large ≡ 0 → ⊥
    between h b t e =
        let d : ℕ = h - at in
        let z : at + d ≡ h = omega arith in
        let m : (at % large + d) % large ≡ (at + d) % large = mod-add-mod at large d in
        let y : at % large + d ≡ d = omega (arith, r.multiple) in
        let x : d % large ≡ d = mod-eq_of_lt {n = d} {m = large} (omega arith) in
        let w : h % large ≡ d = ap (λ (k : ℕ). k % large) (sym z) ∙ sym m ∙ ap (λ (k : ℕ). k % large) y ∙ x in
        omega arith

    pub step : (at % small ≡ 0 → ⊥) → Reached large small (at + large)
    step d = record {
      some = r.some;
      least = r.least;
      past = omega arith;
      multiple = sym (mod-add-mod at large large) ∙ ap (λ (k : ℕ). (k + large) % large) r.multiple ∙ ap (λ (k : ℕ). k % large) (zero-add large) ∙ mod_self large;
      none = λ h b t. elim (dec_lt h at) [
        | yes l ↦ r.none h b l
        | no l ↦ elim (ℕ_discrete h at) [
          | yes e ↦ subst (λ x. shared large small x ≡ false) (sym e) (not_second at d)
          | no e ↦ not_first h (between h (omega arith) t)
        ]
      ];
    }

    pub found : at ≤ 2000 → at % small ≡ 0 → at ≡ common_multiple large small
    found t e = common_is large small at (record {
      from = omega (arith, r.some, r.least, r.past);
      to = omega arith;
      before = r.none;
      passes = λ h. both_true (eqb (at % large) 0) (eqb (at % small) 0) (eq-eqb (at % large) 0 r.multiple) (eq-eqb (at % small) 0 e);
    })

    pub stop : 2000 < at → 2001 ≡ common_multiple large small
    stop t = common_is large small 2001 (record {
      from = omega arith;
      to = omega arith;
      before = λ h b l. r.none h b (omega arith);
      passes = λ h. absurd (omega arith);
    })

  -- 0 divides no number from 1 on
  pub by_zero : small ≡ 0 → 2001 ≡ common_multiple large small
  by_zero z = common_is large small 2001 (record {
    from = omega arith;
    to = omega arith;
    before = λ h b l. not_second h (λ e. let m : h % small ≡ h = ap (λ (k : ℕ). h % k) z ∙ mod-zero h in omega arith);
    passes = λ h. absurd (omega arith);
  })

-- of the larger and the smaller, whichever is which
pub common_sorted : (a b large small r : ℕ) → large ≡ max a b → small ≡ min a b → r ≡ common_multiple large small → r ≡ common_multiple a b
common_sorted a b large small r l s e = elim (dec_lt a b) [
  | yes h ↦
      let x : large ≡ b = omega arith in
      let y : small ≡ a = omega arith in
      e ∙ rw (x, y) (common_either_way b a)
  | no h ↦
      let x : large ≡ a = omega arith in
      let y : small ≡ b = omega arith in
      e ∙ rw (x, y)
]
