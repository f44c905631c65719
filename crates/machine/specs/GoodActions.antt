-- Operands of a valid network's actions, in the words of actions.
use Rattle.std.specs.Prelude.{◌≡◌, ℕ, zero, suc, ◌+◌, ◌<◌, ◌≤◌, List, [], ◌∷◌, map, length, get_or, ◌==◌, slice_index_or, refl}
use native.Mathlib.Omega.{arith}
use Rattle.std.proofs.lemmas.List.{length-map}
use borrow.Author.Tests.{eqb-true, eqb-false}
use Rattle.reply.specs.Tests.{split}
use Rattle.network.specs.Net.{Net, no_channel, no_four}
use Rattle.network.specs.Valid.{GoodAction, Valid}
use Rattle.network.specs.declared.Channel.{Channel}
use Rattle.network.specs.declared.Four.{Four}
use Rattle.machine.specs.Actions.{decode}
use Rattle.machine.specs.WholeJob.{program_of}
use Rattle.machine.specs.Acting.{Operands}
use Rattle.machine.specs.declared.Action.{Action}
use Rattle.machine.specs.declared.Action.TheVariants.{Set, Add, Subtract, Read, Write, Input, Output, Skip, Unknown}

-- action k of n of process p: variables below 8, reads and writes at the process's own end of a channel, skips within the program
unfoldable pub GoodFor : List Channel → ℕ → ℕ → ℕ → Action → Type 0
GoodFor channels p n k (Set a x) = a < 8
GoodFor channels p n k (Add a b c) = (a < 8) × (b < 8) × (c < 8)
GoodFor channels p n k (Subtract a b c) = (a < 8) × (b < 8) × (c < 8)
GoodFor channels p n k (Read ch b c) = ((ch < length channels) × ((get_or channels ch no_channel).reader ≡ p)) × (b < 8) × (c < 8)
GoodFor channels p n k (Write ch b) = ((ch < length channels) × ((get_or channels ch no_channel).writer ≡ p)) × (b < 8)
GoodFor channels p n k (Input a b) = (a < 8) × (b < 8)
GoodFor channels p n k (Output a) = a < 8
GoodFor channels p n k (Skip a m) = (a < 8) × (1 ≤ m) × (k + 1 + m ≤ n)
GoodFor channels p n k Unknown = ⊥

module _ (channels : List Channel) (p n k : ℕ) where
  -- four good numbers say a good action
  pub good_for : (f : Four) → GoodAction channels p n k f → GoodFor channels p n k (decode f)
  unfolding decode GoodFor
  good_for f g =
      let h : ℕ = f.head in
      split (h == 0) (λ e. rw e (g.set (eqb-true h 0 e)).0) λ e₀. rw e₀
      (split (h == 1) (λ e. rw e (g.add (eqb-true h 1 e))) λ e₁. rw e₁
      (split (h == 2) (λ e. rw e (g.subtract (eqb-true h 2 e))) λ e₂. rw e₂
      (split (h == 3) (λ e. rw e (g.read (eqb-true h 3 e))) λ e₃. rw e₃
      (let low : 4 ≤ h = omega (arith, eqb-false) in
      split (h == 4) (λ e. rw e (let w = g.write (eqb-true h 4 e) in (w.0, w.1))) λ e₄. rw e₄
      (split (h == 5) (λ e. rw e (let i = g.input (eqb-true h 5 e) in (i.0, i.1))) λ e₅. rw e₅
      (split (h == 6) (λ e. rw e (g.output (eqb-true h 6 e)).0) λ e₆. rw e₆
      (split (h == 7) (λ e. rw e (let s = g.skip (eqb-true h 7 e) in (s.0, s.1.0, s.1.1))) λ e₇. rw e₇
      (omega (arith, eqb-false h 4 e₄, eqb-false h 5 e₅, eqb-false h 6 e₆, eqb-false h 7 e₇)))))))))

  -- a good action's operands are within their range
  pub operands_in : length channels ≤ 16 → n ≤ 24 → (action : Action) → GoodFor channels p n k action → Operands action
  unfolding GoodFor Operands
  operands_in c h (Set a x) g = g
  operands_in c h (Add a b d) g = g
  operands_in c h (Subtract a b d) g = g
  operands_in c h (Read ch b d) g = (omega arith, g.1, g.2)
  operands_in c h (Write ch b) g = (omega arith, g.1)
  operands_in c h (Input a b) g = g
  operands_in c h (Output a) g = g
  operands_in c h (Skip a m) g = (g.0, omega arith)
  operands_in c h Unknown g = tt

-- action k of a program, from its four numbers
pub decoded_at : (program : List Four) (k : ℕ) → k < length program → slice_index_or (map decode program) k Unknown ≡ decode (slice_index_or program k no_four)
decoded_at [] k h = absurd (omega arith)
decoded_at (f ∷ program) zero h = refl
decoded_at (f ∷ program) (suc k) h = decoded_at program k (omega arith)

-- each action of a valid network is good
pub net_good : (net : Net) → Valid net → (p k : ℕ) → p < length net.programs → k < length (program_of net p)
    → GoodFor net.channels p (length (program_of net p)) k (slice_index_or (program_of net p) k Unknown)
net_good net ok p k h l =
    let fours : List Four = get_or net.programs p [] in
    let b : k < length fours = omega (arith, length-map fours decode) in
    rw (length-map fours decode, decoded_at fours k b) (good_for net.channels p (length fours) k (slice_index_or fours k no_four) (ok.actions p k h b))
