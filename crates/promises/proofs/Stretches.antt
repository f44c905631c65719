-- Stretches of the turns of one run: from any turn to any later one.
use Rattle.std.specs.Prelude.{ℕ, suc, ◌+◌, ◌*◌, ◌-◌, ◌≤◌, ◌<◌, ◌≡◌, length, get_or, take, drop}
use Rattle.std.proofs.Common.{sym, subst, ◌∙◌, mul_comm, length-drop, take-add, get_or-take, get_or-drop, length-take-le}
use Rattle.std.proofs.Math.Path.{ap}
use mathlib.Core.List.{List}
use native.Mathlib.Omega.{arith}
use Rattle.graph.specs.Work.{job_count_of}
use Rattle.promises.specs.Turns.{Between, Run, waits, turn, turns, at_start}
use Rattle.promises.specs.TurnLaws.{turns_to, to_more, more_turns}
use Rattle.promises.proofs.Running.{Fit, Any, run_any}
use Rattle.promises.proofs.Working.{stretch_works, frame_turns, all_turns, waits_only}

-- the turns of a list from one to another
abbrev part : List ℕ → ℕ → ℕ → List ℕ
part list from to = take (to - from) (drop from list)

part_length : (list : List ℕ) (from to : ℕ) → from ≤ to → to ≤ length list → length (part list from to) ≡ to - from
part_length list from to h l = length-take-le (to - from) (drop from list) (rw (length-drop from list) (omega arith))

part_at : (list : List ℕ) (from to k : ℕ) → from ≤ k → k < to → get_or (part list from to) (k - from) 0 ≡ get_or list k 0
part_at list from to k h l =
    let z : from + (k - from) ≡ k = omega arith in
    get_or-take (to - from) (drop from list) (k - from) 0 (omega arith) ∙ get_or-drop from list (k - from) 0 ∙ ap (λ i. get_or list i 0) z

module _ (r : Run) where
  to_part : (list : List ℕ) (from to : ℕ) → from ≤ to → turns_to r list to ≡ turns r (part list from to) (turns_to r list from)
  unfolding turns_to
  to_part list from to h =
      let z : to ≡ from + (to - from) = omega arith in
      ap (λ t. turns r (take t list) (at_start r)) z
      ∙ ap (λ (l : List ℕ). turns r l (at_start r)) (take-add from (to - from) list)
      ∙ more_turns r (take from list) (part list from to) (at_start r)

module _ (r : Run) (processors : ℕ) (g : Fit r processors) (list : List ℕ) where
  pub to_any : (t : ℕ) → Any r processors g (turns_to r list t)
  unfolding turns_to
  to_any t = run_any r processors g (take t list)

  -- a stretch that names every processor, with a job left at its end
  pub stretch_to : (from to : ℕ) → from ≤ to → to ≤ length list
      → ((q : ℕ) → q < processors → (k : ℕ) × (from ≤ k) × (k < to) × (get_or list k 0 ≡ q))
      → (turns_to r list to).frames < r.asked → (turns_to r list from).working < (turns_to r list to).working
  stretch_to from to h l every left =
      let z : turns_to r list to ≡ turns r (part list from to) (turns_to r list from) = to_part r list from to h in
      subst (λ x. (turns_to r list from).working < x.working) (sym z)
      (stretch_works r processors g (part list from to) (turns_to r list from) (to_any from)
      (λ q b. let (k, a, d, e) = every q b in (k - from, omega (arith, part_length list from to h l), part_at list from to k a d ∙ e))
      (subst (λ x. x.frames < r.asked) z left))

  -- a stretch that stays in a frame, and one turn more
  pub frame_to : (from to : ℕ) → from ≤ to → to < length list
      → (turns_to r list from).frames < r.asked → (turns_to r list to).frames ≡ (turns_to r list from).frames
      → (turns_to r list (suc to)).working ≤ (turns_to r list from).working + 25 * job_count_of r.work
  frame_to from to h l left same =
      let z : turns_to r list to ≡ turns r (part list from to) (turns_to r list from) = to_part r list from to h in
      let w : (turn r (get_or list to 0) (turns r (part list from to) (turns_to r list from))).working ≤ (turns_to r list from).working + job_count_of r.work * 25 =
      frame_turns r processors g (part list from to) (get_or list to 0) (turns_to r list from) (to_any from) left
      (subst (λ x. x.frames ≡ (turns_to r list from).frames) z same) in
      let y : (turns_to r list (suc to)).working ≡ (turn r (get_or list to 0) (turns r (part list from to) (turns_to r list from))).working =
      ap (λ (x : Between). x.working) (to_more r list to l ∙ ap (turn r (get_or list to 0)) z) in
      omega (arith, w, y, mul_comm 25 (job_count_of r.work))

  -- all frames, once they have finished
  pub all_to : (t : ℕ) → (turns_to r list t).frames ≡ r.asked → (turns_to r list t).working ≤ r.asked * (25 * job_count_of r.work)
  unfolding turns_to
  all_to t e =
      omega (arith, all_turns r processors g (take t list) (omega arith), ap (λ x. r.asked * x) (mul_comm 25 (job_count_of r.work)))

  -- a turn that does not work
  pub waits_to : (t : ℕ) → t < length list → (turns_to r list (suc t)).working ≡ (turns_to r list t).working → turns_to r list (suc t) ≡ waits (turns_to r list t)
  waits_to t l e =
      let z : turns_to r list (suc t) ≡ turn r (get_or list t 0) (turns_to r list t) = to_more r list t l in
      z ∙ waits_only r processors g (get_or list t 0) (turns_to r list t) (to_any t) (sym (ap (λ (x : Between). x.working) z) ∙ e)
