use Rattle.std.specs.Prelude.{ℕ, ◌≡◌}
use Rattle.std.specs.Option.{option_map}
use Rattle.std.proofs.Common.{rules, sym, ◌∙◌}
use Rattle.plan.proofs.PlanLoops.{none_yet, passed_by, won, lost, best_of}
use Rattle.plan.proofs.planning.least.Goals as goal
use Rattle.plan.proofs.planning.least.Goals.{then-beats+then-passes, else-beats, else-beats-via-then-beats+else-passes, else-beats-via-else-beats}

pub loop-j-init : goal.loop-j-init
loop-j-init g c = none_yet

pub loop-j-preserved : goal.loop-j-preserved
loop-j-preserved g c =
    let so_far = c.loop-j.invariant in
    let below = c.loop-j-test.true in
    let at = c.key-here.ensures in
    elim c.if-beats.branch [
      | then-beats+then-passes w ↦ rw w.best-is (won _ so_far below w.passes.ensures w.if-passes.true at (sym c.beats.ensures ∙ w.if-beats.true))
      | else-beats w ↦ rw w.best-is (elim w.else-beats.branch [
        | else-beats-via-then-beats+else-passes w' ↦ passed_by so_far below w'.passes.ensures w'.if-passes.false
        | else-beats-via-else-beats w' ↦ lost _ so_far below at (sym c.beats.ensures ∙ w'.if-beats.false)
      ])
    ]

pub returns : goal.returns
returns g c =
    let first : c.map.result ≡ option_map (λ (p : ℕ × ℕ). p.0) c.loop-j.best = search rules in
    best_of c.loop-j.invariant c.loop-j.auto.j-end c.loop-j-test.false first
