-- `judging::is_good` meets its contract.
use Rattle.std.proofs.Common.{sym, ◌∙◌}
use Rattle.reply.specs.Tests.{clash}
use Rattle.writer.proofs.Whole.{network_good}
use Rattle.writer.proofs.judging.is_good.Goals as goal
use Rattle.writer.proofs.judging.is_good.Goals.{then-are_few, else-are_few, then-good_processes, else-good_processes, then-fits_frame, else-fits_frame}

pub returns-then-good_ends : goal.returns-then-good_ends
returns-then-good_ends c = λ e. elim c.if-fits_frame.branch [
  | then-fits_frame w ↦ elim c.if-good_processes.branch [
    | then-good_processes v ↦ elim c.if-are_few.branch [
      | then-are_few u ↦
          let processes = c.processes-processes.ensures in
          let pairs = w.pairs.ensures in
          let channels = c.channels-channels.ensures in
          let each = sym u.good_processes.ensures ∙ sym u.value-is ∙ v.if-good_processes.true in
          let fits = sym v.fits_frame.ensures ∙ sym v.value-is ∙ w.if-fits_frame.true in
          let ends = w.good_ends.ensures (sym w.value-is ∙ c.if-good_ends.true) in
          let programs = sym c.good_programs.ensures.value ∙ e in
          network_good _ (c.are_few.ensures u.if-are_few.true) (rw processes.value at processes.count) (rw pairs.value at pairs.count) (rw channels.value at channels.count)
          (rw processes.value at each) (rw processes.value at fits) (rw (pairs.value, channels.value) at ends) c.good_programs.ensures.fit (rw channels.value at programs)
      | else-are_few u ↦ clash v.if-good_processes.true (u.value-is ∙ u.if-are_few.false)
    ]
    | else-good_processes v ↦ clash w.if-fits_frame.true (v.value-is ∙ v.if-good_processes.false)
  ]
  | else-fits_frame w ↦ clash c.if-good_ends.true (w.value-is ∙ w.if-fits_frame.false)
]
