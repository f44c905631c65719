-- `sequence::sequence` meets its contract.
use Rattle.std.proofs.Common.{length, arith, refl, rules}
use Rattle.graph.specs.SequenceTold.{word_relation}
use Rattle.graph.proofs.ReleasedLoop.{due_begins}
use Rattle.graph.proofs.SequenceLoops.{times_begin, times_go_on, times_end, good_of, rows_are_words, room_of}
use Rattle.graph.proofs.Slices.{take_whole}
use Rattle.graph.proofs.sequence.sequence.Goals as goal

pub loop-time-init : goal.loop-time-init
loop-time-init c = (search rules, times_begin _ _ _ refl, due_begins _ _ _ c.requires.fits.few refl)

pub released_at-released-requires : goal.released_at-released-requires
released_at-released-requires c =
    let pre = c.requires.fits in
    record {
      good_processes = (good_of _ _ _ _ pre, c.loop-time-test.true, pre.short);
      due_from = c.loop-time.invariant.2;
    }

pub put_released-requires : goal.put_released-requires
put_released-requires c =
    let pre = c.requires in
    record {
      good = (good_of _ _ _ _ pre.fits, omega (arith, c.loop-time-test.true, pre.fits.short));
      released = record { digits = c.released_at-released.ensures.tells_released.digits };
      held = c.loop-time.invariant.1;
      room = rw (take_whole c.args.processes.now) at (room_of pre.fits pre.sizes c.first_words-first.ensures _ c.loop-time-test.true);
    }

pub loop-time-smaller : goal.loop-time-smaller
loop-time-smaller c = omega (arith, c.released_at-released.ensures.tells_released.after)

pub loop-time-preserved : goal.loop-time-preserved
loop-time-preserved c =
    let told = c.released_at-released.ensures.tells_released in
    let all = c.args.processes.now in (
      told.within,
      rw (take_whole all) at (times_go_on (length all) all (word_relation (length all) c.first_words-first.result) c.loop-time.time c.args.frame
          c.released_at-released.result c.put_released.new.table (omega arith) told (rw (take_whole all) c.put_released.ensures)),
      c.released_at-released.ensures.due_next,
    )

pub returns : goal.returns
returns c =
    rw (rows_are_words c.requires.fits c.requires.sizes c.first_words-first.ensures)
    (times_end _ _ _ _ _ c.loop-time.invariant.0 c.loop-time-test.false c.loop-time.invariant.1)
