-- `run_framed` meets its contract: 10 for plan, input and output; a fault of plan, samples or turns; or the run.
use Rattle.std.proofs.Common.{arith, mul-le-mul}
use Rattle.graph.specs.FrameOf.{few_jobs}
use Rattle.plan.proofs.CallLaws.{frame_checkable}
use Rattle.plan.proofs.ToldSteps.{has_room, met}
use Rattle.turns.specs.CallCases.{run_refused, refused_filled, run_done, same_filled, plan_told, plan_short, input_short, output_short, plan_faulty, sample_wrong, turn_wrong, all_good, good_judged}
use Rattle.turns.proofs.run_framed.Goals as goal

pub overflow_mul-count : goal.overflow_mul-count
overflow_mul-count c = let pre = c.requires in omega (arith, mul-le-mul (few_jobs pre.0) pre.2)

pub overflow_mul-jobs : goal.overflow_mul-jobs
overflow_mul-jobs c = let pre = c.requires in omega (arith, few_jobs pre.0)

pub overflow_mul-count-2 : goal.overflow_mul-count-2
overflow_mul-count-2 c = let pre = c.requires in omega (arith, mul-le-mul (few_jobs pre.0) pre.2)

pub overflow_mul-count-3 : goal.overflow_mul-count-3
overflow_mul-count-3 c = let pre = c.requires in omega (arith, mul-le-mul (few_jobs pre.0) pre.2)

pub returns-in_err-room : goal.returns-in_err-room
returns-in_err-room c =
    let e = plan_short c.requires.0 _ _ _ _ _ _ c.in_err-room.ensures in
    record { result = rw (met _ c.from_residual.ensures.1) (run_refused e); filled = refused_filled _ e }

pub returns-in_err-room-2 : goal.returns-in_err-room-2
returns-in_err-room-2 c =
    let e = input_short c.requires.0 _ _ _ _ _ _ c.in_ok-room.ensures c.in_err-room-2.ensures in
    record { result = rw (met _ c.from_residual-in_err-room-2.ensures.1) (run_refused e); filled = refused_filled _ e }

pub returns-in_err-room-3 : goal.returns-in_err-room-3
returns-in_err-room-3 c =
    let e = output_short c.requires.0 _ _ _ _ _ _ c.in_ok-room.ensures c.in_ok-room-2.ensures c.in_err-room-3.ensures in
    record { result = rw (met _ c.from_residual-in_err-room-3.ensures.1) (run_refused e); filled = refused_filled _ e }

pub judge-requires : goal.judge-requires
judge-requires c = frame_checkable c.requires.0 _ (has_room _ _ c.in_ok-room.ensures)

pub returns-in_err-judge : goal.returns-in_err-judge
returns-in_err-judge c =
    let e = plan_faulty c.requires.0 _ _ _ _ _ _ c.in_ok-room.ensures c.in_ok-room-2.ensures c.in_ok-room-3.ensures (plan_told c.requires.0 _ _ c.in_err-judge.ensures) in
    record { result = rw (met _ c.from_residual-in_err-judge.ensures.1) (run_refused e); filled = refused_filled _ e }

pub judge-requires-2 : goal.judge-requires-2
judge-requires-2 c = let pre = c.requires in
    (mul-le-mul (few_jobs pre.0) pre.2, has_room _ _ c.in_ok-room-2.ensures)

pub returns-in_err-judge-2 : goal.returns-in_err-judge-2
returns-in_err-judge-2 c =
    let e = sample_wrong c.requires.0 _ _ _ _ _ _ c.in_ok-room.ensures c.in_ok-room-2.ensures c.in_ok-room-3.ensures
    (plan_told c.requires.0 _ _ c.in_ok-judge.ensures) c.in_err-judge-2.ensures in
    record { result = rw (met _ c.from_residual-in_err-judge-2.ensures.1) (run_refused e); filled = refused_filled _ e }

pub returns-in_err-judge-3 : goal.returns-in_err-judge-3
returns-in_err-judge-3 c =
    let e = turn_wrong c.requires.0 _ _ _ _ _ _ c.in_ok-room.ensures c.in_ok-room-2.ensures c.in_ok-room-3.ensures
    (plan_told c.requires.0 _ _ c.in_ok-judge.ensures) c.in_ok-judge-2.ensures c.in_err-judge-3.ensures in
    record { result = rw (met _ c.from_residual-in_err-judge-3.ensures.1) (run_refused e); filled = refused_filled _ e }

pub run_admitted-requires : goal.run_admitted-requires
run_admitted-requires c = record {
  m = c.args.asked.now.processors;
  roomy = record {
    frame = c.requires.0;
    processors = c.requires.1;
    few = c.requires.2;
    plan_there = has_room _ _ c.in_ok-room.ensures;
    input_there = has_room _ _ c.in_ok-room-2.ensures;
    output_there = has_room _ _ c.in_ok-room-3.ensures;
  };
  good = good_judged c.requires.0 _ _ _ _ _ c.args.output.now c.in_ok-room.ensures c.in_ok-room-2.ensures c.in_ok-room-3.ensures
      (plan_told c.requires.0 _ _ c.in_ok-judge.ensures) c.in_ok-judge-2.ensures c.in_ok-judge-3.ensures;
}

pub returns : goal.returns
returns c =
    let e = all_good c.requires.0 _ _ _ _ _ c.args.output.now c.in_ok-room.ensures c.in_ok-room-2.ensures c.in_ok-room-3.ensures
    (plan_told c.requires.0 _ _ c.in_ok-judge.ensures) c.in_ok-judge-2.ensures c.in_ok-judge-3.ensures in
    record { result = run_done e c.run_admitted.ensures.result; filled = same_filled c.args.output.now e c.run_admitted.ensures.filled }
