-- `put` meets its contract: the network's bytes, what the reader says of them if they are not seen to be good, and the room.
use Rattle.std.proofs.Common.{sym, rules, Err, ◌≡◌, ◌∙◌}
use Rattle.writer.proofs.EntryPoint.{front_size, put_refused, put_accepted, put_read}
use Rattle.writer.proofs.Whole.{good_accepted}
use Rattle.writer.proofs.put.Goals as goal
use Rattle.writer.proofs.put.Goals.{then-not-is_good+in_ok-judge, else-not-is_good}

pub slice_bounds-file-end : goal.slice_bounds-file-end
slice_bounds-file-end c = front_size c.encode_network-size.ensures

pub returns-in_err-judge : goal.returns-in_err-judge
returns-in_err-judge c =
    let told = put_refused c.args.network.now c.args.out.now c.encode_network-size.ensures _ (sym c.in_err-judge.ensures) in
    let gave : c.from_residual.result ≡ Err c.in_err-judge.field-0.0 = search rules in
    record { value = gave ∙ sym told.0; out_after = told.1 }

pub returns : goal.returns
returns c =
    let network = c.args.network.now in
    let out = c.args.out.now in
    let encoded = c.encode_network-size.ensures in
    elim c.if-not-is_good.branch [
      | then-not-is_good+in_ok-judge w ↦
          let given = put_read network out encoded _ (sym w.in_ok-judge.ensures) _ _ c.fill.ensures.value c.fill.ensures.out_after in
          record { value = given.0; out_after = given.1 }
      | else-not-is_good w ↦
          let given = put_accepted network out encoded (good_accepted network (c.is_good.ensures w.if-not-is_good.false)) _ _ c.fill.ensures.value c.fill.ensures.out_after in
          record { value = given.0; out_after = given.1 }
    ]
