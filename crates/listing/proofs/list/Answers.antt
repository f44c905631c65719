-- `list` meets its contract: the refusal, or the text, where there is room for it.
use Rattle.listing.specs.CallLaws.{call_refused, call_given, text_fits}
use Rattle.listing.proofs.list.Goals as goal

pub as_bytes-requires : goal.as_bytes-requires
as_bytes-requires c = text_fits _ c.in-Ok.ensures.value

pub returns-in-Ok-clause-result : goal.returns-in-Ok-clause-result
returns-in-Ok-clause-result c = (call_given _ c.in-Ok.ensures.value c.as_bytes.ensures c.args.out.now c.give-length.ensures.value c.give-length.ensures.out_after).0

pub returns-in-Ok-clause-filled : goal.returns-in-Ok-clause-filled
returns-in-Ok-clause-filled c = (call_given _ c.in-Ok.ensures.value c.as_bytes.ensures c.args.out.now c.give-length.ensures.value c.give-length.ensures.out_after).1

pub returns-in-Err-clause-result : goal.returns-in-Err-clause-result
returns-in-Err-clause-result c = rw c.from.ensures (call_refused _ c.in-Err.ensures.value c.args.out.now).0

pub returns-in-Err-clause-filled : goal.returns-in-Err-clause-filled
returns-in-Err-clause-filled c = (call_refused _ c.in-Err.ensures.value c.args.out.now).1
