-- `writing::put_number` meets its contract: there is room.
use Rattle.std.proofs.Common.{arith}
use Rattle.number.specs.Groups.{encode_most}
use Rattle.writer.proofs.Laying.{one}
use Rattle.writer.proofs.writing.put_number.Goals as goal

pub put_groups-requires : goal.put_groups-requires
put_groups-requires c = omega (arith, encode_most c.args.n)

pub returns : goal.returns
returns c = one _ _ _ c.put_groups.ensures.value c.put_groups.ensures.out_after
