-- `fill` meets its contract.
use Rattle.std.proofs.Common.{length, rules, ◌≤◌}
use Rattle.writer.proofs.EntryPoint.{filled}
use Rattle.writer.proofs.fill.Goals as goal

pub returns-clause-out_after : goal.returns-clause-out_after
returns-clause-out_after c =
    let h : length c.args.file.now ≤ length c.args.out.now = search rules in
    filled _ _ h _ c.copy_from_slice.ensures.after
