-- `loading::load` meets its contract: each part takes up what the part before it left.
use Rattle.std.proofs.Common.{rules, refl}
use Rattle.std.proofs.lemmas.Result.{err_from_is_err_and}
use Rattle.reader.proofs.Whole.{version_none, version_other, processes_stop, pairs_stop, channels_stop, programs_stop, bytes_left, whole_file, has_version, has_processes, has_pairs, has_channels}
use Rattle.reader.proofs.loading.load.Goals as goal

pub returns-in_err-version : goal.returns-in_err-version
returns-in_err-version c = search (rules, version_none)

pub returns-then-version-ne-VERSION : goal.returns-then-version-ne-VERSION
returns-then-version-ne-VERSION c = version_other _ c.in_ok-version.ensures c.if-version-ne-VERSION.true

pub returns-in_err-process_count : goal.returns-in_err-process_count
returns-in_err-process_count c = let before = has_version _ c.in_ok-version.ensures c.if-version-ne-VERSION.false in search (rules, processes_stop before)

pub read_pairs-requires : goal.read_pairs-requires
read_pairs-requires c = (has_processes _ c.in_ok-version.ensures c.if-version-ne-VERSION.false c.in_ok-process_count.ensures).few

pub returns-in_err-pair_count : goal.returns-in_err-pair_count
returns-in_err-pair_count c =
    let before = has_processes _ c.in_ok-version.ensures c.if-version-ne-VERSION.false c.in_ok-process_count.ensures in
    search (rules, pairs_stop before)

pub read_channels-requires : goal.read_channels-requires
read_channels-requires c = (has_processes _ c.in_ok-version.ensures c.if-version-ne-VERSION.false c.in_ok-process_count.ensures).few

pub returns-in_err-channel_count : goal.returns-in_err-channel_count
returns-in_err-channel_count c =
    let before = has_pairs _ c.in_ok-version.ensures c.if-version-ne-VERSION.false c.in_ok-process_count.ensures c.in_ok-pair_count.ensures in
    search (rules, channels_stop before)

pub slice_bounds-channels-end : goal.slice_bounds-channels-end
slice_bounds-channels-end c =
    let few = (has_channels _ c.in_ok-version.ensures c.if-version-ne-VERSION.false c.in_ok-process_count.ensures c.in_ok-pair_count.ensures c.in_ok-channel_count.ensures).few in
    search rules

pub slice_bounds-read_programs-end : goal.slice_bounds-read_programs-end
slice_bounds-read_programs-end c =
    let few = (has_channels _ c.in_ok-version.ensures c.if-version-ne-VERSION.false c.in_ok-process_count.ensures c.in_ok-pair_count.ensures c.in_ok-channel_count.ensures).few in
    search rules

pub read_programs-requires : goal.read_programs-requires
read_programs-requires c = record {
  processes = (has_processes _ c.in_ok-version.ensures c.if-version-ne-VERSION.false c.in_ok-process_count.ensures).few;
  counts_zero = refl;
  actions_zero = refl;
}

pub returns-in_err-at : goal.returns-in_err-at
returns-in_err-at c =
    let before = has_channels _ c.in_ok-version.ensures c.if-version-ne-VERSION.false c.in_ok-process_count.ensures c.in_ok-pair_count.ensures c.in_ok-channel_count.ensures in
    let p = err_from_is_err_and c.from_residual-in_err-at.result c.from_residual-in_err-at.ensures.1 in
    rw (p.1, p.2) (programs_stop before c.in_err-at.ensures)

pub returns-then-at-file : goal.returns-then-at-file
returns-then-at-file c =
    let before = has_channels _ c.in_ok-version.ensures c.if-version-ne-VERSION.false c.in_ok-process_count.ensures c.in_ok-pair_count.ensures c.in_ok-channel_count.ensures in
    bytes_left before c.in_ok-at.ensures c.if-at-file.true

pub returns : goal.returns
returns c =
    let before = has_channels _ c.in_ok-version.ensures c.if-version-ne-VERSION.false c.in_ok-process_count.ensures c.in_ok-pair_count.ensures c.in_ok-channel_count.ensures in
    whole_file before c.in_ok-at.ensures c.if-at-file.false
