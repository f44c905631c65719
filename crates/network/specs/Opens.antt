-- One name that opens all the definitions of the file, for examples that are computed: `unfolding file_definitions`.
use Rattle.reply.specs.Tools.{all, any, count, sum, first_from}
use Rattle.number.specs.Parts.{many}
use Rattle.number.specs.Number.{rest_from, number_from, number_at}
use Rattle.number.specs.Encode.{groups, encode}
use Rattle.network.specs.Lists.{table, every, each_of, fill_to}
use Rattle.network.specs.Chains.{holds, relation, through, chains}
use Rattle.network.specs.Frame.{frame_length, job_count, fits_frame}
use Rattle.network.specs.Pairs.{same_pair, is_pair, apart, good_pair, good_ends, aheads, cyclic}
use Rattle.network.specs.Net.{fill, program_at, within}
use Rattle.network.specs.Read.{ranged, one_process, one_pair, channel_with, one_channel, good_action, one_action, one_program, after_channels, after_channel_count, after_pairs, after_pair_count, after_processes, after_process_count, after_version, load, read_file}
use Rattle.network.specs.Write.{program_fields, fields, encode_network, given, writing, told_of, filled_by, wrote, wrote_to}

unfoldable pub file_definitions : Type 1
unfolding all any count sum first_from many rest_from number_from number_at groups encode table every each_of fill_to holds relation through chains frame_length job_count fits_frame same_pair is_pair apart good_pair good_ends aheads cyclic fill program_at within ranged one_process one_pair channel_with one_channel good_action one_action one_program after_channels after_channel_count after_pairs after_pair_count after_processes after_process_count after_version load read_file program_fields fields encode_network given writing told_of filled_by wrote wrote_to
file_definitions = Type 0
