-- A refusal never says "done": so a caller that sees reply 0 has a network.
use Rattle.std.specs.Prelude.{ℕ, ◌≡◌, not, ◌&&◌, List, length, eqb}
use Rattle.std.proofs.Common.{arith}
use Rattle.std.proofs.Math.Dec.{leb}
use Rattle.reply.specs.Result.{done}
use Rattle.reply.specs.ResultLaws.{Honest, honest_done, honest_then, honest_require, done_means}
use Rattle.reply.specs.declared.Reply.TheVariants.{Done, OutOfRange, BadPair, BadChannel, BadAction, WrongVersion, TooLarge, BytesLeft}
use Rattle.number.specs.PartLaws.{many_honest}
use Rattle.number.specs.Exact.{number_honest}
use Rattle.network.specs.Frame.{fits_frame}
use Rattle.network.specs.Pairs.{good_pair, good_ends, cyclic}
use Rattle.network.specs.Net.{Net, fill}
use Rattle.network.specs.Read.{ranged, one_process, one_pair, channel_with, one_channel, good_action, one_action, one_program, after_channels, after_channel_count, after_pairs, after_pair_count, after_processes, after_process_count, after_version, load, read_file}
use Rattle.network.specs.declared.Process.{Process}
use Rattle.network.specs.declared.Pair.{Pair}
use Rattle.network.specs.declared.Channel.{Channel}
use Rattle.network.specs.declared.Four.{Four}

module _ (file : List ℕ) where
  ranged_honest : (low high at : ℕ) → Honest (ranged file low high at)
  unfolding ranged
  ranged_honest low high at =
      honest_then _ _ (number_honest file at) λ n. honest_then _ _ (honest_require (leb low n.it && leb n.it high) OutOfRange at (omega arith)) λ ok. honest_done _

  process_honest : (before : List Process) (at : ℕ) → Honest (one_process file before at)
  unfolding one_process
  process_honest before at =
      honest_then _ _ (ranged_honest _ _ _) λ a. honest_then _ _ (ranged_honest _ _ _) λ b.
      honest_then _ _ (ranged_honest _ _ _) λ c. honest_then _ _ (ranged_honest _ _ _) λ d. honest_done _

  pair_honest : (n : ℕ) (before : List Pair) (at : ℕ) → Honest (one_pair file n before at)
  unfolding one_pair
  pair_honest n before at =
      honest_then _ _ (number_honest _ _) λ a. honest_then _ _ (number_honest _ _) λ b.
      honest_then _ _ (honest_require (good_pair n before a.it b.it) BadPair at (omega arith)) λ ok. honest_done _

  channel_honest : (n : ℕ) (pairs : List Pair) (before : List Channel) (at : ℕ) → Honest (one_channel file n pairs before at)
  unfolding one_channel channel_with
  channel_honest n pairs before at =
      honest_then _ _ (ranged_honest _ _ _) λ a. honest_then _ _ (number_honest _ _) λ b.
      honest_then _ _ (number_honest _ _) λ c. honest_then _ _ (ranged_honest _ _ _) λ d.
      honest_then _ _ (honest_require (good_ends n pairs b.it c.it) BadChannel at (omega arith)) λ ok. honest_done _

  action_honest : (channels : List Channel) (p n : ℕ) (before : List Four) (at : ℕ) → Honest (one_action file channels p n before at)
  unfolding one_action
  action_honest channels p n before at =
      honest_then _ _ (number_honest _ _) λ a. honest_then _ _ (number_honest _ _) λ b.
      honest_then _ _ (number_honest _ _) λ c. honest_then _ _ (number_honest _ _) λ d.
      honest_then _ _ (honest_require (good_action channels p n (length before) (record { head = a.it; a = b.it; b = c.it; c = d.it })) BadAction at (omega arith)) λ ok.
      honest_done _

  program_honest : (channels : List Channel) (before : List (List Four)) (at : ℕ) → Honest (one_program file channels before at)
  unfolding one_program
  program_honest channels before at = honest_then _ _ (ranged_honest _ _ _) λ n. many_honest _ _ _ (action_honest channels (length before) n.it)

  -- no refusal of a file carries reply 0
  pub honest_load : Honest (load file)
  unfolding load after_version after_processes after_process_count after_channel_count after_pairs after_pair_count after_channels
  honest_load =
      honest_then _ _ (number_honest _ _) λ v. honest_then _ _ (honest_require (eqb v.it 1) WrongVersion 0 (omega arith)) λ ok₁.
      honest_then _ _ (ranged_honest _ _ _) λ n.
      honest_then _ _ (many_honest _ _ _ process_honest) λ ps. honest_then _ _ (honest_require (fits_frame ps.it) TooLarge ps.next (omega arith)) λ ok₂.
      honest_then _ _ (ranged_honest _ _ _) λ k.
      honest_then _ _ (many_honest _ _ _ (pair_honest n.it)) λ qs. honest_then _ _ (honest_require (not (cyclic n.it qs.it)) BadPair qs.next (omega arith)) λ ok₃.
      honest_then _ _ (ranged_honest _ _ _) λ w.
      honest_then _ _ (many_honest _ _ _ (channel_honest n.it qs.it)) λ cs.
      honest_then _ _ (many_honest _ _ _ (program_honest cs.it)) λ gs. honest_then _ _ (honest_require (leb (length file) gs.next) BytesLeft gs.next (omega arith)) λ ok₄.
      honest_done _

  -- reply 0: there is a network, and the struct is it
  pub read_done : (read_file file).answer.reply ≡ Done → (net : Net) × (load file ≡ done net) × ((read_file file).network ≡ fill net)
  unfolding read_file
  read_done e = done_means (load file) honest_load e λ net l. (net, l, rw l)
