-- The variables and words that a run starts with: all zero, and they are the state at the start.
use Rattle.std.specs.Prelude.{◌≡◌, ℕ, ◌+◌, ◌*◌, ◌^◌, ◌<◌, List, length, replicate, slice_index, slice_index_or, refl}
use Rattle.std.proofs.Math.Decide.{dec_lt}
use Rattle.std.proofs.Common.{arith, ext_get_or}
use Rattle.std.proofs.lemmas.List.{length-replicate, get_or-replicate}
use Rattle.std.proofs.Math.ListN.{get_or-eq_default}
use Rattle.network.specs.Lists.{table}
use Rattle.network.specs.ListLaws.{length_table, get_or_table}
use Rattle.machine.specs.State.{nothing, start_state}
use Rattle.machine.specs.ChannelTold.{held_by, contents_by}
use Rattle.machine.specs.Words.{channel_at, contents_in, state_by, SoundWords}
use Rattle.machine.specs.Acting.{Room}

-- no channel holds anything
abbrev pub no_words : List ℕ
no_words = replicate 192 0

zero_at : (i : ℕ) → ◌≡◌ {A = ℕ} (slice_index no_words i) 0
zero_at i = elim (dec_lt i 192) [
  | yes h ↦ get_or-replicate 192 i 0 0 h
  | no h ↦ get_or-eq_default no_words 0 {n = i} (omega (arith, length-replicate {A = ℕ} 192 0))
]

module _ (i : ℕ) where
  no_length : (channel_at no_words i).length ≡ 0
  unfolding channel_at
  no_length = zero_at (i * 12 + 9)

  no_loss : (channel_at no_words i).loss ≡ 0
  unfolding channel_at
  no_loss = zero_at (i * 12 + 10)

  no_head : (channel_at no_words i).head ≡ 0
  unfolding channel_at
  no_head = zero_at (i * 12 + 8)

  eight_places : length (channel_at no_words i).values ≡ 8
  unfolding channel_at
  eight_places = length_table 8 _

  holds_nothing : contents_by (channel_at no_words i) ≡ nothing
  unfolding held_by table
  holds_nothing = rw (no_length, no_loss)

pub start_sound : SoundWords no_words
start_sound = record {
  size = length-replicate {A = ℕ} 192 0;
  sound = λ i h. record { places = eight_places i; head = omega (arith, no_head i); most = omega (arith, no_length i) };
}

pub start_contents : contents_in no_words ≡ replicate 16 nothing
unfolding contents_in
start_contents =
    ext_get_or nothing (table 16 (λ i. contents_by (channel_at no_words i))) (replicate 16 nothing)
    (rw (length_table 16 (λ i. contents_by (channel_at no_words i))) refl) λ i h.
    let b : i < 16 = omega (arith, length_table 16 (λ i. contents_by (channel_at no_words i))) in
    rw (get_or_table 16 (λ i. contents_by (channel_at no_words i)) i nothing b, holds_nothing i, get_or-replicate 16 i nothing nothing b)

pub start_state_lem : state_by (replicate 96 0) no_words ≡ start_state
start_state_lem = rw start_contents

nothing_at : (c : ℕ) → slice_index_or (replicate 16 nothing) c nothing ≡ nothing
nothing_at c = elim (dec_lt c 16) [
  | yes h ↦ get_or-replicate 16 c nothing nothing h
  | no h ↦ get_or-eq_default (replicate 16 nothing) nothing {n = c} (omega (arith, length-replicate 16 nothing))
]

-- no value is lost yet
pub start_room : (more : ℕ) → more < 2 ^ 32 → Room no_words more
start_room more h = record { room = λ c. rw (start_contents, nothing_at c) (omega arith) }
