-- Sixteen channels as 192 numbers, twelve for each: eight values, head, length, loss, and one to spare.
use Rattle.std.specs.Prelude.{◌≡◌, ℕ, ◌+◌, ◌*◌, ◌<◌, Option, unwrap_or, is_some, List, [], ◌∷◌, ◌++◌, length, get_or, slice_index, slice_index_or, slice_set}
use Rattle.std.specs.Int.{from_bool}
use Rattle.std.proofs.lemmas.List.Edits.{sets}
use Rattle.network.specs.Lists.{table}
use Rattle.machine.specs.State.{Contents, State, nothing, oldest, flag, after_read, after_write}
use Rattle.machine.specs.ChannelTold.{Sound, contents_by}
use Rattle.machine.specs.declared.Channel.{Channel}

-- channel i
unfoldable pub channel_at : List ℕ → ℕ → Channel
channel_at words i = record {
  values = table 8 (λ k. slice_index words (i * 12 + k));
  head = slice_index words (i * 12 + 8);
  length = slice_index words (i * 12 + 9);
  loss = slice_index words (i * 12 + 10);
}

abbrev pub numbers_of : Channel → List ℕ
numbers_of c = c.values ++ (c.head ∷ c.length ∷ c.loss ∷ [])

-- with channel i
unfoldable pub stored : List ℕ → ℕ → Channel → List ℕ
stored words i c = sets words (i * 12) (numbers_of c)

-- what the channels hold
unfoldable pub contents_in : List ℕ → List Contents
contents_in words = table 16 (λ i. contents_by (channel_at words i))

-- the state that variables and words are
abbrev pub state_by : List ℕ → List ℕ → State
state_by variables words = record { variables = variables; channels = contents_in words }

-- the words that a run may have
pub record SoundWords (words : List ℕ) : Type 0 where
  pub size : length words ≡ 192
  pub sound : (i : ℕ) → i < 16 → Sound (channel_at words i)

-- channel i was read: the words afterwards, and the value that the read gave
pub record ReadFrom (i kind : ℕ) (words after : List ℕ) (given : Option ℕ) : Type 0 where
  pub sound : SoundWords after
  pub contents : contents_in after ≡ slice_set (contents_in words) i (after_read kind (slice_index_or (contents_in words) i nothing))
  pub value : unwrap_or given 0 ≡ oldest (get_or (contents_in words) i nothing).held
  pub flag : from_bool (is_some given) ≡ flag (get_or (contents_in words) i nothing).held

-- channel i was written: the words afterwards
pub record WrittenTo (i kind capacity value : ℕ) (words after : List ℕ) : Type 0 where
  pub sound : SoundWords after
  pub contents : contents_in after ≡ slice_set (contents_in words) i (after_write kind capacity value (slice_index_or (contents_in words) i nothing))
