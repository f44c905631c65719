-- The judgement of an action, told only the channel that it names.
use Rattle.std.specs.Prelude.{ℕ, ◌≡◌, Bool, cond, Option, Some, None, List, ltb, length, get_or}
use Rattle.network.specs.Net.{no_channel}
use Rattle.network.specs.Read.{good_action}
use Rattle.network.specs.declared.Channel.{Channel}
use Rattle.network.specs.declared.Four.{Four}

-- the channel that a number names, if it names one
abbrev pub named : List Channel → ℕ → Option Channel
named channels number = cond (ltb number (length channels)) (Some (get_or channels number no_channel)) None

-- the judgement of action k of n of process p, told only the channel that its first operand would name
pub record Judged (channel : Option Channel) (p n k : ℕ) (four : Four) (good : Bool) : Type 0 where
  pub same : (channels : List Channel) → channel ≡ named channels four.a → good ≡ good_action channels p n k four
