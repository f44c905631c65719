-- The proof about what precedes what.
use Rattle.std.proofs.Common.{inl, inr}
use Rattle.network.specs.Net.{Net}
use Rattle.network.specs.Valid.{Valid}
use Rattle.graph.specs.OrderLaws.{pair_related, channel_related}
use Rattle.graph.proofs.WorkLaws.{precedes_sound, precedes_complete, goes_forward}
use Rattle.graph.specs.Promise.{Precedence}

module _ (net : Net) (ok : Valid net) where
  -- what precedes what is as the words say
  pub precedence_is : Precedence net
  precedence_is = record {
    forward = goes_forward net ok;
    sound = precedes_sound net ok;
    complete = precedes_complete net ok;
    one_process = λ i j l h e. precedes_complete net ok i j (record { lower = l; below = h; tied = inl e });
    one_pair = λ i j l h p. precedes_complete net ok i j (record { lower = l; below = h; tied = inr (pair_related net ok _ _ p) });
    one_channel = λ i j k l h c p. precedes_complete net ok i j (record { lower = l; below = h; tied = inr (channel_related net ok k _ _ c p) });
  }
