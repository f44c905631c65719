-- Samples: "two 32-bit words, present (0 or 1) and value (0 when not present)".
use Rattle.std.specs.Prelude.{ℕ, ◌+◌, ◌*◌, Bool, ◌&&◌, ◌||◌, List, [], ◌∷◌, ◌==◌, slice_index}
use Rattle.reply.specs.Result.{Result, require, in_order}
use Rattle.reply.specs.declared.Reply.TheVariants.{BadSample}
use Rattle.machine.specs.declared.Sample.{Sample}

-- sample k of a table
unfoldable pub sample_at : List ℕ → ℕ → Sample
sample_at words k = record { present = slice_index words (2 * k); value = slice_index words (2 * k + 1) }

abbrev pub sample_words : Sample → List ℕ
sample_words x = x.present ∷ x.value ∷ []

-- refused: "present above 1, or a value without present"
unfoldable pub good_sample : Sample → Bool
good_sample x = x.present == 1 || (x.present == 0 && x.value == 0)

-- the first n samples, in order; the place is the sample's index
unfoldable pub ok_samples : ℕ → List ℕ → Result (Unit {0})
ok_samples n input = in_order n (λ k. require (good_sample (sample_at input k)) BadSample k)
