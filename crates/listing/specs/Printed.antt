-- Text put into a buffer, and the text that a graph and a plan make.
use Rattle.std.specs.Prelude.{ℕ, ◌+◌, ◌≡◌, List, ◌++◌, length, replicate, Ok, Err}
use Rattle.std.specs.declared.result.Result as Std
use Rattle.std.proofs.lemmas.List.Edits.{sets}
use Rattle.reply.specs.declared.Refusal.{Refusal}
use Rattle.graph.specs.declared.PrecedenceGraph.{PrecedenceGraph}
use Rattle.listing.specs.Listing.{head_line, job_lines}
use Rattle.listing.specs.declared.text.Text.{Text}

-- the text stands in `after` from `at` on, up to `next`; elsewhere the buffer is as it was before
pub record Printed (before : List ℕ) (at : ℕ) (text : List ℕ) (after : List ℕ) (next : ℕ) : Type 0 where
  pub stands : after ≡ sets before at text
  pub ends : next ≡ at + length text

-- the same of a text that grows: the words come after what it has
abbrev pub Put : Text → List ℕ → Text → Type 0
Put before words after = Printed before.bytes before.length words after.bytes after.length

-- a text with nothing in it, and one with just these bytes
abbrev pub no_text : Text
no_text = record { bytes = replicate 4096 0; length = 0 }

abbrev pub text_with : List ℕ → Text
text_with bytes = record { bytes = sets (replicate 4096 0) 0 bytes; length = length bytes }

-- what a step gives that puts a text into a lent one: that text, or why there is none
abbrev pub text_or_refusal : Std.Result (Unit {0}) Refusal → Text → Std.Result Text Refusal
text_or_refusal (Ok put) text = Ok text
text_or_refusal (Err refusal) text = Err refusal

-- the listing of what `graph` returns, with a plan
unfoldable pub text_by : PrecedenceGraph → List ℕ → List ℕ
text_by g plan = head_line g.job_count g.frame g.edges ++ job_lines g.jobs plan g.job_count
