-- The code's steps make up an action: what each leaves in variables and words, and what the job then keeps.
use Rattle.std.specs.Prelude.{◌≡◌, ℕ, ◌+◌, ◌-◌, ◌*◌, ◌%◌, ◌^◌, ◌<◌, ◌≤◌, ◌≢◌, Option, unwrap_or, is_some, List, slice_index, slice_set}
use Rattle.std.specs.Int.{from_bool}
use Rattle.std.proofs.Common.{sym, ◌∙◌, add-zero}
use borrow.Author.Tests.{eq-eqb, ne_eqb}
use Rattle.network.specs.Net.{Net}
use Rattle.machine.specs.Actions.{effect, output_after, skipped}
use Rattle.machine.specs.Words.{state_by, SoundWords, ReadFrom, WrittenTo}
use Rattle.machine.specs.Acting.{Operands, KindsOf, Effected, Acted}
use Rattle.machine.specs.declared.Sample.{Sample}
use Rattle.machine.specs.declared.Under.{Under}
use Rattle.machine.specs.declared.Action.{Action}
use Rattle.machine.specs.declared.Action.TheVariants.{Set, Add, Subtract, Read, Write, Input, Output, Skip, Unknown}

-- ---- operands, action by action

module _ {action : Action} (o : Operands action) where
  pub of_set : {a n : ℕ} → action ≡ Set a n → a < 8
  unfolding Operands
  of_set e = rw e at o

  pub of_add : {a b c : ℕ} → action ≡ Add a b c → (a < 8) × (b < 8) × (c < 8)
  unfolding Operands
  of_add e = rw e at o

  pub of_subtract : {a b c : ℕ} → action ≡ Subtract a b c → (a < 8) × (b < 8) × (c < 8)
  unfolding Operands
  of_subtract e = rw e at o

  pub of_read : {ch b c : ℕ} → action ≡ Read ch b c → (ch < 16) × (b < 8) × (c < 8)
  unfolding Operands
  of_read e = rw e at o

  pub of_write : {ch b : ℕ} → action ≡ Write ch b → (ch < 16) × (b < 8)
  unfolding Operands
  of_write e = rw e at o

  pub of_input : {a b : ℕ} → action ≡ Input a b → (a < 8) × (b < 8)
  unfolding Operands
  of_input e = rw e at o

  pub of_output : {a : ℕ} → action ≡ Output a → a < 8
  unfolding Operands
  of_output e = rw e at o

  pub of_skip : {a n : ℕ} → action ≡ Skip a n → (a < 8) × (n ≤ 24)
  unfolding Operands
  of_skip e = rw e at o

-- ---- channels

module _ (p : ℕ) (kinds variables words after : List ℕ) (ch : ℕ) where
  pub read_done : (b c : ℕ) {given : Option ℕ} → ReadFrom ch (slice_index kinds (2 * ch)) words after given
      → Effected (Read ch b c) p kinds variables words (slice_set (slice_set variables (8 * p + b) (unwrap_or given 0)) (8 * p + c) (from_bool (is_some given))) after
  unfolding effect
  read_done b c told = record {
    sound = told.sound;
    state = λ net x k. rw (told.value, told.flag, told.contents, k.kind ch);
  }

  pub write_done : (b : ℕ) → WrittenTo ch (slice_index kinds (2 * ch)) (slice_index kinds (2 * ch + 1)) (slice_index variables (8 * p + b)) words after
      → Effected (Write ch b) p kinds variables words variables after
  unfolding effect
  write_done b told = record {
    sound = told.sound;
    state = λ net x k. rw (told.contents, k.kind ch, k.capacity ch);
  }

-- ---- the whole action

-- a job that goes on with its next action
abbrev next : Under → Under
next under = record { at = under.at + 1; output = under.output }

module _ (p : ℕ) (under : Under) (x : Sample) (kinds variables words : List ℕ) {action : Action} where
  -- an action that neither skips nor outputs
  plain : {variables' words' : List ℕ} → SoundWords words' → ((net : Net) → KindsOf net kinds → state_by variables' words' ≡ effect net p x action (state_by variables words))
      → skipped p action (state_by variables words) ≡ 0 → output_after p action (state_by variables words) under.output ≡ under.output
      → Acted action p under x kinds variables words variables' words' (next under)
  plain sound state s o = record { sound = sound; state = state; at = rw s (sym (add-zero (under.at + 1))); output = sym o }

  module _ (sound : SoundWords words) where
    pub acted_set : {a n : ℕ} {variables' : List ℕ} → action ≡ Set a n → variables' ≡ slice_set variables (8 * p + a) n
        → Acted action p under x kinds variables words variables' words (next under)
    unfolding effect skipped output_after
    acted_set e told = plain sound (λ net k. rw (e, told)) (rw e) (rw e)

    pub acted_add : {a b c : ℕ} {variables' : List ℕ} → action ≡ Add a b c
        → variables' ≡ slice_set variables (8 * p + a) ((slice_index variables (8 * p + b) + slice_index variables (8 * p + c)) % 2 ^ 32)
        → Acted action p under x kinds variables words variables' words (next under)
    unfolding effect skipped output_after
    acted_add e told = plain sound (λ net k. rw (e, told)) (rw e) (rw e)

    pub acted_subtract : {a b c : ℕ} {variables' : List ℕ} → action ≡ Subtract a b c
        → variables' ≡ slice_set variables (8 * p + a) ((slice_index variables (8 * p + b) + (2 ^ 32 - slice_index variables (8 * p + c))) % 2 ^ 32)
        → Acted action p under x kinds variables words variables' words (next under)
    unfolding effect skipped output_after
    acted_subtract e told = plain sound (λ net k. rw (e, told)) (rw e) (rw e)

    pub acted_input : {a b : ℕ} {variables' : List ℕ} → action ≡ Input a b
        → variables' ≡ slice_set (slice_set variables (8 * p + a) x.value) (8 * p + b) x.present
        → Acted action p under x kinds variables words variables' words (next under)
    unfolding effect skipped output_after
    acted_input e told = plain sound (λ net k. rw (e, told)) (rw e) (rw e)

    pub acted_output : {a value : ℕ} → action ≡ Output a → value ≡ slice_index variables (8 * p + a)
        → Acted action p under x kinds variables words variables words (record { at = under.at + 1; output = record { present = 1; value = value } })
    unfolding effect skipped output_after
    acted_output e told = record { sound = sound; state = λ net k. rw e; at = rw e (sym (add-zero (under.at + 1))); output = rw (e, told) }

    pub acted_skip : {a n value : ℕ} → action ≡ Skip a n → value ≡ slice_index variables (8 * p + a) → value ≡ 0
        → Acted action p under x kinds variables words variables words (record { at = under.at + 1 + n; output = under.output })
    unfolding effect skipped output_after
    acted_skip {a} e told zero = record { sound = sound; state = λ net k. rw e; at = rw (e, eq-eqb (slice_index variables (8 * p + a)) 0 (sym told ∙ zero)); output = rw e }

    pub acted_stay : {a n value : ℕ} → action ≡ Skip a n → value ≡ slice_index variables (8 * p + a) → value ≢ 0
        → Acted action p under x kinds variables words variables words (next under)
    unfolding effect skipped output_after
    acted_stay {a} e told other = plain sound (λ net k. rw e) (rw (e, ne_eqb (slice_index variables (8 * p + a)) 0 (λ z. other (told ∙ z)))) (rw e)

    pub acted_unknown : action ≡ Unknown → Acted action p under x kinds variables words variables words (next under)
    unfolding effect skipped output_after
    acted_unknown e = plain sound (λ net k. rw e) (rw e) (rw e)

  pub acted_read : {ch b c : ℕ} {variables' words' : List ℕ} → action ≡ Read ch b c → Effected (Read ch b c) p kinds variables words variables' words'
      → Acted action p under x kinds variables words variables' words' (next under)
  unfolding effect skipped output_after
  acted_read e told = plain told.sound (λ net k. rw e (told.state net x k)) (rw e) (rw e)

  pub acted_write : {ch b : ℕ} {variables' words' : List ℕ} → action ≡ Write ch b → Effected (Write ch b) p kinds variables words variables' words'
      → Acted action p under x kinds variables words variables' words' (next under)
  unfolding effect skipped output_after
  acted_write e told = plain told.sound (λ net k. rw e (told.state net x k)) (rw e) (rw e)
