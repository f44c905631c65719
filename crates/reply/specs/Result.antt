-- The result of a call, or of a step of it, and how steps follow one another: a call's order of checks is written with these.
use Rattle.std.specs.Prelude.{ℕ, zero, suc, Bool, cond}
use Rattle.reply.specs.declared.Reply.{Reply}
use Rattle.reply.specs.declared.Reply.TheVariants.{Done}
use Rattle.reply.specs.declared.Answer.{Answer}

-- done, with what the step gives; or refused, with reply and place
pub data Result (A : Type 0) : Type 0 where
  done : A → Result A
  refused : Reply → ℕ → Result A

-- one step after another; the first refusal is the call's
abbrev pub and_then : {A B : Type 0} → Result A → (A → Result B) → Result B
and_then (done a) next = next a
and_then (refused reply place) next = refused reply place

-- refused unless a test passes
abbrev pub require : Bool → Reply → ℕ → Result (Unit {0})
require test reply place = cond test (done tt) (refused reply place)

-- each of the first n in order, until one refuses
unfoldable pub in_order : ℕ → (ℕ → Result (Unit {0})) → Result (Unit {0})
in_order zero judge = done tt
in_order (suc n) judge = and_then (in_order n judge) λ ok. judge n

-- what a call answers
abbrev pub answer_of : {A : Type 0} → Result A → Answer
answer_of (done a) = record { reply = Done; place = 0 }
answer_of (refused reply place) = record { reply = reply; place = place }

-- a part of what a call gives, or zeros where it is refused
abbrev pub or_zero : {A B : Type 0} → B → (A → B) → Result A → B
or_zero zeros part (done a) = part a
or_zero zeros part (refused reply place) = zeros
