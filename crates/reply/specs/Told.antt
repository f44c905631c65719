-- How the code says a result: `Ok` with what the step gives, or `Err` with the refusal. And what a call answers that says no more than that.
use Rattle.std.specs.Prelude.{◌≡◌, Ok, Err, false, cond, eqb}
use Rattle.std.proofs.Common.{arith, refl}
use Rattle.std.specs.declared.result.Result as Std
use Rattle.reply.specs.Result.{Result, done, refused, answer_of}
use Rattle.reply.specs.ResultLaws.{Honest}
use Rattle.reply.specs.Reply.{reply_number}
use Rattle.reply.specs.declared.Reply.TheVariants.{Done}
use Rattle.reply.specs.declared.Refusal.{Refusal}
use Rattle.reply.specs.declared.Answer.{Answer}

-- what the step gives, in the code's own form
abbrev pub told : {A B : Type 0} → (A → B) → Result A → Std.Result B Refusal
told f (done a) = Ok (f a)
told f (refused reply place) = Err (record { reply = reply; place = place })

-- of a step that gives nothing
abbrev pub judged : Result (Unit {0}) → Std.Result (Unit {0}) Refusal
judged = told (λ ok. ok)

-- what a call answers that came to this
abbrev pub answered : Std.Result (Unit {0}) Refusal → Answer
answered (Ok ok) = record { reply = Done; place = 0 }
answered (Err refusal) = record { reply = refusal.reply; place = refusal.place }

-- and back: the refusal that an answer is, if it is one
abbrev pub refusal_in : Answer → Std.Result (Unit {0}) Refusal
refusal_in answer = cond (eqb (reply_number answer.reply) 0) (Ok tt) (Err (record { reply = answer.reply; place = answer.place }))

-- of what a call answers, it is what the call came to
pub refusal_told : {A : Type 0} (r : Result A) → Honest r → refusal_in (answer_of r) ≡ told (λ a. tt) r
refusal_told (done a) h = refl
refusal_told (refused reply place) h = let z : eqb (reply_number reply) 0 ≡ false = grind (arith, h.above reply place refl) in rw z
