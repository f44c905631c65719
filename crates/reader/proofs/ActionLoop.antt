-- The loop that reads a program's actions into lent memory: what is read so far, one more, a refusal.
use Prim.Native.Nat.{suc, ℕ, ◌+◌, ◌*◌, ◌<◌}
use mathlib.Core.Path.{◌≡◌, refl, sym, ap, ◌∙◌}
use mathlib.Core.Bool.{Bool, true, false}
use mathlib.Core.List.{List, [], ◌∷◌, ◌++◌}
use native.Mathlib.Omega.{arith}
use native.Mathlib.Numerals.{add-one}
use lib.ListN.{set, length, length-append}
use lib.Seq.{sets}
use Rattle.std.specs.Prelude.{Ok, Err, Option}
use Rattle.reply.specs.Result.{Result, done, refused, and_then, require}
use Rattle.reply.specs.ResultLaws.{refused_not}
use Rattle.reply.specs.declared.Reply.{Reply}
use Rattle.reply.specs.declared.Reply.TheVariants.{BadAction}
use Rattle.reply.specs.declared.Refusal.{Refusal}
use Rattle.number.specs.Told.{part_told, part_ok, part_err}
use Rattle.number.specs.Parts.{Part, part, reading, many}
use Rattle.number.specs.PartLaws.{many_zero, many_more, many_refused}
use Rattle.number.specs.PutLaws.{sets_append}
use Rattle.number.specs.Number.{number_at}
use Rattle.network.specs.Lists.{each_of}
use Rattle.network.specs.ListLaws.{each_more}
use Rattle.network.specs.Net.{four_fields}
use Rattle.network.specs.Read.{good_action, one_action}
use Rattle.network.specs.ProgramLaws.{length_actions}
use Rattle.network.specs.ProgramsTold.{named, Judged}
use Rattle.network.specs.declared.Channel.{Channel}
use Rattle.network.specs.declared.Four.{Four}
use Rattle.reader.specs.ProgramsTold.{four_numbers, ActionsTold}

-- ---- an action in memory

pub four_stores : (l : List ℕ) (at w x y z : ℕ) → set (set (set (set l at w) (at + 1) x) (at + 2) y) (at + 3) z ≡ sets l at (w ∷ x ∷ y ∷ z ∷ [])
four_stores l at w x y z =
    let one : at + 1 ≡ suc at = omega arith in
    let two : at + 2 ≡ suc (suc at) = omega arith in
    let three : at + 3 ≡ suc (suc (suc at)) = omega arith in
    rw (one, two, three)

-- ---- an action is its four numbers, judged

module _ {B : Type 0} (s : ℕ → Result (Part ℕ)) (judge : Four → ℕ → Result B) where
  one_left : (h a b : ℕ) (r : Result (Part ℕ)) → (reading r λ c n. judge (record { head = h; a = a; b = b; c = c }) n) ≡ reading (reading r λ c n. part (record { head = h; a = a; b = b; c = c }) n) judge
  one_left h a b (done p) = refl
  one_left h a b (refused reply place) = refl

  two_left : (h a : ℕ) (r : Result (Part ℕ)) → (reading r λ b n. reading (s n) λ c n. judge (record { head = h; a = a; b = b; c = c }) n)
      ≡ reading (reading r λ b n. reading (s n) λ c n. part (record { head = h; a = a; b = b; c = c }) n) judge
  two_left h a (done p) = one_left h a p.it (s p.next)
  two_left h a (refused reply place) = refl

  three_left : (h : ℕ) (r : Result (Part ℕ)) → (reading r λ a n. reading (s n) λ b n. reading (s n) λ c n. judge (record { head = h; a = a; b = b; c = c }) n)
      ≡ reading (reading r λ a n. reading (s n) λ b n. reading (s n) λ c n. part (record { head = h; a = a; b = b; c = c }) n) judge
  three_left h (done p) = two_left h p.it (s p.next)
  three_left h (refused reply place) = refl

  all_left : (r : Result (Part ℕ)) → (reading r λ h n. reading (s n) λ a n. reading (s n) λ b n. reading (s n) λ c n. judge (record { head = h; a = a; b = b; c = c }) n)
      ≡ reading (reading r λ h n. reading (s n) λ a n. reading (s n) λ b n. reading (s n) λ c n. part (record { head = h; a = a; b = b; c = c }) n) judge
  all_left (done p) = three_left p.it (s p.next)
  all_left (refused reply place) = refl

module _ (file : List ℕ) (channels : List Channel) (p n : ℕ) (before : List Four) (at : ℕ) where
  judged : Four → ℕ → Result (Part Four)
  judged four next = and_then (require (good_action channels p n (length before) four) BadAction at) λ ok. part four next

  action_judged : one_action file channels p n before at ≡ reading (four_numbers file at) judged
  unfolding one_action four_numbers judged
  action_judged = all_left (number_at file) judged (number_at file at)

  pub action_good : (four : Four) (next : ℕ) → four_numbers file at ≡ part four next → good_action channels p n (length before) four ≡ true
      → one_action file channels p n before at ≡ part four next
  unfolding judged
  action_good four next e g = action_judged ∙ rw (e, g)

  pub action_bad : (four : Four) (next : ℕ) → four_numbers file at ≡ part four next → good_action channels p n (length before) four ≡ false
      → one_action file channels p n before at ≡ refused BadAction at
  unfolding judged
  action_bad four next e g = action_judged ∙ rw (e, g)

  pub action_not : (reply : Reply) (place : ℕ) → four_numbers file at ≡ refused reply place → one_action file channels p n before at ≡ refused reply place
  unfolding judged
  action_not reply place e = action_judged ∙ rw e

-- ---- the loop

-- k of process p's n actions are read, up to `at`, and stand from 96 * p on
pub record ActionsSoFar (file : List ℕ) (channels : List Channel) (p n from : ℕ) (before : List ℕ) (k at : ℕ) (stored : List ℕ) : Type 0 where
  pub read : List Four
  pub size : length read ≡ k
  pub gives : many k (one_action file channels p n) from ≡ part read at
  pub stands : stored ≡ sets before (96 * p) (each_of four_fields read)

module _ (file : List ℕ) (channels : List Channel) (p n from : ℕ) (before : List ℕ) where
  abbrev one : List Four → ℕ → Result (Part Four)
  one = one_action file channels p n

  pub actions_start : ActionsSoFar file channels p n from before 0 from before
  unfolding each_of
  actions_start = record { read = []; size = refl; gives = many_zero one from; stands = refl }

  told_not : (after : List ℕ) (reply : Reply) (place : ℕ) → many n one from ≡ refused reply place → ActionsTold file channels p n from before after (Err (record { reply = reply; place = place }))
  told_not after reply place e = record { answer = rw e; stored = λ program next f. refused_not (sym e ∙ f) }

  module _ {k at : ℕ} {stored : List ℕ} (s : ActionsSoFar file channels p n from before k at stored) where
    module _ {four : Four} {next : ℕ} (got : Ok (four, next) ≡ part_told (four_numbers file at)) {good : Bool} {channel : Option Channel} (named_is : channel ≡ named channels four.a)
        (told : Judged channel p n k four good) where
      is : four_numbers file at ≡ part four next
      is = part_ok (four_numbers file at) got

      judgement : good ≡ good_action channels p n (length s.read) four
      judgement = told.same channels named_is ∙ ap (λ m. good_action channels p n m four) (sym s.size)

      pub actions_step : {after : List ℕ} → good ≡ true → after ≡ sets stored (96 * p + 4 * k) (four_fields four) → ActionsSoFar file channels p n from before (k + 1) next after
      actions_step g f =
          let size : length (each_of four_fields s.read) ≡ 4 * k = length_actions s.read ∙ ap (λ m. 4 * m) s.size in
          record {
            read = s.read ++ (four ∷ []);
            size = length-append s.read (four ∷ []) ∙ omega (arith, s.size);
            gives = rw (add-one k) (many_more one from k s.read at four next s.gives (action_good file channels p n s.read at four next is (sym judgement ∙ g)));
            stands =
                f
                ∙ ap (λ (l : List ℕ). sets l (96 * p + 4 * k) (four_fields four)) s.stands
                ∙ ap (λ m. sets (sets before (96 * p) (each_of four_fields s.read)) (96 * p + m) (four_fields four)) (sym size)
                ∙ sym (sets_append before (96 * p) (each_of four_fields s.read) (four_fields four))
                ∙ ap (sets before (96 * p)) (sym (each_more four_fields s.read four));
          }

      pub actions_bad : (after : List ℕ) → k < n → good ≡ false → ActionsTold file channels p n from before after (Err (record { reply = BadAction; place = at }))
      actions_bad after h g =
          told_not after BadAction at (many_refused one from k n s.read at BadAction at h s.gives (action_bad file channels p n s.read at four next is (sym judgement ∙ g)))

    pub actions_not : {e : Refusal} (after : List ℕ) → k < n → Err e ≡ part_told (four_numbers file at) → ActionsTold file channels p n from before after (Err e)
    actions_not {e} after h told =
        told_not after e.reply e.place (many_refused one from k n s.read at e.reply e.place h s.gives (action_not file channels p n s.read at e.reply e.place (part_err (four_numbers file at) told)))
