-- One program, and the loop that reads all of them into lent memory: what is read so far, one more, a refusal.
use Prim.Native.Nat.{ℕ, ◌+◌, ◌*◌, ◌≤◌, ◌<◌}
use mathlib.Core.Path.{◌≡◌, refl, sym, ap, subst, ◌∙◌}
use mathlib.Core.List.{List, [], ◌∷◌, ◌++◌}
use native.Mathlib.Omega.{arith}
use native.Mathlib.Numerals.{add-one}
use lib.ListN.{length, set, replicate, length-append}
use lib.Seq.{sets}
use Rattle.std.specs.Prelude.{Ok, Err}
use Rattle.reply.specs.declared.Refusal.{Refusal}
use Rattle.reply.specs.Result.{Result, done, refused}
use Rattle.reply.specs.ResultLaws.{accepted, refused_not}
use Rattle.reply.specs.declared.Reply.{Reply}
use Rattle.number.specs.Parts.{Part, part, many}
use Rattle.number.specs.PartLaws.{many_zero, many_more, many_refused, many_length}
use Rattle.number.specs.Told.{part_told, part_ok, part_err, pair_same}
use Rattle.network.specs.Lists.{each_of, fill_to}
use Rattle.network.specs.ListLaws.{fill_none, fill_store}
use Rattle.network.specs.Net.{four_fields, program_room, lengths}
use Rattle.network.specs.Read.{ranged, one_action, one_program}
use Rattle.network.specs.ProgramLaws.{lengths_more, length_lengths, rooms_more, length_rooms_more}
use Rattle.network.specs.declared.Channel.{Channel}
use Rattle.network.specs.declared.Four.{Four}
use Rattle.reader.specs.ProgramsTold.{next_told, program_of, program_length, ActionsTold, ProgramTold, ProgramsTold}
use Rattle.reader.proofs.Lists.{ranged_most}

-- ---- what the code is told

next_is : {A : Type 0} {next : ℕ} (r : Result (Part A)) → Ok next ≡ next_told r → (it : A) × (r ≡ part it next)
next_is {next = next} (done p) e = let n : next ≡ p.next = cc in (p.it, rw n)
next_is (refused reply place) e = cc

pub next_ok : {A P : Type 0} {next : ℕ} (r : Result (Part A)) → Ok next ≡ next_told r → ((it : A) → r ≡ part it next → P) → P
next_ok r e k = let (it, is) = next_is r e in k it is

pub next_err : {A : Type 0} {e : Refusal} (r : Result (Part A)) → Err e ≡ next_told r → r ≡ refused e.reply e.place
next_err (done p) is = cc
next_err (refused reply place) is = cc

-- the program behind its length
length_ok : {P : Type 0} {value next : ℕ} (r : Result (Part (List Four))) → Ok (value, next) ≡ part_told (program_length r)
    → ((program : List Four) → r ≡ part program next → value ≡ length program → P) → P
unfolding program_length
length_ok (done p) e k = let (l, n) = pair_same e in k p.it (rw n) l
length_ok (refused reply place) e k = cc

length_err : {e : Refusal} (r : Result (Part (List Four))) → Err e ≡ part_told (program_length r) → r ≡ refused e.reply e.place
unfolding program_length
length_err (done p) is = cc
length_err (refused reply place) is = cc

-- ---- one program

module _ (file : List ℕ) (channels : List Channel) (p at : ℕ) where
  program_from : (n here : ℕ) → ranged file 0 24 at ≡ part n here → program_of file channels p at ≡ many n (one_action file channels p n) here
  unfolding program_of
  program_from n here e = rw e

  program_small : (program : List Four) (next : ℕ) → program_of file channels p at ≡ part program next → length program ≤ 24
  unfolding program_of
  program_small program next e =
      accepted (ranged file 0 24 at) (λ v. many v.it (one_action file channels p v.it) v.next) _ e λ v r e₁.
      let h : v.it ≤ 24 = ranged_most file 0 24 at r in
      let l : length program ≡ v.it = many_length (one_action file channels p v.it) v.next v.it program next e₁ in
      omega arith

  module _ (before after : List ℕ) where
    program_not : (reply : Reply) (place : ℕ) → program_of file channels p at ≡ refused reply place → ProgramTold file channels p at before after (Err (record { reply = reply; place = place }))
    unfolding program_length
    program_not reply place e = record { answer = rw e; stored = λ program next f. refused_not (sym e ∙ f) }

    module _ {n here : ℕ} (got : Ok (n, here) ≡ part_told (ranged file 0 24 at)) where
      number_is : ranged file 0 24 at ≡ part n here
      number_is = part_ok (ranged file 0 24 at) got

      pub program_read : {next : ℕ} → ActionsTold file channels p n here before after (Ok next) → ProgramTold file channels p at before after (Ok (n, next))
      unfolding program_length
      program_read told =
          next_ok (many n (one_action file channels p n) here) told.answer λ program g.
          let l : length program ≡ n = many_length (one_action file channels p n) here n program _ g in
          record {
            answer = rw (program_from n here number_is, g, l);
            stored = λ program next h. told.stored program next (sym (program_from n here number_is) ∙ h);
          }

      pub program_stops : {e : Refusal} → ActionsTold file channels p n here before after (Err e) → ProgramTold file channels p at before after (Err e)
      program_stops told = program_not _ _ (program_from n here number_is ∙ next_err (many n (one_action file channels p n) here) told.answer)

    pub program_none : {e : Refusal} → Err e ≡ part_told (ranged file 0 24 at) → ProgramTold file channels p at before after (Err e)
    unfolding program_of
    program_none told = program_not _ _ (rw (part_err (ranged file 0 24 at) told))

program_any : (file : List ℕ) (channels : List Channel) (before : List (List Four)) (at : ℕ) → one_program file channels before at ≡ program_of file channels (length before) at
unfolding one_program program_of
program_any file channels before at = refl

-- ---- the loop

-- the programs of p processes are read, up to `at`; their lengths stand in the counts, and each program in its room
pub record ProgramsSoFar (file : List ℕ) (channels : List Channel) (from p at : ℕ) (counts actions : List ℕ) : Type 0 where
  pub read : List (List Four)
  pub size : length read ≡ p
  pub gives : many p (one_program file channels) from ≡ part read at
  pub counted : counts ≡ fill_to 12 0 (lengths read)
  pub stands : actions ≡ fill_to 1152 0 (each_of program_room read)
  pub room : length (each_of program_room read) ≡ 96 * p

module _ (file : List ℕ) (channels : List Channel) (from : ℕ) where
  abbrev one : List (List Four) → ℕ → Result (Part (List Four))
  one = one_program file channels

  pub programs_start : (counts actions : List ℕ) → counts ≡ replicate 12 0 → actions ≡ replicate 1152 0 → ProgramsSoFar file channels from 0 from counts actions
  unfolding each_of
  programs_start counts actions e f = record {
    read = [];
    size = refl;
    gives = many_zero one from;
    counted = e ∙ sym (fill_none 12 0);
    stands = f ∙ sym (fill_none 1152 0);
    room = refl;
  }

  programs_not : (count : ℕ) (counts actions : List ℕ) (reply : Reply) (place : ℕ) → many count one from ≡ refused reply place
      → ProgramsTold file channels count from counts actions (Err (record { reply = reply; place = place }))
  programs_not count counts actions reply place e = record {
    answer = rw e;
    counted = λ programs next f. refused_not (sym e ∙ f);
    stored = λ programs next f. refused_not (sym e ∙ f);
  }

  module _ {p at : ℕ} {counts actions : List ℕ} (s : ProgramsSoFar file channels from p at counts actions) where
    is : {r : Result (Part (List Four))} → program_of file channels p at ≡ r → one s.read at ≡ r
    is e = program_any file channels s.read at ∙ ap (λ m. program_of file channels m at) s.size ∙ e

    more : (program : List Four) (next : ℕ) (after : List ℕ) → p < 12 → program_of file channels p at ≡ part program next
        → after ≡ sets actions (96 * p) (each_of four_fields program) → ProgramsSoFar file channels from (p + 1) next (set counts p (length program)) after
    more program next after h e f =
        let small : length program ≤ 24 = program_small file channels p at program next e in
        let row : length (lengths s.read) ≡ p = length_lengths s.read ∙ s.size in
        let rooms : length (each_of program_room s.read) ≡ 96 * p = s.room in
        record {
          read = s.read ++ (program ∷ []);
          size = length-append s.read (program ∷ []) ∙ omega (arith, s.size);
          gives = rw (add-one p) (many_more one from p s.read at program next s.gives (is e));
          counted =
              ap (λ (l : List ℕ). set l p (length program)) s.counted
              ∙ subst (λ k. set (fill_to 12 0 (lengths s.read)) k (length program) ≡ fill_to 12 0 (lengths s.read ++ (length program ∷ []))) row
              (fill_store 12 0 (lengths s.read) (length program) (omega arith))
              ∙ ap (fill_to 12 0) (sym (lengths_more s.read program));
          stands =
              f
              ∙ ap (λ (l : List ℕ). sets l (96 * p) (each_of four_fields program)) s.stands
              ∙ ap (λ k. sets (fill_to 1152 0 (each_of program_room s.read)) k (each_of four_fields program)) (sym rooms)
              ∙ rooms_more 1152 s.read program small (omega arith);
          room = length_rooms_more s.read program small ∙ omega arith;
        }

    pub programs_step : {value next : ℕ} {after : List ℕ} → p < 12 → ProgramTold file channels p at actions after (Ok (value, next)) → ProgramsSoFar file channels from (p + 1) next (set counts p value) after
    programs_step {value} {next} {after} h told =
        length_ok (program_of file channels p at) told.answer λ program e l.
        subst (λ m. ProgramsSoFar file channels from (p + 1) next (set counts p m) after) (sym l) (more program next after h e (told.stored program next e))

    pub programs_stop : {count : ℕ} (counts' : List ℕ) {after : List ℕ} {e : Refusal} → p < count → ProgramTold file channels p at actions after (Err e)
        → ProgramsTold file channels count from counts' after (Err e)
    programs_stop {count} counts' {after} {e} h told =
        programs_not count counts' after e.reply e.place (many_refused one from p count s.read at e.reply e.place h s.gives (is (length_err (program_of file channels p at) told.answer)))
