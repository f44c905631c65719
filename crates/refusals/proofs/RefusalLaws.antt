-- How a call keeps P10: its definition says "done" in no refusal, what it returns is zero where that is refused, and it writes so many words from the front.
use Rattle.std.specs.Prelude.{ℕ, suc, ◌+◌, ◌≤◌, ◌<◌, ◌≡◌, refl, List, [], ◌∷◌, length, get_or, set}
use Rattle.std.proofs.Common.{sym, ◌∙◌, arith, get_or-set_other}
use Rattle.std.proofs.lemmas.List.Edits.{sets}
use Rattle.std.proofs.Math.Seq.{length-sets}
use Rattle.reply.specs.Result.{Result, done, refused, answer_of, or_zero}
use Rattle.reply.specs.ResultLaws.{Honest, refused_not}
use Rattle.reply.specs.declared.Reply.{Reply}
use Rattle.refusals.specs.Refusals.{Returns, Leaves}

pub returns : {A : Type 0} (Zero : Result A → Type 0) (call : Result A) → Honest call → ((reply : Reply) (place : ℕ) → Zero (refused reply place))
    → Returns call (answer_of call) (Zero call)
returns Zero (done a) honest zero = record {
  done_exactly = ((λ e. (a, refl)), (λ e. refl));
  refused_exactly = ((λ l. absurd (omega arith)), (λ e. refused_not (sym e)));
  done_place = λ e. refl;
  refused_zero = λ l. absurd (omega arith);
}
returns Zero (refused reply place) honest zero =
    let above : 0 < _ = honest.above reply place refl in
    record {
      done_exactly = ((λ e. absurd (omega arith)), (λ e. refused_not e.1));
      refused_exactly = ((λ l. refl), (λ e. above));
      done_place = λ e. absurd (omega arith);
      refused_zero = λ l. zero reply place;
    }

-- a write touches nothing beyond it
sets_beyond : (words memory : List ℕ) (at k : ℕ) → at + length words ≤ k → get_or (sets memory at words) k 0 ≡ get_or memory k 0
sets_beyond [] memory at k h = refl
sets_beyond (x ∷ words) memory at k h =
    sets_beyond words (set memory at x) (suc at) k (omega arith) ∙ get_or-set_other memory at k x 0 (λ e. omega arith)

-- what a call that is done has: as many words as it fills, and room for them
pub record Fills (words : List ℕ) (filled : ℕ) (before : List ℕ) : Type 0 where
  pub long : length words ≡ filled
  pub there : filled ≤ length before

pub leaves : {A : Type 0} (words : A → List ℕ) (filled : ℕ) (before : List ℕ) (call : Result A) → Honest call
    → ((a : A) → call ≡ done a → Fills (words a) filled before)
    → Leaves (answer_of call) filled before (or_zero before (λ (a : A). sets before 0 (words a)) call)
leaves words filled before (done a) honest fills =
    let f : Fills (words a) filled before = fills a refl in
    record {
      refused_same = λ l. absurd (omega arith);
      done_there = λ e. f.there;
      beyond_same = λ k h. sets_beyond (words a) before 0 k (omega arith);
      length_same = length-sets before 0 (words a);
    }
leaves words filled before (refused reply place) honest fills = record {
  refused_same = λ l. refl;
  done_there = λ e. absurd (omega (arith, honest.above reply place refl));
  beyond_same = λ k h. refl;
  length_same = refl;
}
