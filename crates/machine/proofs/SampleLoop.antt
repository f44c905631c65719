-- The loop of `samples::judge`: samples that are judged one after another.
use Rattle.std.proofs.Common.{◌≡◌, ℕ, ◌+◌, ◌<◌, ◌≤◌, Bool, true, false, List, sym, ◌∙◌, add-one, arith}
use Rattle.reply.specs.Result.{Result, done, refused, require}
use Rattle.reply.specs.ResultLaws.{order_zero, order_more, order_refused}
use Rattle.reply.specs.declared.Reply.TheVariants.{BadSample}
use Rattle.machine.specs.Samples.{sample_at, good_sample, ok_samples}

module _ (input : List ℕ) where
  abbrev one : ℕ → Result (Unit {0})
  one k = require (good_sample (sample_at input k)) BadSample k

  pub start : ok_samples 0 input ≡ done tt
  unfolding ok_samples
  start = order_zero one

  module _ (k : ℕ) (so_far : ok_samples k input ≡ done tt) {t : Bool} (judged : t ≡ good_sample (sample_at input k)) where
    pub go_on : t ≡ true → ok_samples (k + 1) input ≡ done tt
    unfolding ok_samples
    go_on e = rw (add-one k) (order_more one k so_far ∙ rw (sym judged ∙ e))

    pub stop : (count : ℕ) → k < count → t ≡ false → ok_samples count input ≡ refused BadSample k
    unfolding ok_samples
    stop count h e = order_refused one k count BadSample k h so_far (rw (sym judged ∙ e))

  pub finish : (k count : ℕ) → k ≤ count → count ≤ k → ok_samples k input ≡ done tt → ok_samples count input ≡ done tt
  finish k count h l e = let z : count ≡ k = omega arith in rw z e
