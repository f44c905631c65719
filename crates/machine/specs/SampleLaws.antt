-- No refusal of samples says "done".
use Rattle.std.specs.Prelude.{ℕ, List}
use Rattle.std.proofs.Common.{arith}
use Rattle.reply.specs.ResultLaws.{Honest, honest_require, honest_order}
use Rattle.reply.specs.declared.Reply.TheVariants.{BadSample}
use Rattle.machine.specs.Samples.{sample_at, good_sample, ok_samples}

pub honest_samples : (n : ℕ) (input : List ℕ) → Honest (ok_samples n input)
unfolding ok_samples
honest_samples n input = honest_order n _ (λ k h. honest_require (good_sample (sample_at input k)) BadSample k (omega arith))
