-- Rows of marks as a relation: mark b of row a is a step from a to b. What becomes of the rows when chains may lead through one number more.
use Rattle.std.specs.Prelude.{ℕ, suc, ◌<◌, ◌≡◌, Bool, cond, ◌&&◌, ◌||◌, List, get_or}
use Rattle.std.proofs.Common.{sym, ap, ◌∙◌}
use Rattle.reply.specs.Tests.{split}
use Rattle.marks.specs.Row.{marked, no_marks, or_of}
use Rattle.marks.specs.Laws.{marked_or}
use Rattle.marks.specs.declared.Row.{Row}
use Rattle.network.specs.Chains.{holds, through}
use Rattle.network.specs.ChainLaws.{through_zero, through_suc}

-- the marks of the row and, where it has mark k, those of row k, which is `via`
unfoldable pub joined : ℕ → Row → Row → Row
joined k via row = cond (marked row k) (or_of row via) row

pub marked_joined : (k : ℕ) (via row : Row) (b : ℕ) → marked (joined k via row) b ≡ (marked row b || (marked row k && marked via b))
unfolding joined
marked_joined k via row b = split (marked row k)
    (λ t. rw t (marked_or row via b))
    (λ t. rw t (split (marked row b) (λ u. rw u) (λ u. rw u)))

-- each row below n is joined with row k as it was
pub record Joined (n k : ℕ) (old new : List Row) : Type 0 where
  pub rows : (a : ℕ) → a < n → get_or new a no_marks ≡ joined k (get_or old k no_marks) (get_or old a no_marks)

-- the rows mark where chains lead through numbers below k alone
pub record Leads (n : ℕ) (step : ℕ → ℕ → Bool) (k : ℕ) (rows : List Row) : Type 0 where
  pub marks : (a b : ℕ) → a < n → b < n → marked (get_or rows a no_marks) b ≡ holds (through n step k) a b

pub leads_start : (n : ℕ) (rows : List Row) → Leads n (λ a b. marked (get_or rows a no_marks) b) 0 rows
leads_start n rows = record { marks = λ a b h l. sym (through_zero n (λ a b. marked (get_or rows a no_marks) b) a b h l) }

pub leads_more : (n : ℕ) (step : ℕ → ℕ → Bool) (k : ℕ) (old new : List Row) → k < n → Leads n step k old → Joined n k old new → Leads n step (suc k) new
leads_more n step k old new h l j = record {
  marks = λ a b ha hb.
      ap (λ (r : Row). marked r b) (j.rows a ha)
      ∙ marked_joined k (get_or old k no_marks) (get_or old a no_marks) b
      ∙ rw (l.marks a b ha hb, l.marks a k ha h, l.marks k b h hb) (sym (through_suc n step k a b ha hb));
}
