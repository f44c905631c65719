-- Lines of numbers put one after another: the room for them, a line number by number, the lines of jobs.
use Prim.Native.Nat.{ℕ, zero, suc, ◌+◌, ◌-◌, ◌≤◌, ◌<◌}
use mathlib.Core.Path.{◌≡◌, refl, sym, ap}
use mathlib.Core.List.{List, [], ◌∷◌, ◌++◌}
use native.Mathlib.Omega.{arith}
use lib.ListN.{length, length-append}
use Rattle.graph.specs.Work.{job_of}
use Rattle.graph.specs.declared.Job.{Job}
use Rattle.graph.specs.declared.PrecedenceGraph.{PrecedenceGraph}
use Rattle.plan.specs.Plan.{processor_at, start_at}
use Rattle.listing.specs.Listing.{decimal, space, newline, line, numbers_of, jobs_text, frame_text, edges_text, head_line, job_lines, refused_text, at_text, refusal_line}
use Rattle.listing.specs.TextLaws.{line_one, line_more, one_size, more_size, no_lines, next_line, next_size}
use Rattle.listing.specs.Printed.{Printed, text_by}
use Rattle.listing.proofs.Printing.{join, told}

-- ---- one line

-- there is room for a line
pub record Room (from : ℕ) (numbers : List ℕ) : Type 0 where
  pub fits : from + length (line numbers) ≤ 4096

pub room_last : {from n : ℕ} → Room from (n ∷ []) → from + length (decimal n) < 4096
room_last {from} {n} room = omega (arith, room.fits, one_size n)

module _ {from n m : ℕ} {more : List ℕ} (room : Room from (n ∷ m ∷ more)) where
  pub room_first : from + length (decimal n) < 4096
  room_first = omega (arith, room.fits, more_size n m more)

  pub room_next : {before between : List ℕ} {at : ℕ} → Printed before from (decimal n ++ (space ∷ [])) between at → Room at (m ∷ more)
  room_next p = record { fits = omega (arith, room.fits, p.ends, more_size n m more, length-append (decimal n) (space ∷ [])) }

pub put_last : (n : ℕ) {before after : List ℕ} {at next : ℕ} → Printed before at (decimal n ++ (newline ∷ [])) after next → Printed before at (line (n ∷ [])) after next
put_last n p = told p (sym (line_one n))

pub put_more : (n m : ℕ) (more : List ℕ) {before between after : List ℕ} {from at next : ℕ} → Printed before from (decimal n ++ (space ∷ [])) between at
    → Printed between at (line (m ∷ more)) after next → Printed before from (line (n ∷ m ∷ more)) after next
put_more n m more p q = told (join p q) (sym (line_more n m more))

-- ---- the head

module _ (jobs frame edges : ℕ) where
  pub head : {b₀ b₁ b₂ b₃ b₄ b₅ b₆ : List ℕ} {p₀ p₁ p₂ p₃ p₄ p₅ p₆ : ℕ} → Printed b₀ p₀ jobs_text b₁ p₁ → Printed b₁ p₁ (decimal jobs) b₂ p₂ → Printed b₂ p₂ frame_text b₃ p₃
      → Printed b₃ p₃ (decimal frame) b₄ p₄ → Printed b₄ p₄ edges_text b₅ p₅ → Printed b₅ p₅ (decimal edges ++ (newline ∷ [])) b₆ p₆ → Printed b₀ p₀ (head_line jobs frame edges) b₆ p₆
  unfolding head_line
  head a b c d e f = join a (join b (join c (join d (join e f))))

-- ---- a refusal

pub refusal : (number place : ℕ) {b₀ b₁ b₂ b₃ b₄ b₅ : List ℕ} {p₀ p₁ p₂ p₃ p₄ p₅ : ℕ} → Printed b₀ p₀ refused_text b₁ p₁ → Printed b₁ p₁ (decimal number) b₂ p₂ → Printed b₂ p₂ at_text b₃ p₃
    → Printed b₃ p₃ (decimal place) b₄ p₄ → Printed b₄ p₄ (newline ∷ []) b₅ p₅ → Printed b₀ p₀ (refusal_line number place) b₅ p₅
unfolding refusal_line
refusal number place a b c d e = join a (join b (join c (join d e)))

-- ---- the lines of jobs

-- the lines of the first j jobs are put
pub record LinesPut (before : List ℕ) (from : ℕ) (jobs : List Job) (plan : List ℕ) (j : ℕ) (text : List ℕ) (at : ℕ) : Type 0 where
  pub printed : Printed before from (job_lines jobs plan j) text at

module _ (jobs : List Job) (plan : List ℕ) where
  lines_grow : (k j : ℕ) → length (job_lines jobs plan j) ≤ length (job_lines jobs plan (j + k))
  lines_grow zero j = let z : j + 0 ≡ j = omega arith in rw z (omega arith)
  lines_grow (suc k) j =
      let z : j + suc k ≡ j + k + 1 = omega arith in
      rw z (omega (arith, next_size jobs plan (j + k), lines_grow k j))

  pub lines_start : (before : List ℕ) (from : ℕ) → LinesPut before from jobs plan 0 before from
  lines_start before from = record { printed = rw (no_lines jobs plan) (record { stands = refl; ends = omega arith }) }

module _ {before : List ℕ} {from : ℕ} {jobs : List Job} {plan : List ℕ} {j : ℕ} {text : List ℕ} {at : ℕ} (p : LinesPut before from jobs plan j text at) where
  pub lines_room : (n : ℕ) → j < n → from + length (job_lines jobs plan n) ≤ 4096 → at + length (line (numbers_of j (job_of jobs j) (processor_at plan j) (start_at plan j))) ≤ 4096
  lines_room n h room =
      let z : j + 1 + (n - (j + 1)) ≡ n = omega arith in
      let grown : length (job_lines jobs plan (j + 1)) ≤ length (job_lines jobs plan n) = rw z at (lines_grow jobs plan (n - (j + 1)) (j + 1)) in
      omega (arith, p.printed.ends, next_size jobs plan j)

  pub lines_more : {after : List ℕ} {next : ℕ} → Printed text at (line (numbers_of j (job_of jobs j) (processor_at plan j) (start_at plan j))) after next
      → LinesPut before from jobs plan (j + 1) after next
  lines_more q = record { printed = told (join p.printed q) (sym (next_line jobs plan j)) }

  pub lines_done : (n : ℕ) → j ≤ n → n ≤ j → Printed before from (job_lines jobs plan n) text at
  lines_done n h l = let z : j ≡ n = omega arith in told p.printed (ap (job_lines jobs plan) z)

-- ---- the whole

module _ (graph : PrecedenceGraph) (plan : List ℕ) where
  text_size : length (text_by graph plan) ≡ length (head_line graph.job_count graph.frame graph.edges) + length (job_lines graph.jobs plan graph.job_count)
  unfolding text_by
  text_size = length-append (head_line graph.job_count graph.frame graph.edges) (job_lines graph.jobs plan graph.job_count)

  module _ (from : ℕ) (room : from + length (text_by graph plan) ≤ 4096) where
    pub head_room : from + length (head_line graph.job_count graph.frame graph.edges) ≤ 4096
    head_room = omega (arith, text_size)

    module _ {before between : List ℕ} {at : ℕ} (head : Printed before from (head_line graph.job_count graph.frame graph.edges) between at) where
      pub rest_room : at + length (job_lines graph.jobs plan graph.job_count) ≤ 4096
      rest_room = omega (arith, head.ends, text_size)

      pub whole : {after : List ℕ} {next : ℕ} → Printed between at (job_lines graph.jobs plan graph.job_count) after next → Printed before from (text_by graph plan) after next
      unfolding text_by
      whole lines = join head lines
