-- The lister's text, byte by byte, and its call on a file.
use Rattle.std.specs.Prelude.{ℕ, zero, suc, ◌+◌, ◌/◌, ◌%◌, cond, List, [], ◌∷◌, ◌++◌, length, ltb}
use Rattle.std.proofs.lemmas.List.Edits.{sets}
use Rattle.reply.specs.Reply.{reply_number}
use Rattle.reply.specs.Result.{Result, done, refused, and_then, answer_of, or_zero}
use Rattle.reply.specs.Call.{ok_room}
use Rattle.graph.specs.Work.{Work, load_work, job_of, job_count_of}
use Rattle.graph.specs.Graph.{edge_count}
use Rattle.graph.specs.declared.Job.{Job}
use Rattle.plan.specs.Plan.{processor_at, start_at, planned_by}
use Rattle.listing.specs.declared.Listed.{Listed}

-- ---- numbers and lines

-- the digit of a number below 10
abbrev pub digit : ℕ → ℕ
digit n = 48 + n

-- a number in plain decimal, with at most so many digits before the last
unfoldable pub digits : ℕ → ℕ → List ℕ
digits zero n = digit (n % 10) ∷ []
digits (suc more) n = let high = digits more (n / 10) in cond (ltb n 10) [] high ++ (digit (n % 10) ∷ [])

-- twenty digits hold every number of 64 bits
unfoldable pub decimal : ℕ → List ℕ
decimal n = digits 19 n

abbrev pub space : ℕ
space = 32

abbrev pub newline : ℕ
newline = 10

-- numbers with single spaces between them, and a newline after the last
unfoldable pub line : List ℕ → List ℕ
line [] = newline ∷ []
line (n ∷ []) = decimal n ++ (newline ∷ [])
line (n ∷ m ∷ more) = decimal n ++ (space ∷ line (m ∷ more))

-- ---- the listing

-- "jobs "
abbrev pub jobs_text : List ℕ
jobs_text = 106 ∷ 111 ∷ 98 ∷ 115 ∷ 32 ∷ []

-- " frame "
abbrev pub frame_text : List ℕ
frame_text = 32 ∷ 102 ∷ 114 ∷ 97 ∷ 109 ∷ 101 ∷ 32 ∷ []

-- " edges "
abbrev pub edges_text : List ℕ
edges_text = 32 ∷ 101 ∷ 100 ∷ 103 ∷ 101 ∷ 115 ∷ 32 ∷ []

-- "jobs J frame H edges E"
unfoldable pub head_line : ℕ → ℕ → ℕ → List ℕ
head_line jobs frame edges = jobs_text ++ (decimal jobs ++ (frame_text ++ (decimal frame ++ (edges_text ++ (decimal edges ++ (newline ∷ []))))))

-- "job, process, release, deadline, budget, processor, start"
abbrev pub numbers_of : ℕ → Job → ℕ → ℕ → List ℕ
numbers_of j job processor start = j ∷ job.process ∷ job.release ∷ job.deadline ∷ job.budget ∷ processor ∷ start ∷ []

unfoldable pub job_numbers : List Job → List ℕ → ℕ → List ℕ
job_numbers jobs plan j = numbers_of j (job_of jobs j) (processor_at plan j) (start_at plan j)

unfoldable pub job_line : List Job → List ℕ → ℕ → List ℕ
job_line jobs plan j = line (job_numbers jobs plan j)

-- the first n job lines
unfoldable pub job_lines : List Job → List ℕ → ℕ → List ℕ
job_lines jobs plan zero = []
job_lines jobs plan (suc n) = job_lines jobs plan n ++ job_line jobs plan n

-- the listing of a work with a plan
unfoldable pub listing_text : Work → List ℕ → List ℕ
listing_text w plan = head_line (job_count_of w) w.frame (edge_count w) ++ job_lines w.jobs plan (job_count_of w)

-- ---- the call

-- "plans for two processors"
unfoldable pub listed : List ℕ → Result (List ℕ)
listed file =
    and_then (load_work file) λ w.
    and_then (planned_by w 2) λ plan.
    done (listing_text w plan)

-- the file, the planner's 19, and then the room for the text: where there is no plan there is no text to fill memory with
unfoldable pub list_call : List ℕ → List ℕ → Result (List ℕ)
list_call file out =
    and_then (listed file) λ text.
    and_then (ok_room (length text) out) λ ok.
    done text

-- what the call returns, and the lent bytes afterwards
unfoldable pub listed_of : Result (List ℕ) → Listed
listed_of r = record { answer = answer_of r; length = or_zero 0 (λ (text : List ℕ). length text) r }

unfoldable pub list_filled : Result (List ℕ) → List ℕ → List ℕ
list_filled r out = or_zero out (λ (text : List ℕ). sets out 0 text) r

-- ---- what the lister prints

-- "refused "
abbrev pub refused_text : List ℕ
refused_text = 114 ∷ 101 ∷ 102 ∷ 117 ∷ 115 ∷ 101 ∷ 100 ∷ 32 ∷ []

-- " at "
abbrev pub at_text : List ℕ
at_text = 32 ∷ 97 ∷ 116 ∷ 32 ∷ []

-- "refused N at P"
unfoldable pub refusal_line : ℕ → ℕ → List ℕ
refusal_line number place = refused_text ++ (decimal number ++ (at_text ++ (decimal place ++ (newline ∷ []))))

abbrev pub printed : Result (List ℕ) → List ℕ
printed (done text) = text
printed (refused reply place) = refusal_line (reply_number reply) place

unfoldable pub page_of : List ℕ → List ℕ
page_of file = printed (listed file)
