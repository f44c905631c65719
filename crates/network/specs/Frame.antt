-- The frame: its length, and how many jobs it has.
use Rattle.std.specs.Prelude.{ℕ, ◌*◌, ◌/◌, ◌%◌, Bool, ◌&&◌, List, length, get_or, leb, eqb}
use Rattle.reply.specs.Tools.{sum, first_from}
use Rattle.network.specs.Lists.{every}
use Rattle.network.specs.declared.Process.{Process}

abbrev pub no_process : Process
no_process = record { period = 0; burst = 0; deadline = 0; budget = 0 }

abbrev pub process_at : List Process → ℕ → Process
process_at processes p = get_or processes p no_process

abbrev pub divides : ℕ → Process → Bool
divides h p = eqb (h % p.period) 0

-- "the least common multiple of the periods, at most 2000": the least number from 1 to 2000 that every period divides; 2001 if there is none, a frame too long
unfoldable pub frame_length : List Process → ℕ
frame_length processes = first_from 2000 1 (λ h. every (divides h) processes)

-- "each process releases its burst at 0, T, 2T, .. below H"
abbrev pub jobs_of : ℕ → Process → ℕ
jobs_of frame p = p.burst * (frame / p.period)

unfoldable pub job_count : List Process → ℕ
job_count processes = sum (length processes) (λ p. jobs_of (frame_length processes) (process_at processes p))

-- "at most 2000", "at most 128 jobs in all"
unfoldable pub fits_frame : List Process → Bool
fits_frame processes = leb (frame_length processes) 2000 && leb (job_count processes) 128
