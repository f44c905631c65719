-- What stands so far: nothing, and one more job.
use Rattle.std.specs.Prelude.{ℕ, ◌+◌, ◌*◌, List, get_or, set, replicate}
use Rattle.marks.specs.Row.{with_of, no_marks}
use Rattle.plan.specs.declared.standing.Standing.{Standing}

abbrev pub nothing_by : Standing
nothing_by = record { jobs = no_marks; ends = replicate 128 0; last = replicate 4 0; words = replicate 256 0 }

-- one more job stands, with its two words, on a processor until `end`
abbrev pub stand_by : Standing → ℕ → ℕ → List ℕ → ℕ → Standing
stand_by s job processor words end = record {
  jobs = with_of s.jobs job;
  ends = set s.ends job end;
  last = set s.last processor end;
  words = set (set s.words (2 * job) (get_or words 0 0)) (2 * job + 1) (get_or words 1 0);
}
