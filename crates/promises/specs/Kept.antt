-- Where the turn run keeps its parts: what stands between two turns, as a store of `determinism`.
use Rattle.std.specs.Prelude.{ℕ, suc, ◌+◌, ◌*◌, ◌≤◌, refl, true, false, length, set}
use Rattle.std.proofs.Common.{arith, length-set, get_or-set_same, get_or-set_other}
use Rattle.std.proofs.lemmas.List.Edits.{sets}
use Rattle.std.proofs.Math.Seq.{length-sets}
use Rattle.graph.specs.Work.{job_count_of, precedes}
use Rattle.machine.specs.Samples.{sample_at, sample_words}
use Rattle.plan.specs.Plan.{processor_at, start_at}
use Rattle.promises.specs.Turns.{Between, Run, idle, is_finished, stand_of}
use Rattle.determinism.specs.Setup.{Store, Plan, Setup, Apart}
use Rattle.promises.specs.SampleWords.{put_same, put_other}
use Rattle.promises.specs.Jobs.{shape, steps}

-- frame f of a run on so many processors
module _ (r : Run) (processors f : ℕ) where
  abbrev J : ℕ
  J = job_count_of r.work

  abbrev pub store : Store shape
  store = record {
    C = Between;
    shared = λ c. c.state;
    is_finished = is_finished;
    output_of = λ c j. sample_at c.words (f * J + j);
    job = λ c m. (stand_of c m).job;
    own = λ c m. (stand_of c m).under;
    finish = λ m j o s c. record {
      frames = c.frames;
      finished = set c.finished j true;
      processors = set c.processors m idle;
      state = s;
      words = sets c.words (2 * (f * J + j)) (sample_words o);
      working = c.working + 1;
      waiting = c.waiting;
    };
    keep = λ m j u s c. record {
      frames = c.frames;
      finished = c.finished;
      processors = set c.processors m (record { job = suc j; under = u });
      state = s;
      words = c.words;
      working = c.working + 1;
      waiting = c.waiting;
    };
  }

  abbrev pub planned : Plan
  planned = record { n = J; processors = processors; ordered = precedes r.work; processor = processor_at r.plan; start = start_at r.plan }

  abbrev pub setup : Setup shape
  setup = record { steps = steps r.work r.input f; store = store; plan = planned }

  -- the lists are long enough
  pub record Room (c : Between) : Type 0 where
    pub finished_long : J ≤ length c.finished
    pub words_long : 2 * (f * J + J) ≤ length c.words
    pub processors_long : processors ≤ length c.processors

  abbrev pub apart : Apart J processors store
  apart = record {
    Room = Room;
    finish_room = λ m j o s c k. record {
      finished_long = simp length-set k.finished_long;
      words_long = rw (length-sets c.words (2 * (f * J + j)) (sample_words o)) k.words_long;
      processors_long = simp length-set k.processors_long;
    };
    finish_shared = λ m j o s c. refl;
    finish_this = λ m j o s c h k. get_or-set_same c.finished j true false (omega (arith, k.finished_long));
    finish_others = λ m j o s c i d. get_or-set_other c.finished j i true false d;
    finish_output = λ m j o s c h k. put_same c.words (f * J + j) o (omega (arith, k.words_long));
    finish_outputs = λ m j o s c i d. put_other c.words (f * J + j) o (f * J + i) (λ e. d (omega arith));
    finish_job = λ m j o s c h k. rw (get_or-set_same c.processors m idle idle (omega (arith, k.processors_long)));
    finish_jobs = λ m j o s c q d. rw (get_or-set_other c.processors m q idle idle d);
    finish_owns = λ m j o s c q d. rw (get_or-set_other c.processors m q idle idle d);
    keep_room = λ m j u s c k. record {
      finished_long = k.finished_long;
      words_long = k.words_long;
      processors_long = simp length-set k.processors_long;
    };
    keep_shared = λ m j u s c. refl;
    keep_finished = λ m j u s c i. refl;
    keep_outputs = λ m j u s c i. refl;
    keep_job = λ m j u s c h k. rw (get_or-set_same c.processors m (record { job = suc j; under = u }) idle (omega (arith, k.processors_long)));
    keep_jobs = λ m j u s c q d. rw (get_or-set_other c.processors m q (record { job = suc j; under = u }) idle d);
    keep_own = λ m j u s c h k. rw (get_or-set_same c.processors m (record { job = suc j; under = u }) idle (omega (arith, k.processors_long)));
    keep_owns = λ m j u s c q d. rw (get_or-set_other c.processors m q (record { job = suc j; under = u }) idle d);
  }
