-- The proofs of P6, P7 and P8, and that any two runs of one file agree.
use Rattle.std.specs.Prelude.{ℕ, ◌+◌, ◌*◌, ◌≡◌, List, length, get_or}
use Rattle.std.proofs.Common.{sym, ap, subst, ◌∙◌, arith}
use Rattle.reply.specs.Result.{done}
use Rattle.reply.specs.ResultLaws.{done_same}
use Rattle.network.specs.Net.{Net}
use Rattle.network.specs.Read.{load}
use Rattle.graph.specs.Work.{work_of, job_count_of}
use Rattle.machine.specs.Samples.{sample_at}
use Rattle.zero_delay.specs.ZeroDelay.{ran_jobs}
use Rattle.promises.specs.Turns.{Between, Run, stand_of, turn, turn_call}
use Rattle.promises.specs.TurnLaws.{turns_to, to_more, to_all, each_counted}
use Rattle.promises.specs.Jobs.{done_job, ran_length}
use Rattle.promises.proofs.Running.{Fit, Any, run_any}
use Rattle.promises.specs.Accepted.{run_of}
use Rattle.promises.proofs.Accepted.{Called, called}
use Rattle.promises.specs.Outputs.{HasFinished}
use Rattle.promises.proofs.Outputs.{finished_is, finished_same, unfinished_is, words_same, state_same}
use Rattle.promises.proofs.Stretches.{to_any, stretch_to, frame_to, all_to, waits_to}
use Rattle.promises.specs.Actions.{OneAction}
use Rattle.promises.proofs.Actions.{under_way, own_turn, kept}
use Rattle.promises.proofs.Finishing.{finishes_there}
use Rattle.promises.specs.Promise.{AsZeroDelay, GoesForward, Uninterrupted, Promised, Agreeing}

module _ (r : Run) (m : ℕ) (g : Fit r m) where
  as_zero_delay : (c : Between) → Any r m g c → AsZeroDelay (job_count_of r.work) r.asked c (ran_jobs r.work r.input (job_count_of r.work * r.asked))
  as_zero_delay c (e, v) = record {
    finished = finished_same r m g e c v;
    unfinished = unfinished_is r m g e c v;
    within = omega (arith, v.frames, v.asked);
    words = words_same r m g e c v;
    state = state_same r m g e c v;
  }

  goes_forward : (list : List ℕ) → GoesForward r m list
  goes_forward list = record {
    counted = each_counted r list;
    stretch = stretch_to r m g list;
    one_frame = frame_to r m g list;
    all_frames = all_to r m g list;
    waiting = waits_to r m g list;
  }

  uninterrupted : (list : List ℕ) → Uninterrupted r list
  uninterrupted list = record {
    planned = λ t p j e. (under_way r m g (turns_to r list t) (to_any r m g list t) p j e).planned;
    unfinished = λ t p j e. (under_way r m g (turns_to r list t) (to_any r m g list t) p j e).unfinished;
    others = λ t p j l e d. ap (λ (x : Between). stand_of x p) (to_more r list t l) ∙ kept r p (get_or list t 0) d (turns_to r list t);
    own = λ t p j l e d.
        subst (OneAction r p j (turns_to r list t)) (ap (λ q. turn r q (turns_to r list t)) (sym d) ∙ sym (to_more r list t l))
        (own_turn r m g (turns_to r list t) (to_any r m g list t) p j e);
    finishes = λ t f j l n h.
        finishes_there r m g (get_or list t 0) (turns_to r list t) (to_any r m g list t) f j n
        (subst (λ x. HasFinished (job_count_of r.work) x f j) (to_more r list t l) h);
  }

module _ (file : List ℕ) (m frames : ℕ) (plan input list output : List ℕ) (c : Between) (call : turn_call file m frames plan input list output ≡ done c) where
  of_call : Called file m frames plan input list output c
  of_call = called file m frames plan input list output c call

  at_end_lem : (k : Called file m frames plan input list output c) → Any (run_of k.net frames plan input) m k.fit c
  at_end_lem k = subst (Any (run_of k.net frames plan input) m k.fit) (sym k.is) (run_any (run_of k.net frames plan input) m k.fit list)

  -- P6, P7 and P8 of every call that is done
  pub promised : Promised file m frames plan input list output c
  promised =
      let k : Called file m frames plan input list output c = of_call in
      let r : Run = run_of k.net frames plan input in
      record {
        net = k.net;
        read = k.read;
        zero = ran_jobs (work_of k.net) input (job_count_of (work_of k.net) * frames);
        ran = k.zero;
        long = (at_end_lem k).1.long;
        zero_long = ran_length (work_of k.net) input (job_count_of (work_of k.net) * frames);
        room = k.room;
        last = to_all r list (length list) (omega arith) ∙ sym k.is;
        as_zero_delay = as_zero_delay r m k.fit c (at_end_lem k);
        goes_forward = goes_forward r m k.fit list;
        uninterrupted = uninterrupted r m k.fit list;
      }

  -- a finished job's output is that of the job done whole in the zero-delay run
  whole : (net : Net) → load file ≡ done net → (f j : ℕ) → HasFinished (job_count_of (work_of net)) c f j
      → sample_at c.words (f * job_count_of (work_of net) + j) ≡ (done_job (work_of net) input (f * job_count_of (work_of net) + j)).output
  whole net read f j =
      let k : Called file m frames plan input list output c = of_call in
      let (e, v) = at_end_lem k in
      subst (λ n. HasFinished (job_count_of (work_of n)) c f j
      → sample_at c.words (f * job_count_of (work_of n) + j) ≡ (done_job (work_of n) input (f * job_count_of (work_of n) + j)).output)
      (done_same (sym k.read ∙ read))
      (λ h. (finished_is (run_of k.net frames plan input) m k.fit e c v f j h).1)

-- two runs of one file on one input, whatever their processors, frames, plans, turns and output memory
pub agree : (file input : List ℕ)
    → (m frames : ℕ) (plan list output : List ℕ) (c : Between) → turn_call file m frames plan input list output ≡ done c
    → (m' frames' : ℕ) (plan' list' output' : List ℕ) (c' : Between) → turn_call file m' frames' plan' input list' output' ≡ done c'
    → Agreeing file c c'
agree file input m frames plan list output c call m' frames' plan' list' output' c' call' =
    let k : Called file m frames plan input list output c = called file m frames plan input list output c call in
    record {
      net = k.net;
      read = k.read;
      same = λ f j h h'.
          whole file m frames plan input list output c call k.net k.read f j h
          ∙ sym (whole file m' frames' plan' input list' output' c' call' k.net k.read f j h');
    }
