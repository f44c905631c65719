-- The loop of `go_on`: from a start, what is left of the job makes up the whole; and before the first action nothing has changed.
use Rattle.std.proofs.Common.{◌≡◌, ℕ, zero, suc, ◌+◌, ◌-◌, ◌<◌, ◌≤◌, ◌⊎◌, List, length, get_or, sym, refl, ap, ◌∙◌, ap₂, inl, inr, arith}
use Rattle.network.specs.Net.{Net, four_at}
use Rattle.machine.specs.State.{State, nothing}
use Rattle.machine.specs.Actions.{decode, effect, output_after, skipped}
use Rattle.machine.specs.WholeJob.{program_of, started, act_state, act_under, next_action, Did, go_on, whole_job}
use Rattle.machine.specs.JobLaws.{go_on_step, go_on_end}
use Rattle.machine.specs.Ledger.{action_loss}
use Rattle.machine.specs.Words.{contents_in, state_by, SoundWords}
use Rattle.machine.specs.Acting.{KindsOf, Room, Able, Acted}
use Rattle.machine.specs.Jobs.{ProgramIs, Goes, Went}
use Rattle.machine.specs.declared.Sample.{Sample}
use Rattle.machine.specs.declared.Under.{Under}
use Rattle.machine.specs.declared.Action.{Action}

-- a job under way, with so many actions left at most
pub record Going (program : List ℕ) (p count : ℕ) (u₀ : Under) (x : Sample) (kinds variables₀ words₀ variables words : List ℕ) (u : Under) : Type 0 where
  pub left : ℕ
  pub enough : count ≤ u.at + left
  pub sound : SoundWords words
  pub room : Room words left
  pub same : u₀ ≡ started → (net : Net) → ProgramIs net program p count → KindsOf net kinds → go_on left net p x u (state_by variables words) ≡ whole_job net p x (state_by variables₀ words₀)
  -- nothing is done yet; or, if there was one action to do, that is done
  pub first : ((u ≡ u₀) × (variables ≡ variables₀) × (words ≡ words₀)) ⊎ (count ≡ u₀.at + 1 → Acted (decode (four_at program p u₀.at)) p u₀ x kinds variables₀ words₀ variables words u)

module _ {program : List ℕ} {p count : ℕ} {u₀ : Under} {x : Sample} {kinds variables₀ words₀ : List ℕ} (goes : Goes program p count u₀ kinds words₀) where
  pub start : Going program p count u₀ x kinds variables₀ words₀ variables₀ words₀ u₀
  unfolding whole_job
  start = record {
    left = count - u₀.at;
    enough = omega arith;
    sound = goes.sound;
    room = goes.room;
    same = λ e net t k.
        let all : count - 0 ≡ length (program_of net p) = omega (arith, t.size) in
        rw e (ap (λ (n : ℕ). go_on n net p x started (state_by variables₀ words₀)) all);
    first = inl (refl, refl, refl);
  }

  module _ {variables words : List ℕ} {u : Under} (going : Going program p count u₀ x kinds variables₀ words₀ variables words u) where
    -- while it has not reached the end
    module _ (on : u.at < count) {action : Action} (fetched : action ≡ decode (four_at program p u.at)) where
      pub able : Able action p u kinds words
      able = record {
        process = goes.runnable.process;
        at = omega (arith, goes.runnable.most);
        operands = rw fetched (goes.runnable.operands u.at on);
        capacities = goes.capacities;
        sound = going.sound;
        room = record { room = λ c. omega (arith, going.room.room c, going.enough) };
      }

      module _ {variables' words' : List ℕ} {r : Under} (acted : Acted action p u x kinds variables words variables' words' r) where
        pub forward : u.at < r.at
        forward = omega (arith, acted.at)

        loss : (c : ℕ) → (get_or (contents_in words') c nothing).loss ≤ (get_or (contents_in words) c nothing).loss + 1
        loss c =
            let e = acted.state goes.net goes.kinds_are in
            rw (ap (λ (s : State). (get_or s.channels c nothing).loss) e) (action_loss goes.net p x action (state_by variables words) c)

        module _ (net : Net) (t : ProgramIs net program p count) (k : KindsOf net kinds) where
          which : action ≡ next_action net p u
          which = fetched ∙ t.action u.at on

          keeps : r ≡ act_under net p u (state_by variables words)
          keeps =
              let at : r.at ≡ u.at + 1 + skipped p (next_action net p u) (state_by variables words) = acted.at ∙ ap (λ (a : Action). u.at + 1 + skipped p a (state_by variables words)) which in
              let output : r.output ≡ output_after p (next_action net p u) (state_by variables words) u.output = acted.output ∙ ap (λ (a : Action). output_after p a (state_by variables words) u.output) which in
              λ i. record { at = at i; output = output i }

          does : state_by variables' words' ≡ act_state net p x u (state_by variables words)
          does = acted.state net k ∙ ap (λ (a : Action). effect net p x a (state_by variables words)) which

          next : (more : ℕ) → go_on more net p x r (state_by variables' words') ≡ go_on (suc more) net p x u (state_by variables words)
          next more = ap₂ (λ (v : Under) (s : State). go_on more net p x v s) keeps does ∙ sym (go_on_step net p x u (state_by variables words) more (omega (arith, t.size)))

        -- the first action is the one to do; after it there is no second
        did_first : ((u ≡ u₀) × (variables ≡ variables₀) × (words ≡ words₀)) ⊎ (count ≡ u₀.at + 1 → Acted (decode (four_at program p u₀.at)) p u₀ x kinds variables₀ words₀ variables words u)
            → count ≡ u₀.at + 1 → Acted (decode (four_at program p u₀.at)) p u₀ x kinds variables₀ words₀ variables' words' r
        did_first (inl (eu, ev, ew)) e = rw (← eu, ← ev, ← ew, ← fetched) acted
        did_first (inr f) e = absurd (omega (arith, (f e).at, on, e))

        pub turn : Going program p count u₀ x kinds variables₀ words₀ variables' words' r
        turn = from going.left refl
          where
            from : (left : ℕ) → going.left ≡ left → Going program p count u₀ x kinds variables₀ words₀ variables' words' r
            from zero e = absurd (omega (arith, going.enough))
            from (suc more) e = record {
              left = more;
              enough = omega (arith, forward, going.enough);
              sound = acted.sound;
              room = record { room = λ c. omega (arith, going.room.room c, loss c) };
              same = λ z net t k. next net t k more ∙ ap (λ (n : ℕ). go_on n net p x u (state_by variables words)) (sym e) ∙ going.same z net t k;
              first = inr (did_first going.first);
            }

    -- at the end
    module _ (h : count ≤ u.at) where
      whole : u₀ ≡ started → (net : Net) → ProgramIs net program p count → KindsOf net kinds
          → ◌≡◌ {A = Did} (record { state = state_by variables words; output = u.output }) (whole_job net p x (state_by variables₀ words₀))
      whole z net t k = sym (go_on_end net p x u (state_by variables words) going.left (omega (arith, t.size))) ∙ going.same z net t k

      done_first : ((u ≡ u₀) × (variables ≡ variables₀) × (words ≡ words₀)) ⊎ (count ≡ u₀.at + 1 → Acted (decode (four_at program p u₀.at)) p u₀ x kinds variables₀ words₀ variables words u)
          → count ≡ u₀.at + 1 → Acted (decode (four_at program p u₀.at)) p u₀ x kinds variables₀ words₀ variables words u
      done_first (inl (eu, ev, ew)) e = absurd (omega (arith, ap (λ (v : Under). v.at) eu, e))
      done_first (inr f) e = f e

      pub finish : Went program p count u₀ x kinds variables₀ words₀ variables words u
      finish = record {
        whole = λ z. record {
          sound = going.sound;
          state = λ net t k. ap (λ (d : Did). d.state) (whole z net t k);
          output = λ net t k. ap (λ (d : Did). d.output) (whole z net t k);
        };
        one = done_first going.first;
      }
