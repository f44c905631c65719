-- Which job of a valid network precedes which, in plain words.
use Rattle.std.specs.Prelude.{ℕ, ◌<◌, ◌≡◌, ◌⊎◌, Bool, true, ◌&&◌, ◌||◌, ltb, eqb}
use Rattle.std.proofs.Common.{sym, ◌∙◌, arith, ltb-true, lt-ltb, eqb-true, eq-eqb}
use Rattle.std.proofs.Math.Logic.{inl, inr}
use Rattle.reply.specs.Tests.{both, either, both_true, either_true}
use Rattle.network.specs.ChainLaws.{relation_holds, relation_within}
use Rattle.network.specs.Net.{Net}
use Rattle.network.specs.Valid.{Valid}
use Rattle.graph.specs.Order.{related}
use Rattle.graph.specs.Work.{Work, work_of, precedes_by, job_count_of, process_of, precedes}
use Rattle.graph.specs.OrderLaws.{order_of, Related, related_sound, related_complete}
use Rattle.graph.specs.WorkLaws.{Forward, Precedes}

module _ (net : Net) (ok : Valid net) where
  abbrev w : Work
  w = work_of net

  -- ---- which precedes which

  tie : ℕ → ℕ → Bool
  tie p q = eqb p q || related (order_of net) p q

  precedes_within : (i j : ℕ) → precedes (work_of net) i j ≡ true → (i < job_count_of (work_of net)) × (j < job_count_of (work_of net))
  unfolding work_of
  precedes_within i j e = relation_within (job_count_of (work_of net)) (precedes_by (order_of net) (work_of net).jobs) i j e

  precedes_is : (i j : ℕ) → i < job_count_of (work_of net) → j < job_count_of (work_of net)
      → precedes (work_of net) i j ≡ (ltb i j && tie (process_of (work_of net) i) (process_of (work_of net) j))
  unfolding work_of precedes_by tie
  precedes_is i j hi hj = relation_holds (job_count_of (work_of net)) (precedes_by (order_of net) (work_of net).jobs) i j hi hj

  tie_sound : (p q : ℕ) → tie p q ≡ true → (p ≡ q) ⊎ Related net p q
  unfolding tie
  tie_sound p q e = go (either (eqb p q) (related (order_of net) p q) e)
    where
      go : (eqb p q ≡ true) ⊎ (related (order_of net) p q ≡ true) → (p ≡ q) ⊎ Related net p q
      go (inl t) = inl (eqb-true p q t)
      go (inr t) = inr (related_sound net ok p q t)

  tie_complete : (p q : ℕ) → (p ≡ q) ⊎ Related net p q → tie p q ≡ true
  unfolding tie
  tie_complete p q (inl e) = either_true (eqb p q) _ (inl (eq-eqb p q e))
  tie_complete p q (inr c) = either_true (eqb p q) _ (inr (related_complete net ok p q c))

  pub precedes_sound : (i j : ℕ) → precedes (work_of net) i j ≡ true → Precedes net i j
  precedes_sound i j e =
      let (hi, hj) = precedes_within i j e in
      let (l, t) = both (ltb i j) (tie (process_of w i) (process_of w j)) (sym (precedes_is i j hi hj) ∙ e) in
      record { lower = ltb-true i j l; below = hj; tied = tie_sound (process_of w i) (process_of w j) t }

  pub precedes_complete : (i j : ℕ) → Precedes net i j → precedes (work_of net) i j ≡ true
  precedes_complete i j p =
      precedes_is i j (omega (arith, p.lower, p.below)) p.below
      ∙ both_true (ltb i j) _ (lt-ltb i j p.lower) (tie_complete (process_of w i) (process_of w j) p.tied)

  pub goes_forward : Forward (work_of net)
  goes_forward = record { within = precedes_within; forward = λ i j e. (precedes_sound i j e).lower }
