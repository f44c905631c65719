-- What the reader tests is exactly that a network is valid: so accepted files are exactly the bytes of valid networks.
use Rattle.std.specs.Prelude.{ℕ, ◌<◌, ◌≡◌, refl, ◌≢◌, true, List, [], length, get_or, take, leb, eqb}
use Rattle.std.proofs.Common.{sym, subst, ◌∙◌, length-take-le, get_or-take}
use Rattle.std.proofs.Math.Path.{ap}
use Rattle.std.proofs.Math.Bool.{not}
use native.Mathlib.Omega.{arith}
use borrow.Author.Tests.{le-leb, leb-true, eqb-true, eq-eqb, not-true}
use Rattle.reply.specs.Tests.{split, clash, both, both_true}
use Rattle.reply.specs.AllAny.{any_true, any_make, any_none}
use Rattle.reply.specs.Result.{done}
use Rattle.number.specs.Stands.{Bytes}
use Rattle.network.specs.Chains.{Chain, holds}
use Rattle.network.specs.ChainLaws.{chain_ends, chains_complete, chains_sound}
use Rattle.network.specs.Frame.{frame_length, job_count, fits_frame}
use Rattle.network.specs.Pairs.{no_pair, same_pair, is_pair, good_pair, aheads, cyclic}
use Rattle.network.specs.Net.{Net, no_four}
use Rattle.network.specs.Read.{load}
use Rattle.network.specs.Valid.{GoodPair, GoodAction, Valid}
use Rattle.network.specs.declared.Pair.{Pair}
use Rattle.roundtrip.specs.Kinds.{GoodProgram, pair_true, true_pair}
use Rattle.roundtrip.specs.Whole.{net_bytes, Passes, load_passes, passes_load}

-- ---- pairs

same_true : (p : Pair) (a b : ℕ) → same_pair p a b ≡ true → (p.higher ≡ a) × (p.lower ≡ b)
unfolding same_pair
same_true p a b e =
    let (t, u) = both (eqb p.higher a) (eqb p.lower b) e in
    (eqb-true p.higher a t, eqb-true p.lower b u)

true_same : (p : Pair) → same_pair p p.higher p.lower ≡ true
unfolding same_pair
true_same p = rw (eq-eqb p.higher p.higher refl, eq-eqb p.lower p.lower refl)

-- a pair of a list stands somewhere in it
pub pair_stands : (pairs : List Pair) (a b : ℕ) → is_pair pairs a b ≡ true
    → (k : ℕ) × (k < length pairs) × (get_or pairs k no_pair ≡ record { higher = a; lower = b })
unfolding is_pair
pair_stands pairs a b e =
    let (k, h, t) = any_true (length pairs) (λ k. same_pair (get_or pairs k no_pair) a b) e in
    let (x, y) = same_true (get_or pairs k no_pair) a b t in
    (k, h, (λ i. record { higher = x i; lower = y i }))

pub stands_pair : (pairs : List Pair) (k : ℕ) → k < length pairs → is_pair pairs (get_or pairs k no_pair).higher (get_or pairs k no_pair).lower ≡ true
unfolding is_pair
stands_pair pairs k h =
    any_make (length pairs) (λ j. same_pair (get_or pairs j no_pair) (get_or pairs k no_pair).higher (get_or pairs k no_pair).lower) k h (true_same (get_or pairs k no_pair))

module _ (net : Net) where
  abbrev n : ℕ
  n = length net.processes

  abbrev pair_at : ℕ → Pair
  pair_at k = get_or net.pairs k no_pair

  pair_within : ((k : ℕ) → k < length net.pairs → GoodPair n (pair_at k)) → (a b : ℕ) → is_pair net.pairs a b ≡ true → (a < n) × (b < n)
  pair_within g a b e =
      let (k, h, z) = pair_stands net.pairs a b e in
      (subst (λ (p : Pair). p.higher < n) z (g k h).higher, subst (λ (p : Pair). p.lower < n) z (g k h).lower)

  -- ---- what passes is valid

  module _ (t : Passes net) where
    pair_good : (k : ℕ) → k < length net.pairs → GoodPair n (pair_at k)
    pair_good k l =
        let (h, m, d) = (pair_true n (take k net.pairs) (pair_at k).higher (pair_at k).lower (t.pairs.good k l)).0 in
        record { higher = h; lower = m; apart = d }

    pair_once : (i k : ℕ) → i < k → k < length net.pairs → pair_at i ≢ pair_at k
    pair_once i k h l e =
        let new = (pair_true n (take k net.pairs) (pair_at k).higher (pair_at k).lower (t.pairs.good k l)).1 in
        let old = stands_pair (take k net.pairs) i (omega (arith, length-take-le k net.pairs (omega arith))) in
        clash (subst (λ (p : Pair). is_pair (take k net.pairs) p.higher p.lower ≡ true) (get_or-take k net.pairs i no_pair h ∙ e) old) new

    never_cyclic : (a : ℕ) → ¬ (Chain (is_pair net.pairs) a a)
    unfolding cyclic aheads
    never_cyclic a c =
        let m = chains_complete n (is_pair net.pairs) (pair_within pair_good) c in
        let h : a < n = (chain_ends n (is_pair net.pairs) (pair_within pair_good) c).0 in
        clash (any_make n (λ a. holds (aheads n net.pairs) a a) a h m) (not-true (cyclic n net.pairs) t.acyclic)

    program_good : (p : ℕ) → p < length net.programs → GoodProgram net.channels p (get_or net.programs p [])
    program_good p l =
        subst (λ (q : ℕ). GoodProgram net.channels q (get_or net.programs p [])) (length-take-le p net.programs (omega arith))
        (t.programs.good p (omega (arith, t.programs.size)))

    action_good : (p k : ℕ) → p < length net.programs → k < length (get_or net.programs p [])
        → GoodAction net.channels p (length (get_or net.programs p [])) k (get_or (get_or net.programs p []) k no_four)
    action_good p k l m =
        subst (λ (q : ℕ). GoodAction net.channels p (length (get_or net.programs p [])) q (get_or (get_or net.programs p []) k no_four))
        (length-take-le k (get_or net.programs p []) (omega arith))
        ((program_good p l).actions.good k m)

    passes_valid : Valid net
    unfolding fits_frame
    passes_valid =
        let (f, j) = both (leb (frame_length net.processes) 2000) (leb (job_count net.processes) 128) t.fits in
        record {
          process_count = t.process_count;
          processes = λ p l. t.processes.good p l;
          frame = leb-true _ _ f;
          jobs = leb-true _ _ j;
          pair_count = t.pair_count.1;
          pairs = pair_good;
          once = pair_once;
          no_cycle = never_cyclic;
          channel_count = t.channel_count.1;
          channels = λ k l. t.channels.good k l;
          programs = t.programs.size;
          action_count = λ p l. (program_good p l).count;
          actions = action_good;
        }

  -- ---- what is valid passes

  module _ (v : Valid net) where
    pair_passes : (k : ℕ) → k < length net.pairs → good_pair n (take k net.pairs) (pair_at k).higher (pair_at k).lower ≡ true
    pair_passes k l =
        let g = v.pairs k l in
        true_pair n (take k net.pairs) (pair_at k).higher (pair_at k).lower g.higher g.lower g.apart
        (split (is_pair (take k net.pairs) (pair_at k).higher (pair_at k).lower)
        (λ e.
        let (i, h, z) = pair_stands (take k net.pairs) (pair_at k).higher (pair_at k).lower e in
        let m : i < k = omega (arith, length-take-le k net.pairs (omega arith)) in
        absurd (v.once i k m l (sym (get_or-take k net.pairs i no_pair m) ∙ z)))
        (λ f. f))

    acyclic_passes : not (cyclic n net.pairs) ≡ true
    unfolding cyclic aheads
    acyclic_passes = ap not (any_none n (λ a. holds (aheads n net.pairs) a a) (λ a l.
        split (holds (aheads n net.pairs) a a)
        (λ e. absurd (v.no_cycle a (chains_sound n (is_pair net.pairs) (pair_within v.pairs) a a l l e)))
        (λ f. f)))

    program_passes : (p : ℕ) → p < length net.programs → GoodProgram net.channels (length (take p net.programs)) (get_or net.programs p [])
    program_passes p l = rw (length-take-le p net.programs (omega arith)) (record {
      count = v.action_count p l;
      actions = record { size = refl; good = λ k m. rw (length-take-le k (get_or net.programs p []) (omega arith)) (v.actions p k l m) };
    })

    valid_passes : Passes net
    unfolding fits_frame
    valid_passes = record {
      process_count = v.process_count;
      processes = record { size = refl; good = v.processes };
      fits = both_true _ _ (le-leb _ _ v.frame) (le-leb _ _ v.jobs);
      pair_count = (omega arith, v.pair_count);
      pairs = record { size = refl; good = pair_passes };
      acyclic = acyclic_passes;
      channel_count = (omega arith, v.channel_count);
      channels = record { size = refl; good = v.channels };
      programs = record { size = v.programs; good = λ p l. program_passes p (omega (arith, v.programs)) };
    }

-- ---- the two directions

module _ (file : List ℕ) (net : Net) where
  pub accepted_valid : load file ≡ done net → Valid net
  accepted_valid e = passes_valid net (load_passes file net e).0

  pub accepted_bytes : Bytes file → load file ≡ done net → file ≡ net_bytes net
  accepted_bytes bytes e = (load_passes file net e).1 bytes

  pub valid_accepted : Valid net → file ≡ net_bytes net → load file ≡ done net
  valid_accepted v e = passes_load file net (valid_passes net v) e
