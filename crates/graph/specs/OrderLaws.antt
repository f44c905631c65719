-- What proofs need of `comes_before` and `related`: all of it stands here, so that what is built on them cites nothing but these laws.
use Rattle.std.specs.Prelude.{ℕ, zero, suc, ◌≤◌, ◌<◌, ◌≡◌, ◌⊎◌, Bool, true, false, length, get_or}
use Rattle.std.proofs.Common.{subst, arith}
use Rattle.std.proofs.Math.Logic.{inl, inr}
use Rattle.std.proofs.Math.Decide.{ℕ_discrete}
use Rattle.reply.specs.Tools.{count}
use Rattle.reply.specs.Tests.{split, either, either_true}
use Rattle.network.specs.Chains.{Chain, one, Relation, holds, through, chains}
use Rattle.network.specs.ChainLaws.{relation_within, chain_join, chain_ends, chains_sound, chains_complete}
use Rattle.network.specs.Pairs.{is_pair, aheads}
use Rattle.network.specs.Net.{Net, no_channel}
use Rattle.network.specs.Valid.{Valid}
use Rattle.network.specs.declared.Pair.{Pair}
use Rattle.roundtrip.specs.Accept.{pair_stands}
use Rattle.graph.specs.Order.{comes_before, related}

-- ---- in plain words

-- the relation "comes before" of a network
abbrev pub order_of : Net → Relation
order_of net = comes_before (length net.processes) net.pairs

-- p comes before q: a chain of pairs leads from p to q
abbrev pub Before : Net → ℕ → ℕ → Type 0
Before net p q = Chain (is_pair net.pairs) p q

-- p and q are related: one of them comes before the other
abbrev pub Related : Net → ℕ → ℕ → Type 0
Related net p q = Before net p q ⊎ Before net q p

-- p and q have a pair of their own, either way round
abbrev pub Paired : Net → ℕ → ℕ → Type 0
Paired net p q = (is_pair net.pairs p q ≡ true) ⊎ (is_pair net.pairs q p ≡ true)

-- p and q are the two ends of channel k, either way round
abbrev pub Joins : Net → ℕ → ℕ → ℕ → Type 0
Joins net k p q =
    (((get_or net.channels k no_channel).writer ≡ p) × ((get_or net.channels k no_channel).reader ≡ q))
    ⊎ (((get_or net.channels k no_channel).writer ≡ q) × ((get_or net.channels k no_channel).reader ≡ p))

-- numbers that rise along a relation: it goes round in no circle
pub record Ranked (ahead : Relation) : Type 0 where
  pub rank : ℕ → ℕ
  pub rises : (a b : ℕ) → holds ahead a b ≡ true → rank a < rank b

-- ---- counts of what passes

-- r passes wherever q does
count_le : (n : ℕ) (q r : ℕ → Bool) → ((i : ℕ) → i < n → q i ≡ true → r i ≡ true) → count n q ≤ count n r
unfolding count
count_le zero q r f = omega arith
count_le (suc n) q r f =
    let ih : count n q ≤ count n r = count_le n q r (λ i h. f i (omega arith)) in
    split (q n) (λ t. rw (t, f n (omega arith) t) (omega arith)) (λ t. rw t (omega arith))

-- and at j besides
count_lt : (n : ℕ) (q r : ℕ → Bool) (j : ℕ) → j < n → q j ≡ false → r j ≡ true → ((i : ℕ) → i < n → q i ≡ true → r i ≡ true) → count n q < count n r
unfolding count
count_lt zero q r j h a b f = absurd (omega arith)
count_lt (suc n) q r j h a b f = elim (ℕ_discrete j n) [
  | yes z ↦
      let a' : q n ≡ false = subst (λ k. q k ≡ false) z a in
      let b' : r n ≡ true = subst (λ k. r k ≡ true) z b in
      rw (a', b') (omega (arith, count_le n q r (λ i l. f i (omega arith))))
  | no d ↦
      let ih : count n q < count n r = count_lt n q r j (omega arith) a b (λ i l. f i (omega arith)) in
      split (q n) (λ t. rw (t, f n (omega arith) t) (omega arith)) (λ t. rw t (omega arith))
]

-- ---- chains stand among the numbers below n

through_within : (n : ℕ) (step : ℕ → ℕ → Bool) (k a b : ℕ) → holds (through n step k) a b ≡ true → (a < n) × (b < n)
unfolding through
through_within n step zero a b e = relation_within n _ a b e
through_within n step (suc k) a b e = relation_within n _ a b e

-- ---- of a valid network

module _ (net : Net) (ok : Valid net) where
  abbrev n : ℕ
  n = length net.processes

  abbrev step : ℕ → ℕ → Bool
  step = is_pair net.pairs

  step_within : (a b : ℕ) → is_pair net.pairs a b ≡ true → (a < n) × (b < n)
  step_within a b e =
      let (k, h, z) = pair_stands net.pairs a b e in
      (subst (λ (p : Pair). p.higher < n) z (ok.pairs k h).higher, subst (λ (p : Pair). p.lower < n) z (ok.pairs k h).lower)

  -- ---- chains of pairs rise

  -- how many processes have a chain to p
  height : ℕ → ℕ
  height p = count n (λ q. holds (chains n step) q p)

  chain_rises : {a b : ℕ} → Chain (is_pair net.pairs) a b → height a < height b
  unfolding height
  chain_rises {a} {b} c =
      let (ha, hb) = chain_ends n step step_within c in
      count_lt n (λ q. holds (chains n step) q a) (λ q. holds (chains n step) q b) a ha
      (split (holds (chains n step) a a) (λ t. absurd (ok.no_cycle a (chains_sound n step step_within a a ha ha t))) (λ t. t))
      (chains_complete n step step_within c)
      (λ q h t. chains_complete n step step_within (chain_join (chains_sound n step step_within q a h ha t) c))

  -- ---- `comes_before` is what it says

  -- only processes of the network come before others
  pub order_within : (a b : ℕ) → holds (order_of net) a b ≡ true → (a < n) × (b < n)
  unfolding comes_before aheads chains
  order_within a b e = through_within n step n a b e

  pub order_sound : (a b : ℕ) → holds (order_of net) a b ≡ true → Before net a b
  unfolding comes_before aheads
  order_sound a b e = chains_sound n step step_within a b (order_within a b e).0 (order_within a b e).1 e

  pub order_complete : (a b : ℕ) → Before net a b → holds (order_of net) a b ≡ true
  unfolding comes_before aheads
  order_complete a b c = chains_complete n step step_within c

  -- what comes before another has a chain to it
  pub before_chain : (a b : ℕ) → Before net a b → Chain (is_pair net.pairs) a b
  before_chain a b c = c

  -- the first process of a pair comes before the second
  pub pair_before : (a b : ℕ) → is_pair net.pairs a b ≡ true → Before net a b
  pair_before a b t = one t

  -- no process comes before itself
  pub order_apart : (a : ℕ) → holds (order_of net) a a ≡ false
  order_apart a = split (holds (order_of net) a a) (λ t. absurd (ok.no_cycle a (before_chain a a (order_sound a a t)))) (λ t. t)

  -- what comes before one that comes before another comes before the other
  pub order_join : (a b c : ℕ) → holds (order_of net) a b ≡ true → holds (order_of net) b c ≡ true → holds (order_of net) a c ≡ true
  order_join a b c e f = order_complete a c (chain_join (order_sound a b e) (order_sound b c f))

  -- it goes round in no circle
  pub order_ranked : Ranked (order_of net)
  order_ranked = record { rank = height; rises = λ a b e. chain_rises (before_chain a b (order_sound a b e)) }

  -- ---- `related` is what it says

  pub related_sound : (p q : ℕ) → related (order_of net) p q ≡ true → Related net p q
  unfolding related
  related_sound p q e = go (either (holds (order_of net) p q) (holds (order_of net) q p) e)
    where
      go : (holds (order_of net) p q ≡ true) ⊎ (holds (order_of net) q p ≡ true) → Related net p q
      go (inl t) = inl (order_sound p q t)
      go (inr t) = inr (order_sound q p t)

  pub related_complete : (p q : ℕ) → Related net p q → related (order_of net) p q ≡ true
  unfolding related
  related_complete p q (inl c) = either_true (holds (order_of net) p q) (holds (order_of net) q p) (inl (order_complete p q c))
  related_complete p q (inr c) = either_true (holds (order_of net) p q) (holds (order_of net) q p) (inr (order_complete q p c))

  -- two processes with a pair of their own are related
  pub pair_related : (p q : ℕ) → Paired net p q → Related net p q
  pair_related p q (inl t) = inl (pair_before p q t)
  pair_related p q (inr t) = inr (pair_before q p t)

  -- the ends of a channel have a pair of their own
  pub channel_paired : (k p q : ℕ) → k < length net.channels → Joins net k p q → Paired net p q
  channel_paired k p q h (inl t) = rw (t.0, t.1) at (ok.channels k h).pair
  channel_paired k p q h (inr t) = go (rw (t.0, t.1) at (ok.channels k h).pair)
    where
      go : Paired net q p → Paired net p q
      go (inl u) = inr u
      go (inr u) = inl u

  -- and so they are related
  pub channel_related : (k p q : ℕ) → k < length net.channels → Joins net k p q → Related net p q
  channel_related k p q h j = pair_related p q (channel_paired k p q h j)
