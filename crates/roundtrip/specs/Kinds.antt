-- Each kind of thing in a file is read exactly: process, pair, channel, action, program.
use Rattle.std.specs.Prelude.{ℕ, ◌+◌, ◌≤◌, ◌<◌, ◌≡◌, ◌≢◌, ◌⊎◌, true, false, not, ◌&&◌, ◌||◌, eqb}
use Rattle.std.proofs.Math.Path.{sym, subst}
use mathlib.Core.List.{List, [], ◌∷◌, ◌++◌, append-nil}
use native.Mathlib.Omega.{arith}
use Rattle.std.proofs.Math.ListN.{length}
use Rattle.std.proofs.Math.Dec.{ltb}
use borrow.Author.Tests.{lt-ltb, ltb-true, eqb-false, ne_eqb, not-true}
use Rattle.reply.specs.Tests.{split, both, either, either_true}
use Rattle.reply.specs.ResultLaws.{accepted, required}
use Rattle.reply.specs.declared.Reply.TheVariants.{BadPair}
use Rattle.number.specs.Parts.{many}
use Rattle.number.specs.PartLaws.{same_part}
use Rattle.number.specs.Encode.{encode}
use Rattle.number.specs.Stands.{Stands, Bytes, stands_none, stands_same, join, cut}
use Rattle.network.specs.Lists.{each_of}
use Rattle.network.specs.Pairs.{is_pair, apart, good_pair, good_ends}
use Rattle.network.specs.Net.{no_four, process_fields, pair_fields, channel_fields, four_fields}
use Rattle.network.specs.Read.{one_process, one_pair, most_capacity, channel_with, one_channel, one_action, one_program}
use Rattle.network.specs.Valid.{GoodProcess, GoodChannel, GoodAction}
use Rattle.network.specs.declared.Process.{Process}
use Rattle.network.specs.declared.Pair.{Pair}
use Rattle.network.specs.declared.Channel.{Channel}
use Rattle.network.specs.declared.Four.{Four}
use Rattle.roundtrip.specs.Exactly.{Exact, Goods, number_exact, ranged_exact, many_exact}
use Rattle.roundtrip.specs.Actions.{Small, accepted_good, good_accepted, good_small}

-- ---- the bytes of each kind

abbrev pub numbers_bytes : List ℕ → List ℕ
numbers_bytes ns = each_of encode ns

abbrev pub process_bytes : Process → List ℕ
process_bytes p = numbers_bytes (process_fields p)

abbrev pub pair_bytes : Pair → List ℕ
pair_bytes p = numbers_bytes (pair_fields p)

abbrev pub channel_bytes : Channel → List ℕ
channel_bytes c = numbers_bytes (channel_fields c)

abbrev pub four_bytes : Four → List ℕ
four_bytes f = numbers_bytes (four_fields f)

abbrev pub program_bytes : List Four → List ℕ
program_bytes p = encode (length p) ++ each_of four_bytes p

-- ---- two numbers and four

module _ (file : List ℕ) {at next : ℕ} where
  join2 : (a b : ℕ) {h₁ : ℕ} → Stands file at (encode a) h₁ → Stands file h₁ (encode b) next → Stands file at (numbers_bytes (a ∷ b ∷ [])) next
  unfolding each_of
  join2 a b s t = join file (encode a) (encode b ++ []) s (join file (encode b) [] t (stands_none file next))

  cut2 : {P : Type 0} (a b : ℕ) → Stands file at (numbers_bytes (a ∷ b ∷ [])) next
      → ((h₁ : ℕ) → Stands file at (encode a) h₁ → Stands file h₁ (encode b) next → P) → P
  unfolding each_of
  cut2 a b s k =
      let (s₁, s₂) = cut file (encode a) (encode b ++ []) s in
      k (at + length (encode a)) s₁ (stands_same file (append-nil (encode b)) s₂)

module _ (file : List ℕ) {at next : ℕ} where
  join4 : (a b c d : ℕ) {h₁ h₂ h₃ : ℕ}
      → Stands file at (encode a) h₁ → Stands file h₁ (encode b) h₂ → Stands file h₂ (encode c) h₃ → Stands file h₃ (encode d) next
      → Stands file at (numbers_bytes (a ∷ b ∷ c ∷ d ∷ [])) next
  unfolding each_of
  join4 a b c d s t u v = join file (encode a) (numbers_bytes (b ∷ c ∷ d ∷ [])) s (join file (encode b) (numbers_bytes (c ∷ d ∷ [])) t (join2 file c d u v))

  cut4 : {P : Type 0} (a b c d : ℕ) → Stands file at (numbers_bytes (a ∷ b ∷ c ∷ d ∷ [])) next
      → ((h₁ h₂ h₃ : ℕ) → Stands file at (encode a) h₁ → Stands file h₁ (encode b) h₂ → Stands file h₂ (encode c) h₃ → Stands file h₃ (encode d) next → P) → P
  unfolding each_of
  cut4 a b c d s k =
      let (s₁, t) = cut file (encode a) (numbers_bytes (b ∷ c ∷ d ∷ [])) s in
      let (s₂, u) = cut file (encode b) (numbers_bytes (c ∷ d ∷ [])) t in
      cut2 file c d u λ h₃ s₃ s₄. k _ _ h₃ s₁ s₂ s₃ s₄

-- ---- tests and what they say

module _ (n : ℕ) (pairs : List Pair) (a b : ℕ) where
  apart_true : apart n a b ≡ true → (a < n) × (b < n) × (a ≢ b)
  unfolding apart
  apart_true e =
      let (t, u) = both (ltb a n && ltb b n) (not (eqb a b)) e in
      let (t₁, t₂) = both (ltb a n) (ltb b n) t in
      (ltb-true a n t₁, ltb-true b n t₂, eqb-false a b (not-true (eqb a b) u))

  true_apart : a < n → b < n → a ≢ b → apart n a b ≡ true
  unfolding apart
  true_apart h l d = rw (lt-ltb a n h, lt-ltb b n l, ne_eqb a b d)

  pub pair_true : good_pair n pairs a b ≡ true → ((a < n) × (b < n) × (a ≢ b)) × (is_pair pairs a b ≡ false)
  unfolding good_pair
  pair_true e =
      let (t, u) = both (apart n a b) (not (is_pair pairs a b)) e in
      (apart_true t, not-true (is_pair pairs a b) u)

  pub true_pair : a < n → b < n → a ≢ b → is_pair pairs a b ≡ false → good_pair n pairs a b ≡ true
  unfolding good_pair
  true_pair h l d e = rw (true_apart h l d, e)

  pub ends_true : good_ends n pairs a b ≡ true → ((a < n) × (b < n) × (a ≢ b)) × ((is_pair pairs a b ≡ true) ⊎ (is_pair pairs b a ≡ true))
  unfolding good_ends
  ends_true e =
      let (t, u) = both (apart n a b) (is_pair pairs a b || is_pair pairs b a) e in
      (apart_true t, either (is_pair pairs a b) (is_pair pairs b a) u)

true_ends : (n : ℕ) (pairs : List Pair) (c : Channel) → GoodChannel n pairs c → good_ends n pairs c.writer c.reader ≡ true
unfolding good_ends
true_ends n pairs c g = rw (true_apart n pairs c.writer c.reader g.writer g.reader g.apart) (either_true _ _ g.pair)

pub most_eight : (kind : ℕ) → most_capacity kind ≤ 8
most_eight kind = split (eqb kind 1) (λ e. rw e (omega arith)) (λ e. rw e (omega arith))

-- ---- the kinds

pub record GoodProgram (channels : List Channel) (p : ℕ) (program : List Four) : Type 0 where
  pub count : length program ≤ 24
  pub actions : Goods no_four (λ before f. GoodAction channels p (length program) (length before) f) (length program) program

module _ (file : List ℕ) where
  pub process_exact : (before : List Process) (at : ℕ) → Exact file at (one_process file before at) process_bytes GoodProcess
  unfolding one_process
  process_exact before at = record {
    sound = λ x next e.
        accepted _ _ _ e λ a r₁ e₁. accepted _ _ _ e₁ λ b r₂ e₂. accepted _ _ _ e₂ λ c r₃ e₃. accepted _ _ _ e₃ λ d r₄ e₄.
        let (g₁, s₁) = (ranged_exact file 1 1000 at (omega arith)).sound a.it a.next r₁ in
        let (g₂, s₂) = (ranged_exact file 1 4 a.next (omega arith)).sound b.it b.next r₂ in
        let (g₃, s₃) = (ranged_exact file 1 a.it b.next (omega arith)).sound c.it c.next r₃ in
        let (g₄, s₄) = (ranged_exact file 1 c.it c.next (omega arith)).sound d.it d.next r₄ in
        same_part _ _ (λ p next. GoodProcess p × (Bytes file → Stands file at (process_bytes p) next)) e₄
        (record { period = g₁; burst = g₂; deadline = g₃; budget = g₄ }, λ y. join4 file a.it b.it c.it d.it (s₁ y) (s₂ y) (s₃ y) (s₄ y));
    complete = λ x next g s.
        cut4 file x.period x.burst x.deadline x.budget s λ h₁ h₂ h₃ s₁ s₂ s₃ s₄.
        rw (
          (ranged_exact file 1 1000 at (omega arith)).complete x.period h₁ g.period s₁,
          (ranged_exact file 1 4 h₁ (omega arith)).complete x.burst h₂ g.burst s₂,
          (ranged_exact file 1 x.period h₂ (omega (arith, g.period))).complete x.deadline h₃ g.deadline s₃,
          (ranged_exact file 1 x.deadline h₃ (omega (arith, g.period, g.deadline))).complete x.budget next g.budget s₄,
        );
  }

  pub pair_exact : (n : ℕ) → n ≤ 12 → (before : List Pair) (at : ℕ)
      → Exact file at (one_pair file n before at) pair_bytes (λ p. good_pair n before p.higher p.lower ≡ true)
  unfolding one_pair
  pair_exact n small before at = record {
    sound = λ x next e.
        accepted _ _ _ e λ a r₁ e₁. accepted _ _ _ e₁ λ b r₂ e₂. required (good_pair n before a.it b.it) BadPair at _ _ e₂ λ t e₃.
        let (g₁, s₁) = (number_exact file at).sound a.it a.next r₁ in
        let (g₂, s₂) = (number_exact file a.next).sound b.it b.next r₂ in
        same_part _ _ (λ p next. (good_pair n before p.higher p.lower ≡ true) × (Bytes file → Stands file at (pair_bytes p) next)) e₃
        (t, λ y. join2 file a.it b.it (s₁ y) (s₂ y));
    complete = λ x next g s.
        let (h, l, d) = (pair_true n before x.higher x.lower g).0 in
        cut2 file x.higher x.lower s λ h₁ s₁ s₂.
        rw ((number_exact file at).complete x.higher h₁ (omega arith) s₁, (number_exact file h₁).complete x.lower next (omega arith) s₂, g);
  }

  pub channel_exact : (n : ℕ) (pairs : List Pair) → n ≤ 12 → (before : List Channel) (at : ℕ)
      → Exact file at (one_channel file n pairs before at) channel_bytes (GoodChannel n pairs)
  unfolding one_channel channel_with
  channel_exact n pairs small before at = record {
    sound = λ x next e.
        accepted _ _ _ e λ a r₁ e₁. accepted _ _ _ e₁ λ b r₂ e₂. accepted _ _ _ e₂ λ c r₃ e₃. accepted _ _ _ e₃ λ d r₄ e₄. required _ _ _ _ _ e₄ λ t e₅.
        let (g₁, s₁) = (ranged_exact file 0 1 at (omega arith)).sound a.it a.next r₁ in
        let (g₂, s₂) = (number_exact file a.next).sound b.it b.next r₂ in
        let (g₃, s₃) = (number_exact file b.next).sound c.it c.next r₃ in
        let (g₄, s₄) = (ranged_exact file 1 (most_capacity a.it) c.next (omega (arith, most_eight a.it))).sound d.it d.next r₄ in
        let ((h, l, i), p) = ends_true n pairs b.it c.it t in
        same_part _ _ (λ p next. GoodChannel n pairs p × (Bytes file → Stands file at (channel_bytes p) next)) e₅
        (record { kind = g₁.1; capacity = g₄; writer = h; reader = l; apart = i; pair = p }, λ y. join4 file a.it b.it c.it d.it (s₁ y) (s₂ y) (s₃ y) (s₄ y));
    complete = λ x next g s.
        cut4 file x.kind x.writer x.reader x.capacity s λ h₁ h₂ h₃ s₁ s₂ s₃ s₄.
        rw (
          (ranged_exact file 0 1 at (omega arith)).complete x.kind h₁ (omega arith, g.kind) s₁,
          (number_exact file h₁).complete x.writer h₂ (omega (arith, g.writer)) s₂,
          (number_exact file h₂).complete x.reader h₃ (omega (arith, g.reader)) s₃,
          (ranged_exact file 1 (most_capacity x.kind) h₃ (omega (arith, most_eight x.kind))).complete x.capacity next g.capacity s₄,
          true_ends n pairs x g,
        );
  }

  module _ (channels : List Channel) (few : length channels ≤ 16) where
    action_exact : (p n : ℕ) (before : List Four) (at : ℕ) → Exact file at (one_action file channels p n before at) four_bytes (GoodAction channels p n (length before))
    unfolding one_action
    action_exact p n before at = record {
      sound = λ x next e.
          accepted _ _ _ e λ a r₁ e₁. accepted _ _ _ e₁ λ b r₂ e₂. accepted _ _ _ e₂ λ c r₃ e₃. accepted _ _ _ e₃ λ d r₄ e₄. required _ _ _ _ _ e₄ λ t e₅.
          let (g₁, s₁) = (number_exact file at).sound a.it a.next r₁ in
          let (g₂, s₂) = (number_exact file a.next).sound b.it b.next r₂ in
          let (g₃, s₃) = (number_exact file b.next).sound c.it c.next r₃ in
          let (g₄, s₄) = (number_exact file c.next).sound d.it d.next r₄ in
          same_part _ _ (λ f next. GoodAction channels p n (length before) f × (Bytes file → Stands file at (four_bytes f) next)) e₅
          (accepted_good channels p n (length before) _ t g₃, λ y. join4 file a.it b.it c.it d.it (s₁ y) (s₂ y) (s₃ y) (s₄ y));
      complete = λ x next g s.
          let small : Small x = good_small channels p n (length before) x few g in
          cut4 file x.head x.a x.b x.c s λ h₁ h₂ h₃ s₁ s₂ s₃ s₄.
          rw (
            (number_exact file at).complete x.head h₁ small.head s₁,
            (number_exact file h₁).complete x.a h₂ small.a s₂,
            (number_exact file h₂).complete x.b h₃ small.b s₃,
            (number_exact file h₃).complete x.c next small.c s₄,
            good_accepted channels p n (length before) x g,
          );
    }

    actions_exact : (p n at : ℕ) → Exact file at (many n (one_action file channels p n) at)
        (each_of four_bytes) (Goods no_four (λ before f. GoodAction channels p n (length before) f) n)
    actions_exact p n at =
        many_exact no_four file (one_action file channels p n) four_bytes (λ before f. GoodAction channels p n (length before) f) (action_exact p n) at n

    pub program_exact : (before : List (List Four)) (at : ℕ)
        → Exact file at (one_program file channels before at) program_bytes (GoodProgram channels (length before))
    unfolding one_program
    program_exact before at = record {
      sound = λ x next e.
          accepted _ _ _ e λ a r₁ e₁.
          let (g₁, s₁) = (ranged_exact file 0 24 at (omega arith)).sound a.it a.next r₁ in
          let (g₂, s₂) = (actions_exact (length before) a.it a.next).sound x next e₁ in
          let size : a.it ≡ length x = sym g₂.size in (
            record {
              count = omega (arith, g₂.size);
              actions = subst (λ (n : ℕ). Goods no_four (λ before' f. GoodAction channels (length before) n (length before') f) n x) size g₂;
            },
            λ y. join file (encode (length x)) _ (subst (λ (n : ℕ). Stands file at (encode n) a.next) size (s₁ y)) (s₂ y),
          );
      complete = λ x next g s.
          let (s₁, s₂) = cut file (encode (length x)) _ s in
          rw ((ranged_exact file 0 24 at (omega arith)).complete (length x) _ (omega arith, g.count) s₁)
          ((actions_exact (length before) (length x) _).complete x next g.actions s₂);
    }
