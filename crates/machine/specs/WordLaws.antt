-- A channel stored is there when it is loaded, and no other channel is touched.
use Rattle.std.specs.Prelude.{◌≡◌, ℕ, zero, suc, ◌+◌, ◌*◌, ◌<◌, ◌≤◌, ◌≢◌, ◌⊎◌, Option, List, [], ◌∷◌, length, slice_index, slice_index_or, slice_set, refl}
use Rattle.std.proofs.Math.Path.{sym, ap, subst}
use Rattle.std.proofs.Common.{◌∙◌, add-zero, add-suc, suc-add, add-one, arith, length-set, length-append, get_or-set_same, get_or-set_other, get_or-append-add}
use Rattle.std.proofs.Math.Logic.{inl, inr}
use Rattle.std.proofs.Math.Decide.{dec_lt, ℕ_discrete}
use Rattle.std.proofs.Math.ListN.{get_or-append}
use Rattle.std.proofs.lemmas.List.Edits.{sets}
use Rattle.std.proofs.Math.Seq.{length-sets, ext_get_or}
use Rattle.number.specs.PutLaws.{sets_append}
use Rattle.network.specs.Lists.{table}
use Rattle.network.specs.ListLaws.{length_table, get_or_table}
use Rattle.network.specs.ChainsSame.{table_same}
use Rattle.machine.specs.State.{Contents, nothing}
use Rattle.machine.specs.ChannelLaws.{table_list}
use Rattle.machine.specs.ChannelTold.{Sound, contents_by, TakenFrom, PutInto}
use Rattle.machine.specs.Words.{channel_at, numbers_of, stored, contents_in, SoundWords, ReadFrom, WrittenTo}
use Rattle.machine.specs.declared.Channel.{Channel}

-- ---- runs of numbers

sets_outside : (vs l : List ℕ) (i j : ℕ) → (j < i) ⊎ (i + length vs ≤ j) → slice_index (sets l i vs) j ≡ slice_index l j
sets_outside [] l i j h = refl
sets_outside (v ∷ vs) l i j (inl h) = sets_outside vs (slice_set l i v) (suc i) j (inl (omega arith)) ∙ get_or-set_other l i j v 0 (λ e. omega arith)
sets_outside (v ∷ vs) l i j (inr h) = sets_outside vs (slice_set l i v) (suc i) j (inr (omega arith)) ∙ get_or-set_other l i j v 0 (λ e. omega arith)

sets_inside : (vs l : List ℕ) (i k : ℕ) → i + length vs ≤ length l → k < length vs → slice_index (sets l i vs) (i + k) ≡ slice_index vs k
sets_inside [] l i k h b = absurd (omega arith)
sets_inside (v ∷ vs) l i zero h b = rw (add-zero i) (sets_outside vs (slice_set l i v) (suc i) i (inl (omega arith)) ∙ get_or-set_same l i v 0 (omega arith))
sets_inside (v ∷ vs) l i (suc k) h b = rw (add-suc i k, ← suc-add i k) (sets_inside vs (slice_set l i v) (suc i) k (omega (arith, length-set l i v)) (omega arith))

-- ---- number by number

-- the numbers of a table, stored one after another
pub stored_more : (words : List ℕ) (at : ℕ) (f : ℕ → ℕ) (k : ℕ) → slice_set (sets words at (table k f)) (at + k) (f k) ≡ sets words at (table (k + 1) f)
unfolding table
stored_more words at f k = rw (add-one k, sets_append words at (table k f) (f k ∷ []), length_table k f)

pub loaded_is : (words : List ℕ) (i : ℕ) {values : List ℕ} → values ≡ table 8 (λ k. slice_index words (i * 12 + k))
    → record {
      values = values;
      head = slice_index words (i * 12 + 8);
      length = slice_index words (i * 12 + 9);
      loss = slice_index words (i * 12 + 10);
    }
    ≡ channel_at words i
unfolding channel_at
loaded_is words i e = rw e

pub stored_is : (words : List ℕ) {after : List ℕ} (i : ℕ) (c : Channel) → Sound c → after ≡ sets words (i * 12) (table 8 (λ k. slice_index c.values k))
    → slice_set (slice_set (slice_set after (i * 12 + 8) c.head) (i * 12 + 9) c.length) (i * 12 + 10) c.loss ≡ stored words i c
unfolding stored
stored_is words i c s e =
    let nine : i * 12 + 9 ≡ suc (i * 12 + 8) = omega arith in
    let ten : i * 12 + 10 ≡ suc (suc (i * 12 + 8)) = omega arith in
    rw (
      nine,
      ten,
      e,
      table_list c.values 8 s.places,
      sets_append words (i * 12) c.values (c.head ∷ c.length ∷ c.loss ∷ []),
      s.places,
    )

-- ---- what is loaded after a store

module _ (words : List ℕ) (size : length words ≡ 192) (i : ℕ) (c : Channel) (h : i < 16) (s : Sound c) where
  eleven : length (numbers_of c) ≡ 11
  eleven = length-append c.values _ ∙ rw s.places

  there : (k : ℕ) → k < 11 → slice_index (stored words i c) (i * 12 + k) ≡ slice_index (numbers_of c) k
  unfolding stored
  there k l = sets_inside (numbers_of c) words (i * 12) k (omega (arith, eleven)) (omega (arith, eleven))

  in_values : (k : ℕ) → k < 8 → slice_index (numbers_of c) k ≡ slice_index c.values k
  in_values k l = get_or-append c.values (c.head ∷ c.length ∷ c.loss ∷ []) 0 k (omega (arith, s.places))

  past_values : (k : ℕ) → slice_index (numbers_of c) (8 + k) ≡ slice_index (c.head ∷ c.length ∷ c.loss ∷ []) k
  past_values k = ap (λ (n : ℕ). slice_index (numbers_of c) (n + k)) (sym s.places) ∙ get_or-append-add c.values (c.head ∷ c.length ∷ c.loss ∷ []) k 0

  pub stored_same : channel_at (stored words i c) i ≡ c
  unfolding channel_at
  stored_same =
      rw (
        table_same 8 (λ k. slice_index (stored words i c) (i * 12 + k)) (λ k. slice_index c.values k) (λ k l. there k (omega arith) ∙ in_values k l),
        table_list c.values 8 s.places,
        there 8 (omega arith),
        past_values 0,
        there 9 (omega arith),
        past_values 1,
        there 10 (omega arith),
        past_values 2,
      )

  elsewhere : (j k : ℕ) → i ≢ j → k < 12 → slice_index (stored words i c) (j * 12 + k) ≡ slice_index words (j * 12 + k)
  unfolding stored
  elsewhere j k d l = sets_outside (numbers_of c) words (i * 12) (j * 12 + k) (elim (dec_lt i j) [
    | yes b ↦ inr (omega (arith, eleven))
    | no b ↦ inl (omega arith)
  ])

  pub stored_other : (j : ℕ) → i ≢ j → channel_at (stored words i c) j ≡ channel_at words j
  unfolding channel_at
  stored_other j d =
      rw (
        table_same 8 (λ k. slice_index (stored words i c) (j * 12 + k)) (λ k. slice_index words (j * 12 + k)) (λ k l. elsewhere j k d (omega arith)),
        elsewhere j 8 d (omega arith),
        elsewhere j 9 d (omega arith),
        elsewhere j 10 d (omega arith),
      )

  -- it is sound again
  pub stored_sound : SoundWords words → SoundWords (stored words i c)
  unfolding stored
  stored_sound w = record {
    size = length-sets words (i * 12) (numbers_of c) ∙ size;
    sound = λ j l. elim (ℕ_discrete i j) [
      | yes e ↦ subst (λ k. Sound (channel_at (stored words i c) k)) e (subst Sound (sym stored_same) s)
      | no d ↦ subst Sound (sym (stored_other j d)) (w.sound j l)
    ];
  }

  -- of what the channels hold, only what this one holds is new
  pub stored_contents : contents_in (stored words i c) ≡ slice_set (contents_in words) i (contents_by c)
  unfolding contents_in
  stored_contents =
      let f : ℕ → Contents = λ j. contents_by (channel_at words j) in
      let g : ℕ → Contents = λ j. contents_by (channel_at (stored words i c) j) in
      ext_get_or nothing (table 16 g) (slice_set (table 16 f) i (contents_by c)) (length_table 16 g ∙ sym (length-set (table 16 f) i (contents_by c) ∙ length_table 16 f)) λ j l.
      let b : j < 16 = omega (arith, length_table 16 g) in
      get_or_table 16 g j nothing b
      ∙ elim (ℕ_discrete i j) [
        | yes e ↦ subst (λ k. contents_by (channel_at (stored words i c) k) ≡ slice_index_or (slice_set (table 16 f) i (contents_by c)) k nothing) e
            (ap contents_by stored_same ∙ sym (get_or-set_same (table 16 f) i (contents_by c) nothing (omega (arith, length_table 16 f))))
        | no d ↦ ap contents_by (stored_other j d) ∙ sym (get_or-set_other (table 16 f) i j (contents_by c) nothing (λ e. d (sym e)) ∙ get_or_table 16 f j nothing b)
      ]

pub contents_at : (words : List ℕ) (i : ℕ) → i < 16 → slice_index_or (contents_in words) i nothing ≡ contents_by (channel_at words i)
unfolding contents_in
contents_at words i h = get_or_table 16 _ i nothing h

-- ---- the calls

module _ (words : List ℕ) (i : ℕ) (h : i < 16) (w : SoundWords words) where
  pub read_from : (kind : ℕ) (left : Channel) (given : Option ℕ) → TakenFrom (channel_at words i) kind left given → ReadFrom i kind words (stored words i left) given
  read_from kind left given r = record {
    sound = stored_sound words w.size i left h r.sound w;
    contents = stored_contents words w.size i left h r.sound ∙ rw (contents_at words i h, r.contents);
    value = rw (contents_at words i h) r.value;
    flag = rw (contents_at words i h) r.flag;
  }

  pub written_to_lem : (kind capacity value : ℕ) (c : Channel) → PutInto (channel_at words i) kind capacity value c
      → WrittenTo i kind capacity value words (stored words i c)
  written_to_lem kind capacity value c r = record {
    sound = stored_sound words w.size i c h r.sound w;
    contents = stored_contents words w.size i c h r.sound ∙ rw (contents_at words i h, r.contents);
  }
