-- Reads and writes on the struct of a channel are those on what it holds.
use Rattle.std.specs.Prelude.{◌≡◌, ℕ, zero, suc, ◌+◌, ◌-◌, ◌%◌, ◌<◌, ◌≤◌, cond, ◌≢◌, Some, None, List, [], ◌∷◌, ◌++◌, length, ◌==◌, slice_index, slice_index_or, slice_set}
use Rattle.std.proofs.Math.Path.{refl, ap, ap₂}
use Rattle.std.proofs.Common.{sym, ◌∙◌, ext_get_or}
use Rattle.std.proofs.Math.Decide.{ℕ_discrete}
use native.Mathlib.Omega.{arith}
use Rattle.std.proofs.Math.ListN.{length-set}
use Rattle.std.proofs.Math.Seq.{get_or-set_same, get_or-set_other}
use borrow.Author.Tests.{eq-eqb, ne_eqb, lt-ltb, le-ltb}
use Rattle.reply.specs.Tests.{split}
use Rattle.network.specs.Lists.{table}
use Rattle.network.specs.ListLaws.{length_table, get_or_table}
use Rattle.network.specs.ChainsSame.{table_same}
use Rattle.machine.specs.State.{after_read, after_write}
use Rattle.machine.specs.ChannelTold.{Sound, held_by, TakenFrom, PutInto}
use Rattle.machine.specs.declared.Channel.{Channel}

table_front : {A : Type 0} (n : ℕ) (f : ℕ → A) → table (suc n) f ≡ f 0 ∷ table n (λ k. f (suc k))
unfolding table
table_front zero f = refl
table_front {A} (suc n) f = ap (λ (l : List A). l ++ (f (suc n) ∷ [])) (table_front n f)

-- a list is the table of its elements
pub table_list : (l : List ℕ) (n : ℕ) → length l ≡ n → table n (λ k. slice_index l k) ≡ l
table_list l n e =
    ext_get_or 0 (table n (λ k. slice_index l k)) l (length_table n _ ∙ sym e) (λ i h. get_or_table n _ i 0 (omega (arith, length_table n (λ k. slice_index l k))))

-- ---- what is held

module _ (c : Channel) where
  held_none : c.length ≡ 0 → held_by c ≡ []
  unfolding held_by table
  held_none e = rw e

  held_count : length (held_by c) ≡ c.length
  unfolding held_by
  held_count = length_table c.length _

  -- a queue after its oldest value was taken
  abbrev shorter : Channel
  shorter = record { values = c.values; head = (c.head + 1) % 8; length = c.length - 1; loss = c.loss }

  held_front : c.head < 8 → c.length ≢ 0 → held_by c ≡ slice_index c.values c.head ∷ held_by shorter
  unfolding held_by
  held_front h n =
      let f : ℕ → ℕ = λ k. slice_index_or c.values ((c.head + k) % 8) 0 in
      let z : c.length ≡ suc (c.length - 1) = omega arith in
      ap (λ (k : ℕ). table k f) z
      ∙ table_front (c.length - 1) f
      ∙ ap₂ (λ (v : ℕ) (l : List ℕ). v ∷ l)
      (ap (λ (k : ℕ). slice_index c.values k) (omega arith))
      (table_same (c.length - 1) _ _ (λ k l. ap (λ (i : ℕ). slice_index c.values i) (omega arith)))

  -- ---- a read

  module _ (s : Sound c) (kind : ℕ) where
    pub taken_none : c.length ≡ 0 → TakenFrom c kind c None
    unfolding after_read
    taken_none e = record {
      sound = s;
      contents = split (kind == 1) (λ t. rw t) (λ t. rw (t, held_none e));
      value = rw (held_none e);
      flag = rw (held_none e);
    }

    pub taken_board : c.length ≢ 0 → kind ≡ 1 → TakenFrom c kind c (Some (slice_index c.values c.head))
    unfolding after_read
    taken_board n k = record {
      sound = s;
      contents = rw (eq-eqb kind 1 k);
      value = rw (held_front s.head n);
      flag = rw (held_front s.head n);
    }

    pub taken_queue : c.length ≢ 0 → kind ≢ 1 → TakenFrom c kind shorter (Some (slice_index c.values c.head))
    unfolding after_read
    taken_queue n k = record {
      sound = record { places = s.places; head = omega arith; most = omega (arith, s.most) };
      contents = rw (ne_eqb kind 1 k, held_front s.head n);
      value = rw (held_front s.head n);
      flag = rw (held_front s.head n);
    }

  -- ---- a write

  module _ (s : Sound c) (kind capacity value : ℕ) where
    abbrev as_board : Channel
    as_board = record { values = slice_set c.values c.head value; head = c.head; length = 1; loss = c.loss }

    board_holds : held_by as_board ≡ value ∷ []
    unfolding held_by table
    board_holds =
        let z : (c.head + 0) % 8 ≡ c.head = omega (arith, s.head) in
        ap (λ (v : ℕ). v ∷ []) (ap (λ (k : ℕ). slice_index (slice_set c.values c.head value) k) z ∙ get_or-set_same c.values c.head value 0 (omega (arith, s.places, s.head)))

    pub put_board : kind ≡ 1 → PutInto c kind capacity value as_board
    unfolding after_write
    put_board k = record {
      sound = record { places = length-set c.values c.head value ∙ s.places; head = s.head; most = omega arith };
      contents = rw (eq-eqb kind 1 k, board_holds);
    }

    abbrev longer : Channel
    longer = record { values = slice_set c.values ((c.head + c.length) % 8) value; head = c.head; length = c.length + 1; loss = c.loss }

    queue_holds : c.length < 8 → held_by longer ≡ held_by c ++ (value ∷ [])
    unfolding held_by table
    queue_holds l =
        let z : c.length + 1 ≡ suc c.length = omega arith in
        let f : ℕ → ℕ = λ k. slice_index_or (slice_set c.values ((c.head + c.length) % 8) value) ((c.head + k) % 8) 0 in
        ap (λ (k : ℕ). table k f) z
        ∙ ap₂ (λ (l : List ℕ) (v : ℕ). l ++ (v ∷ []))
        (table_same c.length _ _ (λ k h. get_or-set_other c.values ((c.head + c.length) % 8) ((c.head + k) % 8) value 0 (λ e. omega arith)))
        (get_or-set_same c.values ((c.head + c.length) % 8) value 0 (omega (arith, s.places)))

    pub put_queue : kind ≢ 1 → c.length < capacity → capacity ≤ 8 → PutInto c kind capacity value longer
    unfolding after_write
    put_queue k l m = record {
      sound = record { places = length-set c.values _ value ∙ s.places; head = s.head; most = omega arith };
      contents = rw (ne_eqb kind 1 k, held_count, lt-ltb c.length capacity l, queue_holds (omega arith));
    }

    abbrev fuller : Channel
    fuller = record { values = c.values; head = c.head; length = c.length; loss = c.loss + 1 }

    full_holds : held_by fuller ≡ held_by c
    unfolding held_by
    full_holds = refl

    pub put_full : kind ≢ 1 → capacity ≤ c.length → PutInto c kind capacity value fuller
    unfolding after_write
    put_full k l = record {
      sound = record { places = s.places; head = s.head; most = s.most };
      contents = rw (ne_eqb kind 1 k, held_count, le-ltb c.length capacity l, full_holds);
    }

-- ---- the values, place by place

-- eight values, place by place, with a new one at a place
abbrev pub placed : List ℕ → ℕ → ℕ → List ℕ
placed values at value = table 8 (λ k. cond (at == k) value (slice_index values k))

set_at : (values : List ℕ) (at value k : ℕ) → k < length values → cond (at == k) value (slice_index values k) ≡ slice_index (slice_set values at value) k
set_at values at value k h = elim (ℕ_discrete at k) [
  | yes e ↦ rw (eq-eqb at k e, e) (sym (get_or-set_same values k value 0 h))
  | no d ↦ rw (ne_eqb at k d) (sym (get_or-set_other values at k value 0 (λ e. d (sym e))))
]

placed_set : (values : List ℕ) (at value : ℕ) → length values ≡ 8 → placed values at value ≡ slice_set values at value
placed_set values at value e =
    table_same 8 (λ k. cond (at == k) value (slice_index values k)) (λ k. slice_index (slice_set values at value) k) (λ k h. set_at values at value k (omega arith))
    ∙ table_list (slice_set values at value) 8 (length-set values at value ∙ e)

module _ (c : Channel) (s : Sound c) (kind capacity value : ℕ) {written : List ℕ} where
  pub board_written : written ≡ placed c.values c.head value → kind ≡ 1
      → PutInto c kind capacity value (record { values = written; head = c.head; length = 1; loss = c.loss })
  board_written e k = rw (e, placed_set c.values c.head value s.places) (put_board c s kind capacity value k)

  pub queue_written : written ≡ placed c.values ((c.head + c.length) % 8) value → kind ≢ 1 → c.length < capacity → capacity ≤ 8
      → PutInto c kind capacity value (record { values = written; head = c.head; length = c.length + 1; loss = c.loss })
  queue_written e k l m = rw (e, placed_set c.values ((c.head + c.length) % 8) value s.places) (put_queue c s kind capacity value k l m)
