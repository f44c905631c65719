-- The loops of `report`: the values of a channel, and the channels, one after another into an array.
use Rattle.std.proofs.Common.{◌≡◌, ℕ, zero, suc, ◌+◌, ◌-◌, ◌%◌, ◌<◌, ◌≤◌, List, [], ◌∷◌, map, length, get_or, set, replicate, sym, refl, ap, ◌∙◌, append-nil, add-one, arith}
use mathlib.Core.List.{map-append}
use Rattle.network.specs.Lists.{table, fill_to}
use Rattle.network.specs.ListLaws.{length_table, fill_none, fill_store}
use Rattle.machine.specs.ChannelTold.{held_by, contents_by}
use Rattle.machine.specs.Words.{channel_at, contents_in}
use Rattle.machine.specs.HeldOf.{held_of, no_held}
use Rattle.machine.specs.declared.Channel.{Channel}
use Rattle.machine.specs.declared.Held.{Held}

-- ---- stores one after another, into an array that is empty from there on

module _ {A : Type 0} (n : ℕ) (none : A) (f : ℕ → A) where
  pub start : replicate n none ≡ fill_to n none (table 0 f)
  unfolding table
  start = sym (fill_none n none)

  pub turn : (k : ℕ) (l : List A) (x : A) → k < n → l ≡ fill_to n none (table k f) → x ≡ f k → set l k x ≡ fill_to n none (table (k + 1) f)
  unfolding table
  turn k l x h e v =
      rw (e, v, add-one k)
      (ap (λ (i : ℕ). set (fill_to n none (table k f)) i (f k)) (sym (length_table k f))
      ∙ fill_store n none (table k f) (f k) (omega (arith, length_table k f)))

  full : fill_to n none (table n f) ≡ table n f
  unfolding fill_to
  full = let z : n - length (table n f) ≡ 0 = omega (arith, length_table n f) in rw z (append-nil (table n f))

-- ---- the values of a channel

abbrev pub value_in : Channel → ℕ → ℕ
value_in c k = get_or c.values ((c.head + k) % 8) 0

pub values_told : (c : Channel) (k : ℕ) (values : List ℕ) → k ≤ c.length → c.length ≤ k → values ≡ fill_to 8 0 (table k (value_in c))
    → record { number = c.length; values = values; loss = c.loss } ≡ held_of (contents_by c)
unfolding held_by
values_told c k values h l e = let z : k ≡ c.length = omega arith in rw (length_table c.length (value_in c), e, z)

-- ---- the channels

abbrev pub held_at : List ℕ → ℕ → Held
held_at words i = held_of (contents_by (channel_at words i))

map_table : {A B : Type 0} (g : A → B) (n : ℕ) (f : ℕ → A) → map g (table n f) ≡ table n (λ k. g (f k))
unfolding table
map_table g zero f = refl
map_table g (suc n) f = map-append g (table n f) (f n ∷ []) ∙ rw (map_table g n f)

pub channels_told : (words : List ℕ) (i : ℕ) (all : List Held) → i ≤ 16 → 16 ≤ i → all ≡ fill_to 16 no_held (table i (held_at words))
    → all ≡ map held_of (contents_in words)
unfolding contents_in
channels_told words i all h l e =
    let z : i ≡ 16 = omega arith in
    e ∙ rw z (full 16 no_held (held_at words)) ∙ sym (map_table held_of 16 (λ i. contents_by (channel_at words i)))
