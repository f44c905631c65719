-- Which numbers say which action.
use Rattle.std.specs.Prelude.{◌≡◌, ℕ, ◌≢◌}
use borrow.Author.Tests.{ne_eqb}
use Rattle.network.specs.declared.Four.{Four}
use Rattle.machine.specs.Actions.{decode}
use Rattle.machine.specs.declared.Action.TheVariants.{Set, Add, Subtract, Read, Write, Input, Output, Skip, Unknown}

module _ (head a b c : ℕ) where
  abbrev four : Four
  four = record { head = head; a = a; b = b; c = c }

  pub is_set : head ≡ 0 → Set a b ≡ decode four
  unfolding decode
  is_set e = rw e

  pub is_add : head ≡ 1 → Add a b c ≡ decode four
  unfolding decode
  is_add e = rw e

  pub is_subtract : head ≡ 2 → Subtract a b c ≡ decode four
  unfolding decode
  is_subtract e = rw e

  pub is_read : head ≡ 3 → Read a b c ≡ decode four
  unfolding decode
  is_read e = rw e

  pub is_write : head ≡ 4 → Write a b ≡ decode four
  unfolding decode
  is_write e = rw e

  pub is_input : head ≡ 5 → Input a b ≡ decode four
  unfolding decode
  is_input e = rw e

  pub is_output : head ≡ 6 → Output a ≡ decode four
  unfolding decode
  is_output e = rw e

  pub is_skip_lem : head ≡ 7 → Skip a b ≡ decode four
  unfolding decode
  is_skip_lem e = rw e

  pub is_unknown : head ≢ 0 → head ≢ 1 → head ≢ 2 → head ≢ 3 → head ≢ 4 → head ≢ 5 → head ≢ 6 → head ≢ 7 → Unknown ≡ decode four
  unfolding decode
  is_unknown n0 n1 n2 n3 n4 n5 n6 n7 =
      rw (ne_eqb head 0 n0, ne_eqb head 1 n1, ne_eqb head 2 n2, ne_eqb head 3 n3, ne_eqb head 4 n4, ne_eqb head 5 n5, ne_eqb head 6 n6, ne_eqb head 7 n7)
