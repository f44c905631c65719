-- The turns of a call name processors, but for the first that is found.
use Rattle.std.specs.Prelude.{ℕ, ◌≤◌, ◌≡◌, Some, None, false, List, length, get_or, ltb, leb}
use Rattle.std.proofs.Common.{arith}
use Rattle.std.specs.List.{position, position_or_len}
use Rattle.std.proofs.lemmas.Grind.{common_steps}
use Rattle.std.proofs.lemmas.List.Quantifiers.{position-Some}
use Rattle.std.proofs.lemmas.List.Sums.{fails_before_first}
use borrow.Author.Tests.{lt-ltb, le-ltb, leb-true, leb-false}
use Rattle.reply.specs.Result.{Result, done, refused, require}
use Rattle.reply.specs.ResultLaws.{order_make, order_refused}
use Rattle.reply.specs.declared.Reply.TheVariants.{WrongTurn}
use Rattle.promises.specs.Turns.{ok_turns}

module _ (m : ℕ) (list : List ℕ) where
  abbrev one : ℕ → Result (Unit {0})
  one k = require (ltb (get_or list k 0) m) WrongTurn k

  named : (k : ℕ) → leb m (get_or list k 0) ≡ false → one k ≡ done tt
  named k e = rw (lt-ltb (get_or list k 0) m (leb-false m (get_or list k 0) e))

  pub wrong : (i : ℕ) → position (leb m) list ≡ Some i → ok_turns m list ≡ refused WrongTurn i
  unfolding ok_turns
  wrong i e =
      let (h, beyond, before) = position-Some (leb m) list i 0 e in
      order_refused one i (length list) WrongTurn i h (order_make one i (λ k l. named k (before k l)))
      (rw (le-ltb (get_or list i 0) m (leb-true m (get_or list i 0) beyond)))

  pub all_named : position (leb m) list ≡ None → ok_turns m list ≡ done tt
  unfolding ok_turns
  all_named e =
      let whole : length list ≤ position_or_len (leb m) list = grind (arith, common_steps) in
      order_make one (length list) λ k h. named k (fails_before_first (leb m) list k 0 (omega arith))
