-- Items that are an expression in postfix form, as the reader leaves them.
use Rattle.std.specs.Prelude.{◌≡◌, ℕ, List, ◌≤◌, ◌<◌, length, get_or, take}
use Rattle.expressions.specs.declared.Item.{Item}
use Rattle.expressions.specs.declared.Item.TheVariants.{Empty as empty}
use Rattle.expressions.specs.Items.{arity, operands}

-- each operator finds its operands, and one is left after the last item
pub record Postfix (l : List Item) : Type 0 where
  pub few : length l ≤ 64
  pub enough : (i : ℕ) → i < length l → arity (get_or l i empty) ≤ length (operands (take i l))
  pub one : length (operands l) ≡ 1
