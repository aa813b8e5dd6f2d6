-- None of the items passed is refused: where the reader stands, and how many operands they leave.
use Rattle.std.proofs.Common.{◌≡◌, length}
use Rattle.expressions.specs.Items.{operands}
use Rattle.items.specs.Refusals.{up_to, read}
use Rattle.items.proofs.scan_items.Given as goal

abbrev pub invariant-loop : goal.invariant-loop
invariant-loop l =
    (read l.rest l.alphabet l.counter ≡ up_to (record { at = l.at; items = l.items.items })) × (l.depth ≡ length (operands l.items.items))
