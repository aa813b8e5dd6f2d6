use Rattle.std.proofs.Common.{◌≡◌, ◌+◌, ◌-◌, ◌≤◌, length, drop}
use Rattle.grammar.specs.Grammar.{Tree}
use Rattle.grammar.specs.Ways.{stars}
use Rattle.readers.specs.Readers.{Continued}
use Rattle.readers.proofs.stars.Given as goal

-- each star is one item more, and the tree a starred one
abbrev pub invariant-loop-order : goal.invariant-loop-order
invariant-loop-order l =
    (l.from ≤ l.at)
    × (l.at ≤ length l.text)
    × (length l.order.items + l.from ≡ l.at + length l.fn.order.items)
    × ((t : Tree) → (s : Tree) × (stars t (drop l.from l.text) ≡ stars s (drop l.at l.text)) × Continued l.text l.fn.order.items l.order.items t s)

abbrev pub decreases-loop-order : goal.decreases-loop-order
decreases-loop-order l = length l.text - l.at
