-- Before each turn the row has the moves by the watched events that are not left, and `number` is the number of t.
use Rattle.std.proofs.Common.{ℕ, ◌<◌}
use Rattle.masks.specs.Mask.{In}
use Rattle.expressions.specs.Expression.{Expression}
use Rattle.automaton.specs.Automaton.{state_at}
use Rattle.automaton.specs.Search.{Moves, FirstAt}
use Rattle.transitions.proofs.Entries.{Fills}
use Rattle.transitions.proofs.fill_row.Given as goal

abbrev pub invariant-loop-e : goal.invariant-loop-e
invariant-loop-e l =
    FirstAt l.sets l.t l.number
    × ((s : ℕ) → In s l.e-iterator.left → s < 32)
    × ((r : Expression) → Moves r (state_at l.sets l.k) l.to l.holding → Fills r l.alphabet l.sets l.k l.e-iterator.left l.row)
