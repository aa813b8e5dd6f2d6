-- Before each turn the rows before k are there.
use Rattle.std.proofs.Common.{◌≡◌, ℕ, length}
use Rattle.expressions.specs.Expression.{Expression}
use Rattle.automaton.specs.Tables.{Of, with_last}
use Rattle.transitions.proofs.Filling.{filled}
use Rattle.transitions.proofs.Entries.{line}
use Rattle.transitions.proofs.moves_of.Given as goal

abbrev pub invariant-loop-k : goal.invariant-loop-k
invariant-loop-k l = (length l.moves ≡ 64) × ((r : Expression) (last : ℕ) → Of r (with_last last l.positions) → l.moves ≡ filled (line r l.alphabet l.sets) l.k)
