-- The draft is that of the items passed.
use Rattle.positions.proofs.Whole.{Passed}
use Rattle.positions.proofs.positions_of.Given as goal

abbrev pub invariant-loop-i : goal.invariant-loop-i
invariant-loop-i g l =
    Passed (g.L.ItemList.list l.items) l.i (record { operands = l.operands; depth = l.depth; count = l.count; after = l.after; holding = l.holding })
