use Rattle.std.proofs.Common.{◌≡◌, take}
use Rattle.grammar.specs.Ways.{items_by}
use Rattle.symbols.proofs.items_by.Given as goal

abbrev pub invariant-loop-at : goal.invariant-loop-at
invariant-loop-at l = l.items.items ≡ items_by l.alphabet l.text (take l.at-index l.first)
