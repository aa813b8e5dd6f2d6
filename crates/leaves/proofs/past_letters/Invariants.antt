use Rattle.std.proofs.Common.{◌≡◌, ◌-◌, ◌≤◌, length, drop}
use Rattle.grammar.specs.Ways.{past_letters}
use Rattle.leaves.proofs.past_letters.Given as goal

-- the bytes behind the letters are the same at each turn
abbrev pub invariant-loop-at : goal.invariant-loop-at
invariant-loop-at l = (past_letters (drop l.at l.text) ≡ past_letters (drop l.from l.text)) × (l.from ≤ l.at) × (l.at ≤ length l.text)

abbrev pub decreases-loop-at : goal.decreases-loop-at
decreases-loop-at l = length l.text - l.at
