use Rattle.std.proofs.Common.{◌≡◌, drop, bit_or}
use Rattle.grammar.specs.Meaning.{listed}
use Rattle.grammar.specs.Ways.{letters}
use Rattle.symbols.proofs.listed_from.Given as goal

-- the set and that of the letters left make the set of all
abbrev pub invariant-loop-c : goal.invariant-loop-c
invariant-loop-c l = listed (letters (drop l.from l.text)) ≡ bit_or l.set (listed (letters (drop l.c-index l.rest)))
