-- `listing_end` finds the bracket behind the letters.
use Rattle.std.proofs.Common.{drop, arith, sym, ◌∙◌}
use Rattle.grammar.specs.Grammar.{closing_set}
use Rattle.grammar.specs.Ways.{letters}
use Rattle.leaves.proofs.Bytes.{starts_within}
use Rattle.leaves.proofs.Endings.{listing_next}
use Rattle.leaves.proofs.listing_end.Goals as goal

pub returns-then-is_at : goal.returns-then-is_at
returns-then-is_at c tree =
    let l = c.args.text.now in
    let n = c.past_letters-end.result in
    let past = c.past_letters-end.ensures in
    let found = sym c.is_at.ensures ∙ c.if-is_at.true in
    let within = starts_within closing_set l n found in
    (tree (letters (drop c.args.at l)), listing_next tree _ l n past.0 found, omega (arith, past.1), omega arith)
