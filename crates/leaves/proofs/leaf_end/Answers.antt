-- `leaf_end` goes by the first byte: a letter is a set of one.
use Rattle.std.proofs.Common.{◌≡◌, ◌<◌, true, [], ◌∷◌, length, arith, rules}
use Rattle.rows.specs.Rows.{place}
use Rattle.grammar.specs.Grammar.{one_of}
use Rattle.grammar.specs.Ways.{is_letter, event_of}
use Rattle.leaves.proofs.Endings.{leaf_letter}
use Rattle.leaves.proofs.leaf_end.Goals as goal

pub returns-in-Some-97-to-122 : goal.returns-in-Some-97-to-122
returns-in-Some-97-to-122 c =
    let l = c.args.text.now in
    let within : c.args.at < length l = search rules in
    let letter : is_letter (place l c.args.at) ≡ true = search rules in
    (one_of (event_of (place l c.args.at) ∷ []), leaf_letter l c.args.at within letter, omega arith, omega arith)
