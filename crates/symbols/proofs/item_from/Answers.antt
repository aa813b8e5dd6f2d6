-- `item_from` goes by the first byte: a letter is the set of its event.
use Rattle.std.proofs.Common.{◌≡◌, ◌<◌, ◌^◌, true, length, sym, ap, ◌∙◌, rules}
use Rattle.rows.specs.Rows.{place}
use Rattle.expressions.specs.declared.Item.TheVariants.{Events}
use Rattle.grammar.specs.Ways.{is_letter, event_of}
use Rattle.symbols.proofs.Letters.{item_letter}
use Rattle.symbols.proofs.item_from.Goals as goal

pub returns-in-Some-97-to-122 : goal.returns-in-Some-97-to-122
returns-in-Some-97-to-122 c =
    let l = c.args.text.now in
    let at = c.args.at in
    let within : at < length l = search rules in
    let letter : is_letter (place l at) ≡ true = search rules in
    let told : c.single.result ≡ 2 ^ event_of (place l at) = search rules in
    ap Events told ∙ sym (item_letter c.args.alphabet l at within letter)
