-- `is_strange` tests a letter, and no other byte.
use Rattle.std.proofs.Common.{◌≡◌, true, false, not, ◌-◌, sym, ap, ◌∙◌, rules}
use Rattle.masks.specs.Mask.{has}
use Rattle.grammar.specs.Ways.{is_letter}
use Rattle.symbols.proofs.Letters.{any_letter, any_other}
use Rattle.symbols.proofs.is_strange.Goals as goal

pub returns-then-is_ascii_lowercase : goal.returns-then-is_ascii_lowercase
returns-then-is_ascii_lowercase c =
    let letter : is_letter c.args.c ≡ true = search rules in
    let told : c.has.result ≡ has c.args.alphabet (c.args.c - 96) = search rules in
    ap not told ∙ sym (any_letter (λ e. not (has c.args.alphabet e)) c.args.c letter)

pub returns-else-is_ascii_lowercase : goal.returns-else-is_ascii_lowercase
returns-else-is_ascii_lowercase c =
    let letter : is_letter c.args.c ≡ false = search rules in
    c.if-is_ascii_lowercase.false ∙ sym (any_other (λ e. not (has c.args.alphabet e)) c.args.c letter)
