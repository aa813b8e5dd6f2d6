-- `bracketed_from` goes past the `^` of a set.
use Rattle.std.proofs.Common.{ℕ, ◌-◌, bit_and, sym, ap, ◌∙◌}
use Rattle.grammar.specs.Grammar.{caret}
use Rattle.grammar.specs.Ways.{set_from}
use Rattle.leaves.proofs.Bytes.{starts_cons}
use Rattle.symbols.proofs.bracketed_from.Goals as goal

pub returns-then-is_at : goal.returns-then-is_at
returns-then-is_at c =
    let args = c.args in
    c.without.ensures
    ∙ ap (λ (n : ℕ). args.alphabet - bit_and args.alphabet n) c.listed_from.ensures
    ∙ sym (ap (set_from args.alphabet) (starts_cons caret args.text.now args.at (sym c.is_at.ensures ∙ c.if-is_at.true)))
