-- `set_end` goes past the `^` of a set, if it has one.
use Rattle.std.proofs.Common.{◌+◌, drop, sym, subst, ◌∙◌}
use Rattle.grammar.specs.Grammar.{one_of, noneOf}
use Rattle.grammar.specs.Ways.{Outcome, listing}
use Rattle.leaves.specs.Ends.{Ends}
use Rattle.leaves.proofs.Endings.{ends_before, set_caret, set_plain}
use Rattle.leaves.proofs.set_end.Goals as goal

pub returns-then-is_at : goal.returns-then-is_at
returns-then-is_at c =
    let l = c.args.text.now in
    let at = c.args.at in
    let found = sym c.is_at.ensures ∙ c.if-is_at.true in
    subst (λ (o : Outcome). Ends o l at c.listing_end.result) (sym (set_caret l at found))
    (ends_before (listing noneOf (drop (at + 1) l)) l at c.listing_end.result (c.listing_end.ensures noneOf))

pub returns : goal.returns
returns c =
    let other = sym c.is_at.ensures ∙ c.if-is_at.false in
    subst (λ (o : Outcome). Ends o c.args.text.now c.args.at c.listing_end-2.result) (sym (set_plain _ other)) (c.listing_end-2.ensures one_of)
