-- `has_strange` tests each byte.
use Rattle.std.proofs.Common.{not, [], ◌∷◌, ◌∙◌, rules, tests}
use Rattle.std.proofs.lemmas.Iterator.{YieldsList-from_slice}
use Rattle.std.proofs.lemmas.Iterator.Search.{any_from_yields_List}
use Rattle.masks.specs.Mask.{has}
use Rattle.plan.specs.Checks.{any}
use Rattle.grammar.specs.Ways.{typed_letters}
use Rattle.symbols.proofs.Letters.{any_each}
use Rattle.symbols.proofs.has_strange.Goals as goal

pub returns : goal.returns
returns c =
    any_from_yields_List (λ x. any (λ e. not (has c.args.alphabet e)) (typed_letters (x ∷ []))) _ _ c.any.result c.any.ensures.ran (YieldsList-from_slice c.args.text.now (cc)) (λ x b q k. search (rules, tests))
    ∙ any_each (λ e. not (has c.args.alphabet e)) c.args.text.now
