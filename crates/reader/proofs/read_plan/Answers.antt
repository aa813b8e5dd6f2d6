-- `read_plan` answers the first refusal of all, or the plan.
use Rattle.std.proofs.Common.{◌∙◌, refl, sym}
use Rattle.std.proofs.lemmas.Result.{err_from_is_err_and}
use Rattle.plan.proofs.Ends.{order_refused, order_past}
use Rattle.reader.proofs.Answered.{words_are}
use Rattle.reader.proofs.read_plan.Goals as goal

pub returns-in_err-framed-clause-refusal : goal.returns-in_err-framed-clause-refusal
returns-in_err-framed-clause-refusal c =
    let p = err_from_is_err_and c.from_residual.result c.from_residual.ensures.1 in
    rw (p.1, p.2) (sym (order_refused c.args.plan.now _ (sym c.in_err-framed.ensures)))

pub returns-in_err-framed-clause-words : goal.returns-in_err-framed-clause-words
returns-in_err-framed-clause-words c = words_are c.args.plan.now _ _ _ (sym c.in_err-framed.ensures) refl

pub returns-clause-refusal : goal.returns-clause-refusal
returns-clause-refusal c = c.read_sections.ensures.refusal ∙ sym (order_past c.args.plan.now (sym c.in_ok-framed.ensures))

pub returns-clause-words : goal.returns-clause-words
returns-clause-words c = words_are c.args.plan.now _ _ _ (sym c.in_ok-framed.ensures) c.read_sections.ensures.words
