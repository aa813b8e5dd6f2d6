-- `property_of` reads the plan and hands the automaton of its pattern over.
use Rattle.std.proofs.Common.{◌∙◌, sym, ap}
use mathlib.Core.Path.{subst}
use mathlib.Core.Option.{none, some}
use Rattle.std.proofs.lemmas.Result.{err_from_is_err_and}
use Rattle.expressions.specs.Items.{pattern_of}
use Rattle.items.specs.Postfix.{Postfix}
use Rattle.pattern.specs.declared.PatternRead.{PatternRead}
use Rattle.pattern.proofs.Part.{plan_postfix, refused_early}
use Rattle.readback.specs.Property.{property, property_under, limit}
use Rattle.readback.proofs.Told.{property_told, by_limit}
use Rattle.readback.proofs.property_of.Goals as goal

pub returns-in_err-read : goal.returns-in_err-read
returns-in_err-read c =
    let p = err_from_is_err_and c.from_residual.result c.from_residual.ensures.1 in
    let b = c.args.plan.now in
    let refused = sym c.in_err-read.ensures.refusal in
    (rw (p.1, p.2) (sym (refused_early b _ refused)), sym (property_told b (some _) refused _))

pub property_under-requires : goal.property_under-requires
property_under-requires c =
    let read = c.in_ok-read.ensures in
    subst (λ (r : PatternRead). Postfix r.items.items) (sym read.plan) (plan_postfix c.args.plan.now (sym read.refusal))

pub returns : goal.returns
returns c =
    let b = c.args.plan.now in
    let read = c.in_ok-read.ensures in
    let before = property c.args.values.now c.args.states.now c.args.moves.now in (
      c.property_under.ensures.0 ∙ ap (λ (r : PatternRead). limit (pattern_of r.items.items) r.reading.plan.alphabet) read.plan
          ∙ by_limit b (sym read.refusal),
      c.property_under.ensures.1
          ∙ ap (λ (r : PatternRead). property_under (pattern_of r.items.items) r.reading.plan.alphabet before) read.plan
          ∙ sym (property_told b none (sym read.refusal) before),
    )
