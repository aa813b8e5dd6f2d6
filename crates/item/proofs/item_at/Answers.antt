-- The tests of an item in their order; behind them the item is the one that its bits say.
use mathlib.Core.Path.{◌≡◌, refl, sym, ap, ◌∙◌}
use mathlib.Core.Bool.{false}
use Prim.Native.Nat.{◌+◌}
use native.Mathlib.Omega.{arith}
use borrow.Author.Tests.{lt-ltb, le-ltb}
use Rattle.std.proofs.lemmas.Result.{err_from_is_err_and}
use Rattle.plan.specs.Checks.{first}
use Rattle.expressions.specs.declared.Item.TheVariants.{Events as events}
use Rattle.item.specs.Faults.{cut}
use Rattle.item.proofs.Faults.{Told, kind_unknown, set_refused, operands_last, told_operator, told_set}
use Rattle.item.proofs.item_at.Goals as goal
use Rattle.item.proofs.item_at.Goals.{After-arity, in-0, in-1+in_ok-read_set-in-1, in-2, in-3, in-4}

pub returns-then-is_cut-clause-refusal : goal.returns-then-is_cut-clause-refusal
unfolding first
returns-then-is_cut-clause-refusal c = rw (← c.is_cut.ensures, c.if-is_cut.true) refl

pub returns-in_err-read_set-in-1-clause-refusal : goal.returns-in_err-read_set-in-1-clause-refusal
returns-in_err-read_set-in-1-clause-refusal c =
    let p = err_from_is_err_and c.from_residual.result c.from_residual.ensures.1 in
    let w : cut c.args.rest.now (c.args.at + 3) ≡ false = sym c.is_cut.ensures ∙ c.if-is_cut.false in
    rw (p.1, p.2) (sym (set_refused c.args.rest.now c.args.alphabet c.args.at c.args.depth w (sym c.field.ensures ∙ c.in-1.is) _ c.in_err-read_set-in-1.ensures.refusal))

pub returns-in_default-clause-refusal : goal.returns-in_default-clause-refusal
returns-in_default-clause-refusal c =
    let w : cut c.args.rest.now (c.args.at + 3) ≡ false = sym c.is_cut.ensures ∙ c.if-is_cut.false in
    sym (kind_unknown c.args.rest.now c.args.alphabet c.args.at c.args.depth w (rw (← c.field.ensures) (lt-ltb 4 c.field.result (omega arith))))

told : (c : After-arity) → Told c.args.rest.now c.args.alphabet c.args.at c.args.depth c.match-field.item
told c =
    let b = c.args.rest.now in
    let whole : cut b (c.args.at + 3) ≡ false = sym c.is_cut.ensures ∙ c.if-is_cut.false in
    let operator = told_operator b c.args.alphabet c.args.at c.args.depth whole c.match-field.item in
    elim c.match-field.branch [
      | in-0 w ↦ operator 0 (sym c.field.ensures ∙ w.in-0.is) refl refl (λ m. w.item-is)
      | in-1+in_ok-read_set-in-1 w ↦ told_set b c.args.alphabet c.args.at c.args.depth whole c.match-field.item (sym c.field.ensures ∙ w.in-1.is) w.in_ok-read_set-in-1.ensures.refusal (w.item-is ∙ ap events w.in_ok-read_set-in-1.ensures.set)
      | in-2 w ↦ operator 2 (sym c.field.ensures ∙ w.in-2.is) refl refl (λ m. w.item-is)
      | in-3 w ↦ operator 3 (sym c.field.ensures ∙ w.in-3.is) refl refl (λ m. w.item-is)
      | in-4 w ↦ operator 4 (sym c.field.ensures ∙ w.in-4.is) refl refl (λ m. w.item-is)
    ]

pub returns-then-depth-arity-clause-refusal : goal.returns-then-depth-arity-clause-refusal
returns-then-depth-arity-clause-refusal c =
    sym (operands_last c.args.rest.now c.args.alphabet c.args.at c.args.depth _ (told (goal.at.returns-then-depth-arity-clause-refusal c).After-arity) ∙ rw (← c.arity.ensures, lt-ltb c.args.depth c.arity.result c.if-depth-arity.true) refl)

pub returns-clause-refusal : goal.returns-clause-refusal
returns-clause-refusal c =
    sym (operands_last c.args.rest.now c.args.alphabet c.args.at c.args.depth _ (told (goal.at.returns-clause-refusal c).After-arity) ∙ rw (← c.arity.ensures, le-ltb c.args.depth c.arity.result c.if-depth-arity.false) refl)

pub returns-clause-item : goal.returns-clause-item
returns-clause-item c = (told (goal.at.returns-clause-item c).After-arity).item
