-- The readers of choices, sequences and units, which call each other.
use Rattle.std.proofs.Common.{List, ℕ, sym, subst, ◌∙◌}
use Rattle.grammar.specs.Ways.{choices, sequences, fails}
use Rattle.readers.proofs.Chains.{Sofar, first_operand, chain_ends, chain_breaks, next_operand, brackets_break, brackets_close}
use Rattle.readers.proofs.+choice_sequence_unit.Goals as goal

pub choice-returns-in_err-at : goal.choice-returns-in_err-at
choice-returns-in_err-at t c = rw c.from_residual.ensures (fails c.in_err-at.ensures)

pub choice-loop-order-init : goal.choice-loop-order-init
choice-loop-order-init t c = first_operand c.in_ok-at.ensures

pub choice-returns-in_err-end : goal.choice-returns-in_err-end
choice-returns-in_err-end t c =
    rw c.from_residual-in_err-end.ensures (chain_breaks c.loop-order.invariant (sym c.is_at.ensures ∙ c.loop-order-test.true) c.in_err-end.ensures)

pub choice-loop-order-preserved : goal.choice-loop-order-preserved
choice-loop-order-preserved t c =
    let a = c.args in
    let on = next_operand c.loop-order.invariant (sym c.is_at.ensures ∙ c.loop-order-test.true) c.in_ok-end.ensures in
    subst (λ (o : List ℕ). Sofar choices a.text.now a.from a.order.now.items o c.in_ok-end.end) (sym c.push.ensures.items) on

pub choice-returns : goal.choice-returns
choice-returns t c = chain_ends c.loop-order.invariant (sym c.is_at.ensures ∙ c.loop-order-test.false)

pub sequence-returns-in_err-at : goal.sequence-returns-in_err-at
sequence-returns-in_err-at t c = rw c.from_residual.ensures (fails c.in_err-at.ensures)

pub sequence-loop-order-init : goal.sequence-loop-order-init
sequence-loop-order-init t c = first_operand c.in_ok-at.ensures

pub sequence-returns-in_err-end : goal.sequence-returns-in_err-end
sequence-returns-in_err-end t c =
    rw c.from_residual-in_err-end.ensures (chain_breaks c.loop-order.invariant (sym c.is_at.ensures ∙ c.loop-order-test.true) c.in_err-end.ensures)

pub sequence-loop-order-preserved : goal.sequence-loop-order-preserved
sequence-loop-order-preserved t c =
    let a = c.args in
    let on = next_operand c.loop-order.invariant (sym c.is_at.ensures ∙ c.loop-order-test.true) c.in_ok-end.ensures in
    subst (λ (o : List ℕ). Sofar sequences a.text.now a.from a.order.now.items o c.in_ok-end.end) (sym c.push.ensures.items) on

pub sequence-returns : goal.sequence-returns
sequence-returns t c = chain_ends c.loop-order.invariant (sym c.is_at.ensures ∙ c.loop-order-test.false)

pub unit-returns-in_err-end : goal.unit-returns-in_err-end
unit-returns-in_err-end t c =
    rw c.from_residual.ensures (brackets_break c.args.text.now c.args.at (sym c.is_at.ensures ∙ c.if-is_at.true) c.in_err-end.ensures)

pub unit-returns-then-is_at : goal.unit-returns-then-is_at
unit-returns-then-is_at t c =
    brackets_close c.args.text.now c.args.at (sym c.is_at.ensures ∙ c.if-is_at.true) _ c.closed.result c.in_ok-end.ensures c.closed.ensures
