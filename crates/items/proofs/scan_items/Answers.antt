-- The items one by one, up to the first that is refused.
use mathlib.Core.Path.{◌≡◌, refl, sym, ap, ◌∙◌}
use mathlib.Core.List.{[], ◌∷◌, ◌++◌}
use mathlib.Core.Option.{none}
use Prim.Native.Nat.{ℕ, ◌+◌, ◌-◌}
use native.Mathlib.Omega.{arith}
use lib.ListN.{length}
use Rattle.std.proofs.lemmas.Result.{err_from_is_err_and}
use Rattle.plan.specs.Checks.{first}
use Rattle.expressions.specs.declared.Item.{Item}
use Rattle.expressions.specs.Items.{arity}
use Rattle.expressions.proofs.Operands.{push_none}
use Rattle.item.specs.Faults.{width, faults}
use Rattle.item.specs.Found.{kind_of}
use Rattle.item.proofs.Faults.{width_item}
use Rattle.items.specs.Refusals.{Spot, point_of, read, up_to}
use Rattle.items.proofs.Progress.{faulty_later, refused_next, read_next, kind_found, enough, depth_past, near, Bounds}
use Rattle.items.proofs.scan_items.Goals as goal
use Rattle.items.proofs.scan_items.Goals.{In-loop, In_ok-item}

pub loop-init : goal.loop-init
unfolding read
loop-init c = rw c.new-items.ensures (refl, sym (ap length push_none))

-- where the code stands before a turn
abbrev spot : In-loop → Spot
spot c = record { at = c.loop.at; items = c.loop.items.items }

-- what the item has, as the reader counts the operands before it
told : (c : In-loop) → first (faults c.args.rest.now c.args.alphabet) (record { at = c.loop.at; depth = c.loop.depth }) ≡ first (faults c.args.rest.now c.args.alphabet) (point_of (spot c))
told c = ap (λ (d : ℕ). first (faults c.args.rest.now c.args.alphabet) (record { at = c.loop.at; depth = d })) c.loop.invariant.1

bounds : (c : In-loop) → Bounds c.args.rest.now c.args.alphabet c.loop.counter (up_to (spot c))
bounds c = near c.args.rest.now c.args.alphabet c.loop.counter (spot c) c.loop.invariant.0

fine : (c : In_ok-item) → first (faults c.args.rest.now c.args.alphabet) (point_of (spot (goal.at.In_ok-item c).In-loop)) ≡ none
fine c = sym (c.in_ok-item.ensures.refusal ∙ told (goal.at.In_ok-item c).In-loop)

pub item_at-requires : goal.item_at-requires
item_at-requires c = omega (arith, bounds (goal.at.item_at-requires c).In-loop)

pub returns-in_err-item : goal.returns-in_err-item
returns-in_err-item c =
    let p = err_from_is_err_and c.from_residual.result c.from_residual.ensures.1 in
    let b = c.args.rest.now in
    let i = c.loop.counter in
    let refused = refused_next b c.args.alphabet i (spot (goal.at.returns-in_err-item c).In-loop) c.loop.invariant.0 _ (c.in_err-item.ensures.refusal ∙ told (goal.at.returns-in_err-item c).In-loop) in
    let rest : i + 1 + (c.args.count - (i + 1)) ≡ c.args.count = omega arith in
    rw (← rest, faulty_later b c.args.alphabet (i + 1) (c.args.count - (i + 1)) _ refused, p.1, p.2) refl

pub overflow_add-at : goal.overflow_add-at
overflow_add-at c = omega (arith, bounds (goal.at.overflow_add-at c).In-loop, c.width_of-at.ensures, width_item c.from.result)

pub overflow_add-depth : goal.overflow_add-depth
overflow_add-depth c = omega (arith, bounds (goal.at.overflow_add-depth c).In-loop)

pub overflow_sub-depth : goal.overflow_sub-depth
overflow_sub-depth c =
    let item = (goal.at.overflow_sub-depth c).In_ok-item in
    omega (arith, c.arity.ensures, ap arity c.in_ok-item.ensures.item, c.loop.invariant.1, enough c.args.rest.now c.args.alphabet (spot (goal.at.overflow_sub-depth c).In-loop) (fine item))

pub push-requires : goal.push-requires
push-requires c = (omega arith, omega (arith, bounds (goal.at.push-requires c).In-loop))

pub loop-preserved : goal.loop-preserved
loop-preserved c =
    let b = c.args.rest.now in
    let s = spot (goal.at.loop-preserved c).In-loop in
    let none_found = fine (goal.at.loop-preserved c).In_ok-item in
    let item = c.in_ok-item.ensures.item in
    let wide = c.width_of-at.ensures ∙ ap width (c.from.ensures ∙ c.kind_of-kind.ensures) ∙ ap (λ (i : Item). width (kind_of i)) item ∙ ap width (kind_found b c.args.alphabet s none_found) in
    let more = c.push.ensures.items ∙ ap (λ (i : Item). c.loop.items.items ++ (i ∷ [])) item in (
      read_next b c.args.alphabet c.loop.counter s c.loop.invariant.0 (sym none_found) ∙ sym (λ i. up_to (record { at = c.loop.at + wide i; items = more i })),
      rw more (omega (arith, depth_past b c.args.alphabet s none_found, c.arity.ensures, ap arity item, c.loop.invariant.1)),
    )
