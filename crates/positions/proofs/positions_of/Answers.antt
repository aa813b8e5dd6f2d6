-- The items in turn: what each makes is laid into the draft.
use mathlib.Core.Path.{◌≡◌, refl, ap, ◌∙◌, subst}
use mathlib.Core.List.{List}
use Prim.Native.Nat.{ℕ, ◌+◌, ◌-◌, ◌<◌}
use native.Mathlib.Omega.{arith}
use lib.ListN.{length, get_or}
use Rattle.rows.specs.Rows.{row}
use Rattle.expressions.specs.declared.Item.{Item}
use Rattle.expressions.specs.declared.Item.TheVariants.{Empty as empty}
use Rattle.expressions.specs.Items.{arity}
use Rattle.positions.specs.Making.{made}
use Rattle.positions.proofs.Items.{Draft, operand}
use Rattle.positions.proofs.Whole.{Passed, none_passed, finds, one_passed, all_passed}
use Rattle.positions.proofs.positions_of.Given.{Over}
use Rattle.positions.proofs.positions_of.Goals as goal
use Rattle.positions.proofs.positions_of.Goals.{After-arity}

pub loop-i-init : goal.loop-i-init
unfolding row
loop-i-init g c = none_passed (g.L.ItemList.list c.args.items.now) _ refl

module _ (g : Over) (c : After-arity g) where
  -- the items
  abbrev l : List Item
  l = g.L.ItemList.list c.args.items.now

  -- the draft before a turn
  abbrev draft : Draft
  draft =
      let loop = c.loop-i in
      record { operands = loop.operands; depth = loop.depth; count = loop.count; after = loop.after; holding = loop.holding }

  within : c.loop-i.i < length l
  within = omega (arith, c.loop-i-test.true, c.count-i-end.ensures)

  takes : c.arity.result ≡ arity (get_or l c.loop-i.i empty)
  takes = c.arity.ensures ∙ ap arity c.item-item.ensures

pub overflow_sub-base : goal.overflow_sub-base
overflow_sub-base g c =
    let a = (goal.at.overflow_sub-base g c).After-arity in
    rw (takes g a) (finds (l g a) c.loop-i.i (draft g a) c.requires (within g a) c.loop-i.invariant)

pub loop-i-preserved : goal.loop-i-preserved
loop-i-preserved g c =
    let a = (goal.at.loop-i-preserved g c).After-arity in
    let d = draft g a in
    let n = d.depth - c.arity.result in
    let made_of = c.take_item-made.ensures ∙ ap (λ (x : Item). made x c.with_state-at.result (operand d n) (operand d (n + 1))) c.item-item.ensures in
    rw (c.gain.ensures, c.gain-in-loop-i.ensures)
    (one_passed (l g a) c.loop-i.i d c.requires (within g a) c.loop-i.invariant n _ _ (ap (λ (k : ℕ). d.depth - k) (takes g a)) c.with_state-at.ensures made_of)

pub returns : goal.returns
returns g c =
    let l = g.L.ItemList.list c.args.items.now in
    let loop = c.loop-i in
    let d : Draft = record { operands = loop.operands; depth = loop.depth; count = loop.count; after = loop.after; holding = loop.holding } in
    let all : loop.i ≡ length l = omega (arith, c.count-i-end.ensures, loop.auto.i-end, c.loop-i-test.false) in
    all_passed l d c.only.result c.requires (subst (λ (i : ℕ). Passed l i d) all loop.invariant) c.only.ensures
