use Rattle.std.proofs.Common.{◌≡◌, ℕ, bit_and}
use mathlib.Core.Path.{sym, ap, ◌∙◌}
use native.Mathlib.Omega.{arith}
use Rattle.masks.specs.declared.Each.{Each}
use Rattle.masks.proofs.Members.{in_below, in_xor_single}
use Rattle.rows.specs.Rows.{place}
use Rattle.numbering.specs.Numbering.{index}
use Rattle.automaton.specs.Automaton.{machine}
use Rattle.automaton.specs.Search.{FirstAt}
use Rattle.automaton.proofs.Growth.{first_index, first_within}
use Rattle.transitions.proofs.Entries.{fills_none, fills_more, fills_all}
use Rattle.transitions.proofs.fill_row.Goals.{then-next-t, else-next-t}
use Rattle.transitions.proofs.fill_row.Goals as goal

pub loop-e-init : goal.loop-e-init
loop-e-init c =
    let a = c.args in
    let left : c.into_iter-e-iterator.result.left ≡ a.alphabet =
    ap (λ (x : Each). x.left) c.into_iter-e-iterator.ensures.into_iter_gives ∙ c.members_of-e-items.ensures ∙ c.from.ensures in
    rw left (c.requires.3, λ s i. in_below 32 a.alphabet s c.ranges.alphabet.fits i, λ r m. rw c.requires.4 (fills_none r a.alphabet a.sets.now a.k c.requires.1))

pub overflow_cast-row : goal.overflow_cast-row
overflow_cast-row c =
    let sets = c.args.sets.now in
    let number : FirstAt sets c.if-next-t.t c.if-next-t.number =
    elim c.if-next-t.branch [
      | then-next-t w ↦ rw (w.t-is, w.number-is) w.find_near-number.ensures
      | else-next-t w ↦ rw (w.t-is, w.number-is) c.loop-e.invariant.0
    ] in
    omega (arith, c.unwrap_or.ensures, first_within c.if-next-t.t sets c.if-next-t.number number, c.requires.0)

pub loop-e-preserved : goal.loop-e-preserved
loop-e-preserved c =
    let a = c.args in
    let sets = a.sets.now in
    let loop = c.loop-e in
    let next = c.in-Some.ensures.steps in
    let e = c.in-Some.e in
    let t = c.if-next-t.t in
    let few = loop.invariant.1 e next.0 in
    let number : FirstAt sets t c.if-next-t.number =
    elim c.if-next-t.branch [
      | then-next-t w ↦ rw (w.t-is, w.number-is) w.find_near-number.ensures
      | else-next-t w ↦ rw (w.t-is, w.number-is) c.loop-e.invariant.0
    ] in
    let moves : t ≡ bit_and a.to (place a.holding.now e) =
    elim c.if-next-t.branch [ then-next-t w ↦ w.t-is | else-next-t w ↦ w.t-is ∙ sym w.if-next-t.false ] in
    rw next.3 (
      number,
      λ s i. loop.invariant.1 s (in_xor_single loop.e-iterator.left e s next.0 i).0,
      λ r m.
          fills_more r a.alphabet sets a.k loop.e-iterator.left e c.unwrap_or.result loop.row (loop.invariant.2 r m) next.0 few c.requires.1
          (c.unwrap_or.ensures ∙ first_index t sets r a.alphabet c.if-next-t.number number
          ∙ ap (λ (d : ℕ). index (machine r a.alphabet) d sets) (moves ∙ sym (m e few))),
    )

pub returns : goal.returns
returns c r m = fills_all r c.args.alphabet c.args.sets.now c.args.k c.loop-e.row (rw c.in-None.ensures.steps.0 at (c.loop-e.invariant.2 r m))
