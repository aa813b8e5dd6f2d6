-- Refusals 14 and 15, where no item has one.
use mathlib.Core.Path.{◌≡◌, sym, ap, ◌∙◌}
use mathlib.Core.Bool.{not}
use Prim.Native.Nat.{◌≤◌}
use native.Mathlib.Omega.{arith}
use borrow.Author.Tests.{eq-eqb, ne_eqb}
use lib.Dec.{eqb}
use Rattle.std.proofs.lemmas.Result.{err_from_is_err_and}
use Rattle.items.specs.declared.Scan.{Scan}
use Rattle.items.specs.Refusals.{Spot, up_to, depth, not_one, read}
use Rattle.items.proofs.Progress.{near}
use Rattle.items.proofs.Answers.{scan_refused, scan_done, trails_bytes, trails_bits, trails_none, answer_faulty, answer_14, answer_15, answer_none}
use Rattle.items.proofs.read_items.Goals as goal
use Rattle.items.proofs.read_items.Goals.{In_ok-s}

-- where the items end, and what the scan says of it
found : (c : In_ok-s) → (s : Spot) × (read c.args.rest.now c.args.alphabet c.args.count ≡ up_to s) × (c.in_ok-s.s ≡ record { at = s.at; depth = depth s; items = record { items = s.items } })
found c = scan_done (read c.args.rest.now c.args.alphabet c.args.count) c.in_ok-s.s c.in_ok-s.ensures

-- where the code stands behind the items; refusal 15 asks no more of a spot
abbrev behind : In_ok-s → Spot
behind c = record { at = c.in_ok-s.s.at; items = (found c).0.items }

spotted : (c : In_ok-s) → read c.args.rest.now c.args.alphabet c.args.count ≡ up_to (behind c)
spotted c = (found c).1 ∙ sym (λ i. up_to (record { at = ((found c).2 i).at; items = (found c).0.items }))

few : (c : In_ok-s) → c.in_ok-s.s.at ≤ 2176
few c = omega (arith, near c.args.rest.now c.args.alphabet c.args.count (behind c) (spotted c), c.requires)

many : (c : In_ok-s) → not_one (behind c) ≡ not (eqb c.in_ok-s.s.depth 1)
many c = sym (ap (λ (t : Scan). not (eqb t.depth 1)) (found c).2)

pub returns-in_err-s-clause-refusal : goal.returns-in_err-s-clause-refusal
returns-in_err-s-clause-refusal c =
    let p = err_from_is_err_and c.from_residual.result c.from_residual.ensures.1 in
    rw (p.1, p.2) (sym (answer_faulty c.args.rest.now c.args.alphabet c.args.count _ (scan_refused (read c.args.rest.now c.args.alphabet c.args.count) _ c.in_err-s.ensures)))

pub returns-then-s-ne1-clause-refusal : goal.returns-then-s-ne1-clause-refusal
returns-then-s-ne1-clause-refusal c =
    let p = (goal.at.returns-then-s-ne1-clause-refusal c).In_ok-s in
    sym (answer_14 c.args.rest.now c.args.alphabet c.args.count (behind p) (spotted p) (many p ∙ ap not (ne_eqb _ _ c.if-s-ne1.true)))

pub overflow_add-bytes : goal.overflow_add-bytes
overflow_add-bytes c = omega (arith, few (goal.at.overflow_add-bytes c).In_ok-s)

pub returns-then-rest-bytes-clause-refusal : goal.returns-then-rest-bytes-clause-refusal
returns-then-rest-bytes-clause-refusal c =
    let p = (goal.at.returns-then-rest-bytes-clause-refusal c).In_ok-s in
    sym (answer_15 c.args.rest.now c.args.alphabet c.args.count (behind p) (spotted p) (many p ∙ ap not (eq-eqb _ _ c.if-s-ne1.false)) (trails_bytes c.args.rest.now (behind p) c.if-rest-bytes.true))

pub overflow_mul-bytes : goal.overflow_mul-bytes
overflow_mul-bytes c = omega (arith, few (goal.at.overflow_mul-bytes c).In_ok-s)

pub field-requires : goal.field-requires
field-requires c =
    let h = few (goal.at.field-requires c).In_ok-s in
    let l = c.if-rest-bytes.false in
    (omega arith, omega arith, omega arith)

pub returns-then-field-ne0-clause-refusal : goal.returns-then-field-ne0-clause-refusal
returns-then-field-ne0-clause-refusal c =
    let p = (goal.at.returns-then-field-ne0-clause-refusal c).In_ok-s in
    sym (answer_15 c.args.rest.now c.args.alphabet c.args.count (behind p) (spotted p) (many p ∙ ap not (eq-eqb _ _ c.if-s-ne1.false)) (trails_bits c.args.rest.now (behind p) c.if-rest-bytes.false _ c.field.ensures c.if-field-ne0.true))

pub returns-clause-refusal : goal.returns-clause-refusal
returns-clause-refusal c =
    let p = (goal.at.returns-clause-refusal c).In_ok-s in
    sym (answer_none c.args.rest.now c.args.alphabet c.args.count (behind p) (spotted p) (many p ∙ ap not (eq-eqb _ _ c.if-s-ne1.false)) (trails_none c.args.rest.now (behind p) c.if-rest-bytes.false _ c.field.ensures c.if-field-ne0.false))
