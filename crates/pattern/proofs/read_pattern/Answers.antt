-- The plan, and its items from the pattern's byte on.
use mathlib.Core.Path.{◌≡◌, sym, ap, ◌∙◌}
use mathlib.Core.List.{List}
use mathlib.Core.Option.{none}
use Prim.Native.Nat.{ℕ, ◌-◌, ◌≤◌}
use native.Mathlib.Nat.{le_of_eq}
use native.Mathlib.Omega.{arith}
use lib.ListN.{length, take, drop, length-drop}
use lib.Seq.{take_all}
use borrow.Author.Rules.{rules}
use Rattle.std.proofs.lemmas.Result.{err_from_is_err_and}
use Rattle.plan.specs.Checks.{first}
use Rattle.plan.specs.Refusals.{order}
use Rattle.plan.proofs.Legality.{legal}
use Rattle.reader.specs.declared.Reading.{Reading}
use Rattle.items.specs.Refusals.{items_refusal}
use Rattle.pattern.specs.Refusals.{readable}
use Rattle.pattern.proofs.Order.{order_first, items_next, pattern_there}
use Rattle.pattern.proofs.read_pattern.Goals as goal
use Rattle.pattern.proofs.read_pattern.Goals.{In_ok-reading}

-- the plan has no refusal
passed : (c : In_ok-reading) → first order c.args.plan.now ≡ none
passed c = sym c.in_ok-reading.ensures.refusal

starts : (c : In_ok-reading) → c.in_ok-reading.reading.pattern ≤ length c.args.plan.now
starts c = omega (arith, pattern_there c.args.plan.now (passed c), ap (λ (r : Reading). r.pattern) c.in_ok-reading.ensures.plan)

-- the reader of items receives the plan from the pattern's byte on
received : (c : In_ok-reading) → let b = c.args.plan.now in let r = c.in_ok-reading.reading in
    items_refusal (take (length b - r.pattern) (drop r.pattern b)) r.plan.alphabet r.plan.items ≡ first readable b
received c =
    let b = c.args.plan.now in
    let r = c.in_ok-reading.reading in
    let part : take (length b - r.pattern) (drop r.pattern b) ≡ drop r.pattern b = take_all (length b - r.pattern) (drop r.pattern b) (le_of_eq (length-drop r.pattern b)) in
    ap (λ (l : List ℕ). items_refusal l r.plan.alphabet r.plan.items) part
    ∙ ap (λ (x : Reading). items_refusal (drop x.pattern b) x.plan.alphabet x.plan.items) c.in_ok-reading.ensures.plan
    ∙ sym (items_next b (passed c))

pub returns-in_err-reading-clause-refusal : goal.returns-in_err-reading-clause-refusal
returns-in_err-reading-clause-refusal c =
    let p = err_from_is_err_and c.from_residual.result c.from_residual.ensures.1 in
    rw (p.1, p.2) (sym (order_first c.args.plan.now _ (sym c.in_err-reading.ensures.refusal)))

pub slice_bounds-read_items-count : goal.slice_bounds-read_items-count
slice_bounds-read_items-count c = omega (arith, starts (goal.at.slice_bounds-read_items-count c).In_ok-reading)

pub slice_bounds-read_items-start : goal.slice_bounds-read_items-start
slice_bounds-read_items-start c = search (rules, starts (goal.at.slice_bounds-read_items-start c).In_ok-reading)

pub read_items-requires : goal.read_items-requires
read_items-requires c = rw (ap (λ (r : Reading). r.plan.items) c.in_ok-reading.ensures.plan) (legal c.args.plan.now (sym c.in_ok-reading.ensures.refusal)).items

pub returns-in_err-items-clause-refusal : goal.returns-in_err-items-clause-refusal
returns-in_err-items-clause-refusal c =
    let p = err_from_is_err_and c.from_residual-in_err-items.result c.from_residual-in_err-items.ensures.1 in
    rw (p.1, p.2) (c.in_err-items.ensures.refusal ∙ received (goal.at.returns-in_err-items-clause-refusal c).In_ok-reading)

pub returns-clause-refusal : goal.returns-clause-refusal
returns-clause-refusal c = c.in_ok-items.ensures.refusal ∙ received (goal.at.returns-clause-refusal c).In_ok-reading
