-- The plan from the pattern's byte on where nothing is refused.
use mathlib.Core.Path.{◌≡◌, refl, sym, ap, subst, ◌∙◌}
use mathlib.Core.Bool.{true, false, not}
use mathlib.Core.Option.{none, some}
use Prim.Native.Nat.{◌-◌, ◌≤◌}
use native.Mathlib.Nat.{le_of_eq}
use native.Mathlib.Omega.{arith}
use borrow.Author.Tests.{not-true, not-false}
use borrow.Author.Rules.{rules}
use lib.ListN.{length, drop, length-drop}
use lib.Seq.{take_all}
use Rattle.plan.specs.Checks.{first}
use Rattle.expressions.specs.Items.{pattern_of}
use Rattle.items.specs.Postfix.{Postfix}
use Rattle.automaton.specs.Automaton.{states_of}
use Rattle.pattern.specs.declared.PatternRead.{PatternRead}
use Rattle.pattern.specs.Refusals.{readable, over_limit, too_many_states}
use Rattle.pattern.proofs.Order.{pattern_there}
use Rattle.pattern.proofs.Part.{before_items, plan_postfix, part_is, start_is, refused_early, decided_by_states}
use Rattle.pattern.proofs.pattern_part.Goals as goal
use Rattle.pattern.proofs.pattern_part.Goals.{In-Ok, After-few_states}

-- neither the plan nor its items have a refusal
passed : (c : In-Ok) → first readable c.args.plan.now ≡ none
passed c = sym c.in-Ok.ensures.refusal

starts : (c : In-Ok) → c.in-Ok.read.reading.pattern ≤ length c.args.plan.now
starts c = omega (arith, pattern_there c.args.plan.now (before_items c.args.plan.now (passed c)), ap (λ (r : PatternRead). r.reading.pattern) c.in-Ok.ensures.plan)

-- refusal 16 goes by the pattern of the plan
over : (c : After-few_states) → c.few_states.result ≡ not (too_many_states c.args.plan.now)
over c = c.few_states.ensures ∙ ap (λ (r : PatternRead). not (over_limit (states_of (pattern_of r.items.items) r.reading.plan.alphabet))) c.in-Ok.ensures.plan

pub returns-in_default : goal.returns-in_default
returns-in_default c =
    let b = c.args.plan.now in
    let e = refused_early b _ (sym c.in_default.ensures.refusal) in
    record { bytes = sym (part_is b (some _) e); block = refl; offset = omega (arith, start_is b (some _) e) }

pub few_states-requires : goal.few_states-requires
few_states-requires c = subst (λ (r : PatternRead). Postfix r.items.items) (sym c.in-Ok.ensures.plan) (plan_postfix c.args.plan.now (sym c.in-Ok.ensures.refusal))

pub slice_bounds-result-count-then-few_states : goal.slice_bounds-result-count-then-few_states
slice_bounds-result-count-then-few_states c = omega (arith, starts (goal.at.slice_bounds-result-count-then-few_states c).In-Ok)

pub slice_bounds-result-start-then-few_states : goal.slice_bounds-result-start-then-few_states
slice_bounds-result-start-then-few_states c = search (rules, starts (goal.at.slice_bounds-result-start-then-few_states c).In-Ok)

pub returns-then-few_states : goal.returns-then-few_states
returns-then-few_states c =
    let b = c.args.plan.now in
    let at = c.in-Ok.read.reading.pattern in
    let place = goal.at.returns-then-few_states c in
    let free = decided_by_states b (passed place.In-Ok) false (not-true _ (sym (over place.After-few_states) ∙ c.if-few_states.true)) in
    record {
      bytes = take_all (length b - at) (drop at b) (le_of_eq (length-drop at b)) ∙ ap (λ (r : PatternRead). drop r.reading.pattern b) c.in-Ok.ensures.plan ∙ sym (part_is b none free);
      block = refl;
      offset = omega (arith, ap (λ (r : PatternRead). r.reading.pattern) c.in-Ok.ensures.plan, start_is b none free);
    }

pub returns-else-few_states : goal.returns-else-few_states
returns-else-few_states c =
    let b = c.args.plan.now in
    let place = goal.at.returns-else-few_states c in
    let over16 = decided_by_states b (passed place.In-Ok) true (not-false _ (sym (over place.After-few_states) ∙ c.if-few_states.false)) in
    record { bytes = sym (part_is b (some 16) over16); block = refl; offset = omega (arith, start_is b (some 16) over16) }
