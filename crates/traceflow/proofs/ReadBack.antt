-- What was judged is read back whole: the plan of the verdict, and the automaton of its promise. Assumes nothing.
use mathlib.Core.Path.{◌≡◌, refl, sym, ap, ◌∙◌}
use mathlib.Core.Bool.{Bool, true, false, cond}
use mathlib.Core.List.{List, [], ◌∷◌}
use mathlib.Core.Option.{Option, none, some, some-ne-none}
use Prim.Native.Nat.{ℕ}
use lib.Dec.{ltb}
use Rattle.rows.specs.Rows.{row, place}
use Rattle.sections.specs.Layout.{plan_of}
use Rattle.plan.specs.Checks.{first, or_else}
use Rattle.plan.proofs.Tests.{both_none}
use Rattle.plan.proofs.Legality.{legal}
use Rattle.automaton.specs.Automaton.{states_of}
use Rattle.pattern.specs.Refusals.{items_of_plan, expression_of, readable, too_many_states, acceptable}
use Rattle.pattern.proofs.Part.{before_items, decided_by_states}
use Rattle.promises.specs.Order.{own, judgeable, late_refusal}
use Rattle.promises.specs.Property.{numbered, states, table, accepting}
use Rattle.promises.proofs.Refusals.{in_order}
use Rattle.promises.proofs.Evaluate.{within_limit}
use Rattle.readback.specs.Tables.{Tables, tables_of, tables_in}
use Rattle.readback.specs.Property.{Property, property, property_with, property_in}
use Rattle.readback.proofs.Told.{tables_told, property_told}
use Rattle.readback.proofs.Back.{plan_told, plan_told_lem}

-- 16 and 17 did not apply: there are few enough states
few_of : (over short : Bool) → or_else (cond over (some 16) none) (cond short (some 17) none) ≡ none → over ≡ false
few_of true short e = absurd (some-ne-none 16 e)
few_of false short e = refl

module _ (places : ℕ) (b : List ℕ) (judged : first (judgeable own places) b ≡ none) where
  parts : (first readable b ≡ none) × (late_refusal (plan_of b) (expression_of b) places ≡ none)
  parts = both_none (first readable b) (late_refusal (plan_of b) (expression_of b) places) (sym (in_order own places b) ∙ judged)

  few : too_many_states b ≡ false
  few = few_of (too_many_states b) (ltb places (plan_of b).nodes) parts.1

  -- neither the tables nor the automaton of a plan that is judged are refused
  pub judged_readable : first readable b ≡ none
  judged_readable = parts.0

  pub judged_acceptable : first acceptable b ≡ none
  judged_acceptable = decided_by_states b judged_readable false few

  -- the tables are those of the plan of the verdict, and they tell it
  pub tables_judged : (before : Tables) → tables_in b before ≡ tables_of (plan_of b) (items_of_plan b)
  tables_judged before = tables_told b none judged_readable before

  pub plan_judged : (before : Tables) → plan_told (tables_in b before) ≡ plan_of b
  plan_judged before = ap plan_told (tables_judged before) ∙ plan_told_lem (plan_of b) (legal b (before_items b judged_readable)) (items_of_plan b)

  -- the automaton is the one by which the promise of the judge tells states, moves and verdict
  pub automaton_judged : (before : Property) → let p = plan_of b in let r = expression_of b in
      property_in b before ≡ property (states p r ∷ accepting p r ∷ []) (row 64 (place (numbered p r))) (table p r)
  automaton_judged before =
      property_told b none judged_readable before
      ∙ ap (λ (o : Option (List ℕ)). property_with (expression_of b) (plan_of b).alphabet o before) (within_limit (states_of (expression_of b) (plan_of b).alphabet) few)
