-- What is told of the bytes of a plan, by the first refusal. Assumes nothing.
use mathlib.Core.Path.{◌≡◌, refl, sym, ap, ◌∙◌}
use mathlib.Core.Bool.{true, false}
use mathlib.Core.List.{List}
use mathlib.Core.Option.{Option, none, some}
use Prim.Native.Nat.{ℕ}
use Rattle.plan.specs.Checks.{first}
use Rattle.sections.specs.Layout.{plan_of}
use Rattle.automaton.specs.Automaton.{states_of}
use Rattle.pattern.specs.Refusals.{expression_of, readable, over_limit, acceptable}
use Rattle.pattern.proofs.Part.{decided_by_states}
use Rattle.readback.specs.Tables.{Tables, tables_under, tables_in}
use Rattle.readback.specs.Property.{Property, limit_of, limit, property_past, property_in}

module _ (b : List ℕ) (o : Option ℕ) (e : first readable b ≡ o) where
  pub tables_told : (before : Tables) → tables_in b before ≡ tables_under o b before
  unfolding tables_in
  tables_told before = ap (λ (x : Option ℕ). tables_under x b before) e

  pub property_told : (before : Property) → property_in b before ≡ property_past o b before
  unfolding property_in
  property_told before = ap (λ (x : Option ℕ). property_past x b before) e

-- where nothing before it applies, 16 is told by the number of states
pub by_limit : (b : List ℕ) → first readable b ≡ none → limit (expression_of b) (plan_of b).alphabet ≡ first acceptable b
by_limit b passed = go (states_of (expression_of b) (plan_of b).alphabet) refl
  where
    go : (o : Option (List ℕ)) → states_of (expression_of b) (plan_of b).alphabet ≡ o
        → limit (expression_of b) (plan_of b).alphabet ≡ first acceptable b
    go none e = ap limit_of e ∙ sym (decided_by_states b passed true (ap over_limit e))
    go (some es) e = ap limit_of e ∙ sym (decided_by_states b passed false (ap over_limit e))
