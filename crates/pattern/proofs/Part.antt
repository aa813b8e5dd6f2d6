-- The pattern part, by which refusals apply: it is empty if and only if one of 1 to 16 or 21 does. Assumes nothing.
use mathlib.Core.Path.{◌≡◌, refl, sym, ap, ◌∙◌}
use mathlib.Core.Bool.{Bool, cond}
use mathlib.Core.List.{List, []}
use mathlib.Core.Logic.{◌↔◌}
use mathlib.Core.Option.{Option, none, some}
use Prim.Native.Nat.{ℕ}
use native.Mathlib.Omega.{arith}
use lib.ListN.{length}
use Rattle.sections.specs.Layout.{plan_of}
use Rattle.plan.specs.Checks.{refuse, first, or_else}
use Rattle.plan.specs.Refusals.{order}
use Rattle.plan.proofs.Tests.{both_none, first_last}
use Rattle.plan.proofs.Legality.{legal}
use Rattle.items.specs.Postfix.{Postfix}
use Rattle.items.proofs.Kept.{items_postfix, items_bytes}
use Rattle.pattern.specs.Refusals.{rest, items_of_plan, bad_items, readable, too_many_states, acceptable, part_under, pattern_part, start_under, part_start, PartOf}
use Rattle.pattern.proofs.Order.{readable_parts}

-- ---- where neither the plan nor its items have a refusal

module _ (b : List ℕ) (passed : first readable b ≡ none) where
  parts : (first order b ≡ none) × (bad_items b ≡ none)
  parts = both_none (first order b) (bad_items b) (sym (readable_parts b) ∙ passed)

  pub before_items : first order b ≡ none
  before_items = parts.0

  -- the items are an expression in postfix form, and they have bytes
  pub plan_postfix : Postfix (items_of_plan b)
  plan_postfix = items_postfix (rest b) (plan_of b).alphabet (plan_of b).items (legal b before_items).items parts.1

  rest_some : rest b ≡ [] → ⊥
  rest_some e =
      let l = items_bytes (rest b) (plan_of b).alphabet (plan_of b).items (legal b before_items).some_item parts.1 in
      omega (arith, ap length e)

-- ---- the part

acceptable_parts : (b : List ℕ) → first acceptable b ≡ or_else (first readable b) (cond (too_many_states b) (some 16) none)
acceptable_parts b = first_last readable (refuse 16 too_many_states) b

module _ (b : List ℕ) where
  -- by the first refusal: the part, and where it begins
  pub part_is : (o : Option ℕ) → first acceptable b ≡ o → pattern_part b ≡ part_under o b
  unfolding pattern_part
  part_is o e = ap (λ (x : Option ℕ). part_under x b) e

  pub start_is : (o : Option ℕ) → first acceptable b ≡ o → part_start b ≡ start_under o b
  unfolding part_start
  start_is o e = ap (λ (x : Option ℕ). start_under x b) e

  pub refused_early : (n : ℕ) → first readable b ≡ some n → first acceptable b ≡ some n
  refused_early n e = acceptable_parts b ∙ ap (λ (o : Option ℕ). or_else o (cond (too_many_states b) (some 16) none)) e

  pub decided_by_states : first readable b ≡ none → (t : Bool) → too_many_states b ≡ t → first acceptable b ≡ cond t (some 16) none
  decided_by_states passed t e =
      acceptable_parts b ∙ ap (λ (o : Option ℕ). or_else o (cond (too_many_states b) (some 16) none)) passed ∙ ap (λ (x : Bool). cond x (some 16) none) e

-- "The part is empty if and only if one of 1 to 16 applies."; order 5: on 21 "the pattern part is empty then too"
pub part_empty : (b : List ℕ) → (pattern_part b ≡ []) ↔ ((n : ℕ) × (first acceptable b ≡ some n))
part_empty b = (
  (λ e. go (first acceptable b) refl e),
  (λ h. part_is b (some h.0) h.1),
)
  where
    go : (o : Option ℕ) → first acceptable b ≡ o → pattern_part b ≡ [] → (n : ℕ) × (first acceptable b ≡ some n)
    go (some n) h e = (n, h)
    go none h e = absurd (rest_some b (both_none (first readable b) (cond (too_many_states b) (some 16) none) (sym (acceptable_parts b) ∙ h)).0 (sym (part_is b none h) ∙ e))

-- nothing is left open: two parts of one plan are the same bytes at the same place
pub one_part : (b x y : List ℕ) (from p q : ℕ × ℕ) → PartOf b from x p → PartOf b from y q → (x ≡ y) × (p ≡ q)
one_part b x y from p q s t = (
  s.bytes ∙ sym t.bytes,
  λ i. ((s.block ∙ sym t.block) i, (s.offset ∙ sym t.offset) i),
)
