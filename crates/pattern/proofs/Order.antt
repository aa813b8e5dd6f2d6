-- The answer of the reader, by which refusals apply. Assumes nothing.
use mathlib.Core.Path.{◌≡◌, ap, ◌∙◌}
use mathlib.Core.List.{List}
use mathlib.Core.Option.{Option, none, some}
use Prim.Native.Nat.{ℕ, ◌≤◌}
use lib.ListN.{length}
use Rattle.sections.specs.Layout.{head_of, pattern_at}
use Rattle.plan.specs.Checks.{first, or_else}
use Rattle.plan.specs.Refusals.{order}
use Rattle.plan.proofs.Tests.{first_last}
use Rattle.plan.proofs.Ends.{order_none}
use Rattle.plan.proofs.Ranges.{framed}
use Rattle.pattern.specs.Refusals.{bad_items, readable}

-- ---- the checks in their order

pub readable_parts : (b : List ℕ) → first readable b ≡ or_else (first order b) (bad_items b)
readable_parts b = first_last order bad_items b

module _ (b : List ℕ) where
  pub order_first : (n : ℕ) → first order b ≡ some n → first readable b ≡ some n
  order_first n e = readable_parts b ∙ ap (λ (o : Option ℕ). or_else o (bad_items b)) e

  module _ (passed : first order b ≡ none) where
    -- where the plan has no refusal, that of its items is the first
    pub items_next : first readable b ≡ bad_items b
    items_next = readable_parts b ∙ ap (λ (o : Option ℕ). or_else o (bad_items b)) passed

    pub pattern_there : pattern_at (head_of b) ≤ length b
    pattern_there = (framed b (order_none b passed).0).sections
