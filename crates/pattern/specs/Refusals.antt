-- The pattern of a plan, and the refusals 10 to 16 behind those before it. Document 01, "When a plan is turned down".
use Rattle.std.specs.Prelude.{◌≡◌, Bool, true, false, List, [], ◌∷◌, ◌++◌, ℕ, ◌+◌, drop}
use Rattle.std.proofs.Math.Option.{Option, none, some}
use Rattle.sections.specs.Layout.{head_of, pattern_at, plan_of}
use Rattle.plan.specs.Checks.{Check, refuse, first}
use Rattle.plan.specs.Refusals.{order}
use Rattle.expressions.specs.Expression.{Expression}
use Rattle.expressions.specs.declared.Item.{Item}
use Rattle.expressions.specs.Items.{pattern_of}
use Rattle.items.specs.Refusals.{items_in, items_refusal}
use Rattle.automaton.specs.Automaton.{states_of}

-- "The pattern starts on the next byte, and the reader of items receives the plan from that byte on."
abbrev pub rest : List ℕ → List ℕ
rest b = drop (pattern_at (head_of b)) b

-- the items of a plan's pattern, and the expression that they are
abbrev pub items_of_plan : List ℕ → List Item
items_of_plan b = items_in (rest b) (plan_of b).alphabet (plan_of b).items

abbrev pub expression_of : List ℕ → Expression
expression_of b = pattern_of (items_of_plan b)

-- 10 to 15: "10 to 13 item by item, the first faulty item deciding", then 14, then 15
abbrev pub bad_items : Check (List ℕ)
bad_items b = items_refusal (rest b) (plan_of b).alphabet (plan_of b).items

-- "Checked in this order": all checks of the plan and of its items
abbrev pub readable : List (Check (List ℕ))
readable = order ++ (bad_items ∷ [])

-- 16. "The pattern's automaton has more than 64 states."
abbrev pub over_limit : Option (List ℕ) → Bool
over_limit none = true
over_limit (some es) = false

abbrev pub too_many_states : List ℕ → Bool
too_many_states b = over_limit (states_of (expression_of b) (plan_of b).alphabet)

-- the checks of a plan on its own, 1 to 16, and 21
abbrev pub acceptable : List (Check (List ℕ))
acceptable = readable ++ (refuse 16 too_many_states ∷ [])

-- ---- the pattern part

abbrev pub part_under : Option ℕ → List ℕ → List ℕ
part_under none b = rest b
part_under (some n) b = []

-- "The pattern's bytes of an accepted plan come back as that very part of the plan. The part is empty if and only if one
-- of 1 to 16 applies."; order 5: 21 is one of the checks before the pattern, and "the pattern part is empty then too"
unfoldable pub pattern_part : List ℕ → List ℕ
pattern_part b = part_under (first acceptable b) b

-- the byte of the plan where the part begins: that of the pattern, the first one where the part is empty
abbrev pub start_under : Option ℕ → List ℕ → ℕ
start_under none b = pattern_at (head_of b)
start_under (some n) b = 0

unfoldable pub part_start : List ℕ → ℕ
part_start b = start_under (first acceptable b) b

-- what comes back of the bytes b of a plan: `from` is where the plan begins in memory, a block and an offset in it, and `at` where
-- the part does. "that very part of the plan": not equal bytes that stand elsewhere
pub record PartOf (b : List ℕ) (from : ℕ × ℕ) (part : List ℕ) (at : ℕ × ℕ) : Type 0 where
  pub bytes : part ≡ pattern_part b
  pub block : at.0 ≡ from.0
  pub offset : at.1 ≡ from.1 + part_start b
