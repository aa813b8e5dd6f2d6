-- The automaton of a pattern in lent arrays. Document 01, "Pattern and automaton".
use Rattle.std.specs.Prelude.{List, [], ◌∷◌, ℕ, length}
use Rattle.std.proofs.Math.Option.{Option, none, some}
use Rattle.rows.specs.Rows.{row, place}
use Rattle.sections.specs.Layout.{plan_of}
use Rattle.plan.specs.Checks.{first}
use Rattle.expressions.specs.Expression.{Expression}
use Rattle.automaton.specs.Automaton.{states_of, table_of, accepting}
use Rattle.pattern.specs.Refusals.{expression_of, readable}

-- the lent arrays
pub record Property : Type 0 where
  -- how many states there are, and those that accept, as a set: state s has weight 2 ^ s
  pub values : List ℕ
  -- "A state is a set of positions": position p has weight 2 ^ p
  pub states : List ℕ
  -- "The moves stand in a table of 64 rows by 32 events."
  pub moves : List (List ℕ)

abbrev pub property : (values states : List ℕ) → (moves : List (List ℕ)) → Property
property values states moves = record { values = values; states = states; moves = moves }

-- what they hold of a pattern r with the states es
abbrev pub property_of : Expression → (alphabet : ℕ) → List ℕ → Property
property_of r alphabet es = record { values = length es ∷ accepting r es ∷ []; states = row 64 (place es); moves = table_of r alphabet es }

-- 16. "The pattern's automaton has more than 64 states.": then the arrays are as they were
abbrev pub property_with : Expression → (alphabet : ℕ) → Option (List ℕ) → Property → Property
property_with r alphabet none before = before
property_with r alphabet (some es) before = property_of r alphabet es

abbrev pub property_under : Expression → (alphabet : ℕ) → Property → Property
property_under r alphabet before = property_with r alphabet (states_of r alphabet) before

abbrev pub limit_of : Option (List ℕ) → Option ℕ
limit_of none = some 16
limit_of (some es) = none

abbrev pub limit : Expression → (alphabet : ℕ) → Option ℕ
limit r alphabet = limit_of (states_of r alphabet)

-- "A refusal returns its number and nothing else"
abbrev pub property_past : Option ℕ → List ℕ → Property → Property
property_past none b before = property_under (expression_of b) (plan_of b).alphabet before
property_past (some n) b before = before

-- the arrays behind a reading of the bytes b: 1 to 16 and 21 are asked
unfoldable pub property_in : List ℕ → Property → Property
property_in b before = property_past (first readable b) b before
