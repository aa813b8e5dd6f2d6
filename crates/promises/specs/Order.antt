-- The order of all refusals of a plan that is judged. Document 01, "When a plan is turned down"; document 02, orders 1 and 5.
use Rattle.std.specs.Prelude.{Bool, cond, List, [], ◌∷◌, ◌++◌, ℕ, ltb}
use Rattle.std.proofs.Math.Option.{Option, none, some}
use Rattle.sections.specs.Plan.{Plan}
use Rattle.sections.specs.Layout.{plan_of}
use Rattle.plan.specs.Checks.{Check, refuse, first, or_else}
use Rattle.expressions.specs.Expression.{Expression}
use Rattle.grammar.specs.Grammar.{Tree}
use Rattle.grammar.specs.Meaning.{text_refusals, typed_expression}
use Rattle.automaton.specs.Automaton.{states_of}
use Rattle.pattern.specs.Refusals.{expression_of, readable, over_limit}

-- the pattern by which a plan is judged: its own, or that of a text with its reading
pub data Pattern : Type 0 where
  own : Pattern
  typed : (text : List ℕ) → (reading : Option Tree) → Pattern

-- "A judge handed a text uses its items in place of the plan's own"; "Its language is what a verdict is about when a plan was typed."
abbrev pub expression_by : Pattern → List ℕ → Expression
expression_by own b = expression_of b
expression_by (typed w o) b = typed_expression (plan_of b).alphabet o

-- 18, 19 and 20 are asked of a text alone
abbrev pub text_refusal : Pattern → Check (List ℕ)
text_refusal own b = none
text_refusal (typed w o) b = first (text_refusals w o) (plan_of b).alphabet

-- 16. "The pattern's automaton has more than 64 states."; "16 is then about the text's automaton"
abbrev pub many_states : Pattern → List ℕ → Bool
many_states q b = over_limit (states_of (expression_by q b) (plan_of b).alphabet)

-- 17. "The lent row has fewer places than there are nodes."
abbrev pub short_row : (places : ℕ) → List ℕ → Bool
short_row places b = ltb places (plan_of b).nodes

-- "Checked in this order": 1 to 15 and 21, of the plan and its own items; 18 to 20, "all between 15 and 16"; 16; 17. Where none applies the
-- plan is judged
abbrev pub judgeable : Pattern → (places : ℕ) → List (Check (List ℕ))
judgeable q places = readable ++ (text_refusal q ∷ refuse 16 (many_states q) ∷ refuse 17 (short_row places) ∷ [])

-- the last two, of a plan and a pattern that were read
abbrev pub late_refusal : Plan → Expression → (places : ℕ) → Option ℕ
late_refusal p r places = or_else (cond (over_limit (states_of r p.alphabet)) (some 16) none) (cond (ltb places p.nodes) (some 17) none)
