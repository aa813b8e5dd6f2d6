-- A simple executable reading of the judge's promise, and that what it answers is what the promise asks for. Assumes nothing.
use mathlib.Core.Path.{◌≡◌, refl, sym, ap, subst, ◌∙◌}
use mathlib.Core.Bool.{Bool, true, false, ◌&&◌, cond, and-eq-true_iff}
use mathlib.Core.List.{List}
use mathlib.Core.Option
use mathlib.Core.Option.{Option, none, some, some-injective, none-ne-some, some-ne-none, map-eq-some_iff}
use Prim.Native.Nat.{ℕ, ◌≤◌}
use borrow.Author.Tests.{leb-true, ltb-false}
use lib.Dec.{leb}
use lib.ListN.{length}
use Rattle.std.specs.Prelude.{Err}
use Rattle.rows.specs.Rows.{padded}
use Rattle.sections.specs.Plan.{Plan}
use Rattle.sections.specs.Layout.{plan_of}
use Rattle.plan.specs.Checks.{refuse, or_else, first}
use Rattle.plan.specs.Legal.{Legal}
use Rattle.plan.proofs.Tests.{both_none}
use Rattle.plan.proofs.Legality.{legal}
use Rattle.expressions.specs.Expression.{Expression}
use Rattle.automaton.specs.Automaton.{states_of}
use Rattle.pattern.specs.Refusals.{readable, over_limit}
use Rattle.pattern.proofs.Part.{before_items}
use Rattle.graph.specs.Flow.{edge_rule}
use Rattle.family.proofs.Evaluate.{rounds, closed, evaluated}
use Rattle.refusals.specs.declared.Refusal.{Refusal}
use Rattle.verdict.specs.Verdict.{verified}
use Rattle.verdict.specs.Answer.{Answer, verdict}
use Rattle.verdict.specs.Row.{written}
use Rattle.promises.specs.Order.{Pattern, expression_by, text_refusal, many_states, short_row, judgeable, late_refusal}
use Rattle.promises.specs.Property.{listed, numbered, states, table, accepting}
use Rattle.promises.specs.Judged.{final_set, counts_of, Answered, Judged}
use Rattle.promises.proofs.Named.{named, number_named}
use Rattle.promises.proofs.Refusals.{in_order, turned_down}
use Rattle.promises.proofs.Row.{answered}

-- ---- the reading

-- an answer, and the row in the end
abbrev pub Outcome : Type 0
Outcome = Answer × List ℕ

-- the verdict on the sets M, and the row that holds them
abbrev verdict_on : Plan → Expression → (M before : List ℕ) → Outcome
verdict_on p r M before = (verdict (verified p.kind (final_set p M) (accepting p r)) (counts_of p r M), written p.nodes M before)

-- what k rounds of the flow rules give; none where they are too few
abbrev by_rounds : (k : ℕ) → Plan → Expression → (before : List ℕ) → Option Outcome
by_rounds k p r before =
    let sets = rounds p (table p r) edge_rule (states p r) k in
    cond (closed p (table p r) edge_rule (states p r) sets && leb (length sets) 256) (some (verdict_on p r (padded 256 sets) before)) none

abbrev outcome : (refused : Option ℕ) → (k : ℕ) → Plan → Expression → (before : List ℕ) → Option Outcome
outcome (some n) k p r before = Option.map (λ (r : Refusal). (Err r, before)) (named n)
outcome none k p r before = by_rounds k p r before

abbrev pub evaluate : Pattern → (k : ℕ) → (b before : List ℕ) → Option Outcome
evaluate q k b before = outcome (first (judgeable q (length before)) b) k (plan_of b) (expression_by q b) before

-- ---- where no refusal applies

-- a test without a refusal does not hold
not_refused : (n : ℕ) (t : Bool) → cond t (some n) none ≡ none → t ≡ false
not_refused n true e = absurd (some-ne-none n e)
not_refused n false e = refl

pub within_limit : (o : Option (List ℕ)) → over_limit o ≡ false → o ≡ some (listed o)
within_limit none e = cc
within_limit (some es) e = refl

module _ (q : Pattern) (b : List ℕ) (places : ℕ) (passed : first (judgeable q places) b ≡ none) where
  past_15 : (first readable b ≡ none) × (or_else (text_refusal q b) (late_refusal (plan_of b) (expression_by q b) places) ≡ none)
  past_15 = both_none (first readable b) _ (sym (in_order q places b) ∙ passed)

  past_20 : late_refusal (plan_of b) (expression_by q b) places ≡ none
  past_20 = (both_none (text_refusal q b) _ past_15.1).1

  past_17 : (many_states q b ≡ false) × (short_row places b ≡ false)
  past_17 =
      let late = both_none (refuse 16 (many_states q) b) (refuse 17 (short_row places) b) past_20 in
      (not_refused 16 (many_states q b) late.0, not_refused 17 (short_row places b) late.1)

  long_row : (plan_of b).nodes ≤ places
  long_row = ltb-false places (plan_of b).nodes past_17.1

  pub few_states : states_of (expression_by q b) (plan_of b).alphabet ≡ some (numbered (plan_of b) (expression_by q b))
  few_states = within_limit (states_of (expression_by q b) (plan_of b).alphabet) past_17.0

  pub legal_plan : Legal (plan_of b)
  legal_plan = legal b (before_items b past_15.0)

-- ---- what the reading answers is what the promise asks for

-- an option that a test lets through
let_through : {A : Type 0} (t : Bool) (x y : A) → cond t (some x) none ≡ some y → (t ≡ true) × (x ≡ y)
let_through true x y e = (refl, some-injective x y e)
let_through false x y e = absurd (none-ne-some y e)

module _ (q : Pattern) (k : ℕ) (b before : List ℕ) where
  meets : (o : Option ℕ) → first (judgeable q (length before)) b ≡ o → (x : Outcome) → outcome o k (plan_of b) (expression_by q b) before ≡ some x
      → Answered o (plan_of b) (expression_by q b) before x.0 x.1
  meets (some n) h x e =
      let made = (map-eq-some_iff (λ (r : Refusal). (Err r, before)) (named n)).0 e in
      subst (λ (y : Outcome). Answered (some n) (plan_of b) (expression_by q b) before y.0 y.1) made.2
      (turned_down (some n) (plan_of b) (expression_by q b) before before made.0 (ap some (sym (number_named n made.0 made.1))) refl)
  meets none h x e =
      let p = plan_of b in
      let r = expression_by q b in
      let sets = rounds p (table p r) edge_rule (states p r) k in
      let through = let_through _ _ x e in
      let tests = (and-eq-true_iff (closed p (table p r) edge_rule (states p r) sets) (leb (length sets) 256)).0 through.0 in
      subst (λ (y : Outcome). Answered none p r before y.0 y.1) through.1
      (answered p r (few_states q b (length before) h) (legal_plan q b (length before) h) (padded 256 sets)
      (evaluated p (table p r) edge_rule (states p r) k sets refl tests.0 (leb-true (length sets) 256 tests.1)) before (long_row q b (length before) h))

  pub evaluate_judged : (a : Answer) (after : List ℕ) → evaluate q k b before ≡ some (a, after) → Judged q b before a after
  evaluate_judged a after e = meets (first (judgeable q (length before)) b) refl (a, after) e
