-- The order of refusals: those of the reader come first, then those of a text, then 16, then 17. Assumes nothing.
use mathlib.Core.Path.{◌≡◌, refl, sym, ap, subst, ◌∙◌}
use mathlib.Core.Bool.{Bool, true, false, cond}
use mathlib.Core.List.{List, [], ◌∷◌}
use mathlib.Core.Option.{Option, none, some, none-ne-some}
use Prim.Native.Nat.{ℕ, ◌<◌, ◌≤◌}
use borrow.Author.Tests.{lt-ltb, le-ltb}
use lib.Dec.{ltb}
use lib.ListN.{length}
use Rattle.std.specs.Prelude.{Err}
use Rattle.sections.specs.Layout.{plan_of}
use Rattle.sections.specs.Plan.{Plan}
use Rattle.plan.specs.Checks.{refuse, first, or_else}
use Rattle.plan.proofs.Tests.{first_append, first_last}
use Rattle.expressions.specs.Expression.{Expression}
use Rattle.automaton.specs.Automaton.{states_of}
use Rattle.pattern.specs.Refusals.{readable, over_limit}
use Rattle.refusals.specs.declared.Refusal.{Refusal}
use Rattle.refusals.specs.Numbers.{number}
use Rattle.verdict.specs.Answer.{Answer}
use Rattle.promises.specs.Order.{Pattern, expression_by, text_refusal, many_states, short_row, judgeable, late_refusal}
use Rattle.promises.specs.Judged.{Answered, Judged}

-- ---- the checks in their order

module _ (q : Pattern) (places : ℕ) (b : List ℕ) where
  pub in_order : first (judgeable q places) b ≡ or_else (first readable b) (or_else (text_refusal q b) (late_refusal (plan_of b) (expression_by q b) places))
  unfolding first
  in_order =
      first_append readable (text_refusal q ∷ refuse 16 (many_states q) ∷ refuse 17 (short_row places) ∷ []) b
      ∙ ap (λ (x : Option ℕ). or_else (first readable b) (or_else (text_refusal q b) (or_else (refuse 16 (many_states q) b) x))) (first_last [] (refuse 17 (short_row places)) b)

  after : (o t : Option ℕ) → first readable b ≡ o → text_refusal q b ≡ t
      → first (judgeable q places) b ≡ or_else o (or_else t (late_refusal (plan_of b) (expression_by q b) places))
  after o t e h = in_order ∙ (λ i. or_else (e i) (or_else (h i) (late_refusal (plan_of b) (expression_by q b) places)))

  pub refused_early : (n : ℕ) → first readable b ≡ some n → first (judgeable q places) b ≡ some n
  refused_early n e = after (some n) (text_refusal q b) e refl

  module _ (read : first readable b ≡ none) where
    pub refused_text : (n : ℕ) → text_refusal q b ≡ some n → first (judgeable q places) b ≡ some n
    refused_text n e = after none (some n) read e

    refused_late : text_refusal q b ≡ none → first (judgeable q places) b ≡ late_refusal (plan_of b) (expression_by q b) places
    refused_late e = after none none read e

-- ---- 16, 17, or none of them

module _ (p : Plan) (r : Expression) (places : ℕ) where
  pub over_limit_lem : over_limit (states_of r p.alphabet) ≡ true → late_refusal p r places ≡ some 16
  over_limit_lem e = ap (λ (t : Bool). or_else (cond t (some 16) none) (cond (ltb places p.nodes) (some 17) none)) e

  module _ (fits : over_limit (states_of r p.alphabet) ≡ false) where
    left : (t : Bool) → ltb places p.nodes ≡ t → late_refusal p r places ≡ cond t (some 17) none
    left t e = λ i. or_else (cond (fits i) (some 16) none) (cond (e i) (some 17) none)

    pub short_row_lem : places < p.nodes → late_refusal p r places ≡ some 17
    short_row_lem l = left true (lt-ltb places p.nodes l)

    pub no_refusal : p.nodes ≤ places → late_refusal p r places ≡ none
    no_refusal l = left false (le-ltb places p.nodes l)

-- ---- a refusal, and the row as it was

pub turned_down : (refused : Option ℕ) (p : Plan) (r : Expression) (before after : List ℕ) (x : Refusal) → refused ≡ some (number x)
    → after ≡ before → Answered refused p r before (Err x) after
turned_down refused p r before after x e same = record { refusal = sym e; unchanged = λ m h. same; judged = λ v c h. absurd (none-ne-some _ h) }

-- one of 1 to 15
pub judged_early : (q : Pattern) (b before : List ℕ) (x : Refusal) → first readable b ≡ some (number x) → Judged q b before (Err x) before
judged_early q b before x e =
    turned_down _ (plan_of b) (expression_by q b) before before x (refused_early q (length before) b (number x) e) refl

-- ---- what is left of the answer, where none of 1 to 15 applies, and none of 18 to 20

pub judged_late : (q : Pattern) (b before : List ℕ) → first readable b ≡ none → text_refusal q b ≡ none → (r : Expression) → r ≡ expression_by q b
    → (answer : Answer) (after : List ℕ) → Answered (late_refusal (plan_of b) r (length before)) (plan_of b) r before answer after
    → Judged q b before answer after
judged_late q b before read typed r e answer after h =
    let late = subst (λ (x : Expression). Answered (late_refusal (plan_of b) x (length before)) (plan_of b) x before answer after) e h in
    subst (λ (o : Option ℕ). Answered o (plan_of b) (expression_by q b) before answer after) (sym (refused_late q (length before) b read typed)) late
