-- "A judge handed a text uses its items in place of the plan's own": with a text whose items are the plan's own, its outcome is that of
-- the judge without a text. Assumes nothing.
use mathlib.Core.Path.{◌≡◌, sym, ap, ◌∙◌}
use mathlib.Core.List.{List}
use mathlib.Core.Option.{none, some}
use Prim.Native.Nat.{ℕ}
use lib.ListN.{length}
use Rattle.sections.specs.Layout.{plan_of}
use Rattle.plan.specs.Checks.{first, or_else}
use Rattle.expressions.specs.Items.{pattern_of}
use Rattle.grammar.specs.Grammar.{Tree, choice, Reads}
use Rattle.grammar.specs.Meaning.{items_of, text_refusals}
use Rattle.grammar.proofs.Items.{items_build}
use Rattle.pattern.specs.Refusals.{items_of_plan, readable}
use Rattle.verdict.specs.Answer.{Answer}
use Rattle.promises.specs.Order.{Pattern, own, typed, expression_by, text_refusal, judgeable, late_refusal}
use Rattle.promises.specs.Judged.{Answered, Judged, JudgedText}
use Rattle.promises.proofs.Refusals.{in_order}
use Rattle.promises.proofs.Unique.{judged_unique}
use Rattle.promises.proofs.TextUnique.{by_reading}

-- patterns that are refused alike and have one expression promise the same
module _ (q s : Pattern) (b : List ℕ) (refused : text_refusal q b ≡ text_refusal s b) (expression : expression_by q b ≡ expression_by s b) where
  same_refusal : (places : ℕ) → first (judgeable q places) b ≡ first (judgeable s places) b
  same_refusal places =
      in_order q places b ∙ (λ i. or_else (first readable b) (or_else (refused i) (late_refusal (plan_of b) (expression i) places)))
      ∙ sym (in_order s places b)

  pub same_promise : (before : List ℕ) (x : Answer) (u : List ℕ) → Judged q b before x u → Judged s b before x u
  same_promise before x u j = coe 0 1 (i. Answered (same_refusal (length before) i) (plan_of b) (expression i) before x u) j

pub same_items : (b w before : List ℕ) (t : Tree) → Reads choice w t → first (text_refusals w (some t)) (plan_of b).alphabet ≡ none
    → items_of (plan_of b).alphabet t ≡ items_of_plan b
    → (x y : Answer) (u v : List ℕ) → JudgedText b w before x u → Judged own b before y v → (x ≡ y) × (u ≡ v)
same_items b w before t d fine e x y u v j k =
    let one = sym (items_build (plan_of b).alphabet t) ∙ ap pattern_of e in
    judged_unique own b before x y u v (same_promise (typed w (some t)) own b fine one before x u (by_reading b w before x u (some t) d j)) k
