-- What the answer of the text's reader tells where it has no refusal: an expression in postfix form, that of the text. Assumes nothing.
use mathlib.Core.Path.{◌≡◌, sym, ap, subst, ◌∙◌}
use mathlib.Core.Bool.{true≢false}
use mathlib.Core.List.{List}
use mathlib.Core.Option.{Option, none, some}
use Prim.Native.Nat.{ℕ}
use borrow.Author.Tests.{ltb-false}
use Rattle.std.specs.Prelude.{Ok}
use Rattle.arrayvec.specs.ArrayVec.{ArrayVec}
use Rattle.plan.specs.Checks.{first}
use Rattle.plan.proofs.Tests.{first_none}
use Rattle.expressions.specs.declared.Item.{Item}
use Rattle.expressions.specs.Items.{pattern_of}
use Rattle.items.specs.Postfix.{Postfix}
use Rattle.grammar.specs.Grammar.{Tree}
use Rattle.grammar.specs.Meaning.{unreadable, many_items, text_refusals, typed_items, typed_expression}
use Rattle.grammar.proofs.Items.{items_build}
use Rattle.text.specs.Typed.{Typed}
use Rattle.typed.proofs.Postfix.{typed_postfix}

-- a text without a refusal has a tree, and the tree few items
module _ (w : List ℕ) (a : ℕ) where
  list_postfix : (o : Option Tree) → first (text_refusals w o) a ≡ none → Postfix (typed_items a o)
  list_postfix none e = absurd (true≢false (first_none 18 (λ (x : ℕ). unreadable w none) _ a e).0)
  list_postfix (some t) e =
      let rest = (first_none 18 (λ (x : ℕ). unreadable w (some t)) _ a e).1 in
      typed_postfix a t (ltb-false 64 _ (first_none 19 (many_items (some t)) _ a rest).0)

  list_pattern : (o : Option Tree) → first (text_refusals w o) a ≡ none → pattern_of (typed_items a o) ≡ typed_expression a o
  list_pattern none e = absurd (true≢false (first_none 18 (λ (x : ℕ). unreadable w none) _ a e).0)
  list_pattern (some t) e = items_build a t

module _ {w : List ℕ} {a : ℕ} {l : ArrayVec Item} (told : Typed w a (Ok l)) where
  pub text_postfix : Postfix l.items
  text_postfix = subst Postfix (sym told.items) (list_postfix w a told.tree (sym told.refusal))

  pub text_pattern : pattern_of l.items ≡ typed_expression a told.tree
  text_pattern = ap pattern_of told.items ∙ list_pattern w a told.tree (sym told.refusal)
