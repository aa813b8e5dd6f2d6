-- The postfix items of a tree: they build its expression, and each of them finds its operands.
use mathlib.Core.Path.{◌≡◌, refl, ◌∙◌, ap, subst}
use mathlib.Core.List.{List, [], ◌∷◌, ◌++◌, append-nil, append_assoc}
use Prim.Native.Nat.{ℕ, ◌≤◌}
use native.Mathlib.Omega.{arith}
use lib.ListN.{length}
use Rattle.expressions.specs.Expression.{Expression}
use Rattle.expressions.specs.declared.Item.{Item}
use Rattle.expressions.specs.declared.Item.TheVariants.{Sequence as sequence, Choice as choice, Repeat as repeat}
use Rattle.expressions.specs.Items.{arity, push, push_all, operands, newest, pattern_of}
use Rattle.grammar.specs.Grammar.{Tree, empty_string, one_of, noneOf, followed, either, starred}
use Rattle.grammar.specs.Meaning.{expression_of, items_of}

-- ---- the operands that they build

pub items_push : (a : ℕ) (t : Tree) (is : List Item) (st : List Expression)
    → push_all (items_of a t ++ is) st ≡ push_all is (expression_of a t ∷ st)
unfolding items_of push_all
items_push a empty_string is st = refl
items_push a (one_of es) is st = refl
items_push a (noneOf es) is st = refl
items_push a (followed s t) is st =
    simp append_assoc (items_push a s (items_of a t ++ (sequence ∷ is)) st ∙ items_push a t (sequence ∷ is) (expression_of a s ∷ st))
items_push a (either s t) is st =
    simp append_assoc (items_push a s (items_of a t ++ (choice ∷ is)) st ∙ items_push a t (choice ∷ is) (expression_of a s ∷ st))
items_push a (starred t) is st = simp append_assoc (items_push a t (repeat ∷ is) st)

pub items_operands : (a : ℕ) (t : Tree) → operands (items_of a t) ≡ expression_of a t ∷ []
unfolding push_all
items_operands a t = rw append-nil at (items_push a t [] [])

pub items_build : (a : ℕ) (t : Tree) → pattern_of (items_of a t) ≡ expression_of a t
items_build a t = ap newest (items_operands a t)

-- ---- enough operands at each item

-- each item finds its operands behind those of st
abbrev Fed : List Expression → List Item → Type 0
Fed st [] = Unit {0}
Fed st (i ∷ is) = (arity i ≤ length st) × Fed (push i st) is

items_fed : (a : ℕ) (t : Tree) (is : List Item) (st : List Expression) → Fed (expression_of a t ∷ st) is → Fed st (items_of a t ++ is)
unfolding items_of
items_fed a empty_string is st f = (omega arith, f)
items_fed a (one_of es) is st f = (omega arith, f)
items_fed a (noneOf es) is st f = (omega arith, f)
items_fed a (followed s t) is st f =
    simp append_assoc (items_fed a s (items_of a t ++ (sequence ∷ is)) st (items_fed a t (sequence ∷ is) (expression_of a s ∷ st) (omega arith, f)))
items_fed a (either s t) is st f =
    simp append_assoc (items_fed a s (items_of a t ++ (choice ∷ is)) st (items_fed a t (choice ∷ is) (expression_of a s ∷ st) (omega arith, f)))
items_fed a (starred t) is st f = simp append_assoc (items_fed a t (repeat ∷ is) st (omega arith, f))

fed_at : (st : List Expression) (us : List Item) (i : Item) (vs : List Item) → Fed st (us ++ (i ∷ vs)) → arity i ≤ length (push_all us st)
unfolding push_all
fed_at st [] i vs f = f.0
fed_at st (j ∷ us) i vs f = fed_at (push j st) us i vs f.1

pub items_enough : (a : ℕ) (t : Tree) (us : List Item) (i : Item) (vs : List Item)
    → items_of a t ≡ us ++ (i ∷ vs) → arity i ≤ length (operands us)
items_enough a t us i vs e = fed_at [] us i vs (subst (Fed []) (append-nil (items_of a t) ∙ e) (items_fed a t [] [] tt))
