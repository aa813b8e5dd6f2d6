-- The order of places in which the readers keep items: one more place, and what stars do to it.
use mathlib.Core.Path.{◌≡◌, refl, sym, ap, ◌∙◌}
use mathlib.Core.Bool.{true, false}
use mathlib.Core.List.{List, [], ◌∷◌, ◌++◌, append_assoc}
use Prim.Native.Nat.{ℕ, ◌+◌}
use lib.ListN.{drop}
use Rattle.rows.proofs.Rows.{map_append}
use Rattle.expressions.specs.declared.Item.{Item}
use Rattle.expressions.specs.declared.Item.TheVariants.{Sequence as sequence, Choice as choice, Repeat as repeat}
use Rattle.grammar.specs.Grammar.{Tree, starred, semicolon, bar, asterisk}
use Rattle.grammar.specs.Meaning.{items_of}
use Rattle.grammar.specs.Ways.{up_to, starts_with, leaf, stars, Chain, choices, sequences, operator, joined, item_from, items_by}
use Rattle.grammar.proofs.Leaves.{leaf_item}
use Rattle.leaves.proofs.Bytes.{starts_cons}
use Rattle.readers.specs.Readers.{Continued}

-- one place more is one item more
items_more : (a : ℕ) (text order : List ℕ) (v : ℕ) → items_by a text (order ++ v ∷ []) ≡ items_by a text order ++ item_from a (drop v text) ∷ []
items_more a text order v = map_append (λ i. item_from a (drop i text)) order (v ∷ [])

-- ---- stars

pub star_more : (t : Tree) (l : List ℕ) (i : ℕ) → starts_with asterisk (drop i l) ≡ true → stars t (drop i l) ≡ stars (starred t) (drop (i + 1) l)
unfolding stars
star_more t l i e = ap (stars t) (starts_cons asterisk l i e)

pub stars_end : (t : Tree) (w : List ℕ) → starts_with asterisk w ≡ false → stars t w ≡ up_to t w
unfolding stars
stars_end t [] e = refl
stars_end t (c ∷ w) e = rw e refl

-- the item of a byte
star_item : (a : ℕ) (l : List ℕ) (i : ℕ) → starts_with asterisk (drop i l) ≡ true → item_from a (drop i l) ≡ repeat
star_item a l i e = ap (item_from a) (starts_cons asterisk l i e)

-- one star more
pub starred_on : {text before order : List ℕ} {t s : Tree} (p : ℕ) → starts_with asterisk (drop p text) ≡ true → Continued text before order t s
    → Continued text before (order ++ p ∷ []) t (starred s)
unfolding items_of
starred_on {text} {before} {order} {t} {s} p e c = record {
  items = λ a pre q.
      items_more a text order p
      ∙ ap (λ (i : Item). items_by a text order ++ (i ∷ [])) (star_item a text p e)
      ∙ ap (λ (is : List Item). is ++ (repeat ∷ [])) (c.items a pre q)
      ∙ append_assoc pre (items_of a s) (repeat ∷ []);
}

-- ---- a leaf, and an operator behind two operands

pub leaf_placed : (a : ℕ) (text order : List ℕ) (p : ℕ) (t : Tree) (r : List ℕ) → leaf (drop p text) ≡ up_to t r
    → items_by a text (order ++ p ∷ []) ≡ items_by a text order ++ items_of a t
leaf_placed a text order p t r e =
    items_more a text order p ∙ ap (λ (is : List Item). items_by a text order ++ is) (sym (leaf_item a (drop p text) t r e))

abbrev operation : Chain → Item
operation choices = choice
operation sequences = sequence

joined_items : (k : Chain) (a : ℕ) (s t : Tree) → items_of a (joined k s t) ≡ items_of a s ++ items_of a t ++ operation k ∷ []
unfolding items_of
joined_items choices a s t = refl
joined_items sequences a s t = refl

-- the item of an operator's byte
operator_item : (k : Chain) (a : ℕ) (l : List ℕ) (i : ℕ) → starts_with (operator k) (drop i l) ≡ true → item_from a (drop i l) ≡ operation k
operator_item choices a l i e = ap (item_from a) (starts_cons bar l i e)
operator_item sequences a l i e = ap (item_from a) (starts_cons semicolon l i e)

-- behind the items of s and of t, the operator's place makes them those of the joined tree
pub joined_on : (k : Chain) (a : ℕ) (text order : List ℕ) (p : ℕ) (pre : List Item) (s t : Tree) → starts_with (operator k) (drop p text) ≡ true
    → items_by a text order ≡ (pre ++ items_of a s) ++ items_of a t → items_by a text (order ++ p ∷ []) ≡ pre ++ items_of a (joined k s t)
joined_on k a text order p pre s t e q =
    items_more a text order p
    ∙ ap (λ (i : Item). items_by a text order ++ (i ∷ [])) (operator_item k a text p e)
    ∙ ap (λ (is : List Item). is ++ (operation k ∷ [])) (q ∙ append_assoc pre (items_of a s) (items_of a t))
    ∙ append_assoc pre (items_of a s ++ items_of a t) (operation k ∷ [])
    ∙ ap (λ (is : List Item). pre ++ is) (sym (joined_items k a s t))
