-- What the tree of a text means under an alphabet: its expression, its postfix items and its letters; and the refusals 18 to 20 of a
-- text. Document 02, order 1.
use Rattle.std.specs.Prelude.{Bool, true, false, not, List, [], ◌∷◌, ◌++◌, ℕ, ◌-◌, ◌^◌, ltb, length}
use Rattle.std.proofs.Math.Option.{Option, none, some}
use Rattle.std.specs.Int.Bits.{bit_or, bit_and}
use Rattle.masks.specs.Mask.{has}
use Rattle.expressions.specs.Expression as expression
use Rattle.expressions.specs.Expression.{Expression}
use Rattle.expressions.specs.declared.Item.{Item}
use Rattle.expressions.specs.declared.Item.TheVariants.{Empty as empty, Events as events, Sequence as sequence, Choice as choice, Repeat as repeat}
use Rattle.plan.specs.Checks.{Check, refuse, any}
use Rattle.grammar.specs.Grammar.{Tree, empty_string, one_of, noneOf, followed, either, starred}

-- the set of some events: event e has weight 2 ^ e
unfoldable pub listed : List ℕ → ℕ
listed [] = 0
listed (e ∷ es) = bit_or (2 ^ e) (listed es)

-- "the alphabet without it"
abbrev pub without : (alphabet : ℕ) → List ℕ → ℕ
without alphabet es = alphabet - bit_and alphabet (listed es)

-- the expression of a tree
abbrev pub expression_of : (alphabet : ℕ) → Tree → Expression
expression_of a empty_string = expression.eps
expression_of a (one_of es) = expression.set (listed es)
expression_of a (noneOf es) = expression.set (without a es)
expression_of a (followed s t) = expression.seq (expression_of a s) (expression_of a t)
expression_of a (either s t) = expression.alt (expression_of a s) (expression_of a t)
expression_of a (starred t) = expression.star (expression_of a t)

-- its "postfix items"
unfoldable pub items_of : (alphabet : ℕ) → Tree → List Item
items_of a empty_string = empty ∷ []
items_of a (one_of es) = events (listed es) ∷ []
items_of a (noneOf es) = events (without a es) ∷ []
items_of a (followed s t) = items_of a s ++ items_of a t ++ sequence ∷ []
items_of a (either s t) = items_of a s ++ items_of a t ++ choice ∷ []
items_of a (starred t) = items_of a t ++ repeat ∷ []

-- the events of its letters
unfoldable pub letters_of : Tree → List ℕ
letters_of empty_string = []
letters_of (one_of es) = es
letters_of (noneOf es) = es
letters_of (followed s t) = letters_of s ++ letters_of t
letters_of (either s t) = letters_of s ++ letters_of t
letters_of (starred t) = letters_of t

-- ---- the refusals of a text, by its reading

-- "18 exactly when the text is too long or breaks the grammar": "The text has at most 255 bytes"
abbrev pub unreadable : List ℕ → Option Tree → Bool
unreadable w none = true
unreadable w (some t) = ltb 255 (length w)

-- "then 19 when it needs over 64 items"
abbrev pub many_items : Option Tree → (alphabet : ℕ) → Bool
many_items none a = false
many_items (some t) a = ltb 64 (length (items_of a t))

-- "then 20 when a letter is outside the alphabet"
abbrev pub strange_letter : Option Tree → (alphabet : ℕ) → Bool
strange_letter none a = false
strange_letter (some t) a = any (λ e. not (has a e)) (letters_of t)

-- in their order, asked of the alphabet
abbrev pub text_refusals : List ℕ → Option Tree → List (Check ℕ)
text_refusals w o =
    refuse 18 (λ a. unreadable w o) ∷ refuse 19 (many_items o) ∷ refuse 20 (strange_letter o) ∷ []

-- the items and the expression of a text; a text without a tree is refused
abbrev pub typed_items : (alphabet : ℕ) → Option Tree → List Item
typed_items a none = []
typed_items a (some t) = items_of a t

abbrev pub typed_expression : (alphabet : ℕ) → Option Tree → Expression
typed_expression a none = expression.eps
typed_expression a (some t) = expression_of a t
