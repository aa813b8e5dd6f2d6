-- Postfix items, and the expression that they build. Document 01, "The bit-packed plan".
use Rattle.std.specs.Prelude.{List, [], ◌∷◌, ℕ}
use Rattle.expressions.specs.Expression.{Expression, eps, set, seq, alt, star}
-- "0 the empty string, 1 one event of a set, 2 sequence, 3 choice, 4 star": the items of the code
pub use Rattle.expressions.specs.declared.Item.{Item}
pub use Rattle.expressions.specs.declared.Item.TheVariants.{Empty as empty, Events as events, Sequence as sequence, Choice as choice, Repeat as repeat}

-- "sequence and choice take the last two operands, .. star takes the last"
abbrev pub arity : Item → ℕ
arity empty = 0
arity (events m) = 0
arity sequence = 2
arity choice = 2
arity repeat = 1

-- the operands after an item, the newest first; unchanged where it finds too few, which is refused
abbrev pub push : Item → List Expression → List Expression
push empty st = eps ∷ st
push (events m) st = set m ∷ st
push sequence (s ∷ r ∷ st) = seq r s ∷ st
push sequence (s ∷ []) = s ∷ []
push sequence [] = []
push choice (s ∷ r ∷ st) = alt r s ∷ st
push choice (s ∷ []) = s ∷ []
push choice [] = []
push repeat (r ∷ st) = star r ∷ st
push repeat [] = []

unfoldable pub push_all : List Item → List Expression → List Expression
push_all [] st = st
push_all (i ∷ is) st = push_all is (push i st)

-- the operands after the items
abbrev pub operands : List Item → List Expression
operands is = push_all is []

-- the newest operand
abbrev pub newest : List Expression → Expression
newest [] = eps
newest (r ∷ st) = r

-- "The pattern's language is that of the operand left after the last item."
abbrev pub pattern_of : List Item → Expression
pattern_of is = newest (operands is)
