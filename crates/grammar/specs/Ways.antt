-- How a text is read from left to right. No public promise speaks of it.
use Rattle.std.specs.Prelude.{◌≡◌, Bool, false, ◌&&◌, cond, List, [], ◌∷◌, map, ℕ, ◌-◌, leb, eqb, drop}
use Rattle.std.proofs.Math.Option.{Option, none, some}
use Rattle.expressions.specs.declared.Item.{Item}
use Rattle.expressions.specs.declared.Item.TheVariants.{Empty as empty, Events as events, Sequence as sequence, Choice as choice, Repeat as repeat}
use Rattle.grammar.specs.Grammar.{Tree, empty_string, one_of, noneOf, followed, either, starred, semicolon, bar, asterisk, nought, opening, closing, opening_set, closing_set, caret}
use Rattle.grammar.specs.Meaning.{listed, without}

-- what a reader comes to: the tree of what it has read, and the bytes behind it; or that there is none
pub data Outcome : Type 0 where
  broken : Outcome
  up_to : Tree → (rest : List ℕ) → Outcome

abbrev pub starts_with : ℕ → List ℕ → Bool
starts_with b [] = false
starts_with b (c ∷ w) = eqb c b

-- ---- a unit without round brackets and stars

abbrev pub is_letter : ℕ → Bool
is_letter c = leb 97 c && leb c 122

abbrev pub starts_with_letter : List ℕ → Bool
starts_with_letter [] = false
starts_with_letter (c ∷ w) = is_letter c

-- the event of a letter
abbrev pub event_of : ℕ → ℕ
event_of c = c - 96

-- the letters at the beginning, as events, and the bytes behind them
unfoldable pub letters : List ℕ → List ℕ
letters [] = []
letters (c ∷ w) = cond (is_letter c) (event_of c ∷ letters w) []

unfoldable pub past_letters : List ℕ → List ℕ
past_letters [] = []
past_letters (c ∷ w) = cond (is_letter c) (past_letters w) (c ∷ w)

-- a set whose letters begin here
abbrev pub listing : (List ℕ → Tree) → List ℕ → Outcome
listing tree w = cond (starts_with closing_set (past_letters w)) (up_to (tree (letters w)) (drop 1 (past_letters w))) broken

-- a set behind its first bracket
abbrev pub in_set : List ℕ → Outcome
in_set w = cond (starts_with caret w) (listing noneOf (drop 1 w)) (listing one_of w)

abbrev pub leaf : List ℕ → Outcome
leaf [] = broken
leaf (c ∷ w) =
    cond (is_letter c) (up_to (one_of (event_of c ∷ [])) w)
    (cond (eqb c nought) (up_to empty_string w) (cond (eqb c opening_set) (in_set w) broken))

-- the stars behind a tree
unfoldable pub stars : Tree → List ℕ → Outcome
stars t [] = up_to t []
stars t (c ∷ w) = cond (eqb c asterisk) (stars (starred t) w) (up_to t (c ∷ w))

-- ---- choices of sequences, and sequences of units, which one law covers

pub data Chain : Type 0 where
  choices sequences : Chain

abbrev pub operator : Chain → ℕ
operator choices = bar
operator sequences = semicolon

abbrev pub joined : Chain → Tree → Tree → Tree
joined choices s t = either s t
joined sequences s t = followed s t

-- what is read: a chain, from its beginning or behind the tree of its first operands; or a unit
pub data Task : Type 0 where
  chain : Chain → Task
  onward : Chain → Tree → Task
  one_unit : Task

abbrev pub operand : Chain → Task
operand choices = chain sequences
operand sequences = one_unit

-- the outcome of a task on the bytes w
pub data Way : Task → (w : List ℕ) → Outcome → Type 0 where
  begins : {k : Chain} {t : Tree} {w r : List ℕ} {o : Outcome} → Way (operand k) w (up_to t r) → Way (onward k t) r o → Way (chain k) w o
  fails : {k : Chain} {w : List ℕ} → Way (operand k) w broken → Way (chain k) w broken
  ends : {k : Chain} {t : Tree} {w : List ℕ} → starts_with (operator k) w ≡ false → Way (onward k t) w (up_to t w)
  joins : {k : Chain} {s t : Tree} {v w r : List ℕ} {o : Outcome} → v ≡ operator k ∷ w → Way (operand k) w (up_to t r)
      → Way (onward k (joined k s t)) r o → Way (onward k s) v o
  lacks : {k : Chain} {s : Tree} {v w : List ℕ} → v ≡ operator k ∷ w → Way (operand k) w broken → Way (onward k s) v broken
  plain : {t : Tree} {w r : List ℕ} {o : Outcome} → leaf w ≡ up_to t r → o ≡ stars t r → Way one_unit w o
  unfit : {w : List ℕ} → starts_with opening w ≡ false → leaf w ≡ broken → Way one_unit w broken
  inside : {t : Tree} {v w r : List ℕ} {o : Outcome} → v ≡ opening ∷ w → Way (chain choices) w (up_to t (closing ∷ r)) → o ≡ stars t r
      → Way one_unit v o
  unclosed : {t : Tree} {v w r : List ℕ} → v ≡ opening ∷ w → Way (chain choices) w (up_to t r) → starts_with closing r ≡ false
      → Way one_unit v broken
  within : {v w : List ℕ} → v ≡ opening ∷ w → Way (chain choices) w broken → Way one_unit v broken

-- ---- the item that begins with the first byte, in a text that is read

abbrev pub set_from : (alphabet : ℕ) → List ℕ → ℕ
set_from a w = cond (starts_with caret w) (without a (letters (drop 1 w))) (listed (letters w))

abbrev pub item_from : (alphabet : ℕ) → List ℕ → Item
item_from a [] = empty
item_from a (c ∷ w) =
    cond (is_letter c) (events (listed (event_of c ∷ [])))
    (cond (eqb c opening_set) (events (set_from a w))
    (cond (eqb c semicolon) sequence (cond (eqb c bar) choice (cond (eqb c asterisk) repeat empty))))

-- the items whose first bytes stand at the places of an order
abbrev pub items_by : (a : ℕ) → (text order : List ℕ) → List Item
items_by a text order = map (λ i. item_from a (drop i text)) order

-- ---- the letters that stand in a text, as events

unfoldable pub typed_letters : List ℕ → List ℕ
typed_letters [] = []
typed_letters (c ∷ w) = cond (is_letter c) (event_of c ∷ typed_letters w) (typed_letters w)

-- ---- the tree of a text of which nothing is left

abbrev pub tree_of : Outcome → Option Tree
tree_of broken = none
tree_of (up_to t []) = some t
tree_of (up_to t (c ∷ r)) = none
