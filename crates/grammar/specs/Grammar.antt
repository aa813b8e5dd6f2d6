-- The texts in which patterns are typed, and the tree of each. Document 02, order 1.
use Rattle.std.specs.Prelude.{◌≡◌, List, [], ◌∷◌, ◌++◌, map, ℕ, ◌+◌, ◌≤◌}
use Rattle.std.proofs.Math.Option.{Option, none, some}

-- ---- the bytes of a text, in ASCII

abbrev pub semicolon : ℕ
semicolon = 59

abbrev pub bar : ℕ
bar = 124

abbrev pub asterisk : ℕ
asterisk = 42

abbrev pub nought : ℕ
nought = 48

abbrev pub opening : ℕ
opening = 40

abbrev pub closing : ℕ
closing = 41

abbrev pub opening_set : ℕ
opening_set = 91

abbrev pub closing_set : ℕ
closing_set = 93

abbrev pub caret : ℕ
caret = 94

-- "Letters a to z are events 1 to 26": the events that have a letter, and the letter of one
abbrev pub Lettered : ℕ → Type 0
Lettered e = (1 ≤ e) × (e ≤ 26)

abbrev pub letter : ℕ → ℕ
letter e = 96 + e

abbrev pub AllLettered : List ℕ → Type 0
AllLettered [] = Unit {0}
AllLettered (e ∷ es) = Lettered e × AllLettered es

-- ---- trees: the empty string; a set by the events that it lists; the alphabet without the events listed; sequence; choice; star
pub data Tree : Type 0 where
  empty_string : Tree
  one_of noneOf : List ℕ → Tree
  followed either : Tree → Tree → Tree
  starred : Tree → Tree

-- ---- the grammar: a text is a choice; a choice is of sequences, and a sequence of units
pub data Part : Type 0 where
  choice sequence unit : Part

-- the text w is such a part, with the tree t
pub data Reads : Part → (w : List ℕ) → (t : Tree) → Type 0 where
  -- "`;` binds tighter than `|`, both group to the left": what stands before the last `|` is a choice, and what stands behind it a
  -- sequence
  alone : {w : List ℕ} {t : Tree} → Reads sequence w t → Reads choice w t
  bars : {u v w : List ℕ} {s t : Tree} → Reads choice u s → Reads sequence v t → w ≡ u ++ bar ∷ v → Reads choice w (either s t)
  -- so with the last `;`, a sequence before it, and a unit behind it
  single : {w : List ℕ} {t : Tree} → Reads unit w t → Reads sequence w t
  semicolons : {u v w : List ℕ} {s t : Tree} → Reads sequence u s → Reads unit v t → w ≡ u ++ semicolon ∷ v
      → Reads sequence w (followed s t)
  -- "`0` is the empty string"
  zero : {w : List ℕ} → w ≡ nought ∷ [] → Reads unit w empty_string
  -- "Letters .. are events .., one alone being a set of one"
  lone : {w : List ℕ} {e : ℕ} → Lettered e → w ≡ letter e ∷ [] → Reads unit w (one_of (e ∷ []))
  -- "`[ab]` is a set, `[^ab]` the alphabet without it, and either may list no letters"
  set : {w es : List ℕ} → AllLettered es → w ≡ opening_set ∷ map letter es ++ closing_set ∷ [] → Reads unit w (one_of es)
  rest : {w es : List ℕ} → AllLettered es → w ≡ opening_set ∷ caret ∷ map letter es ++ closing_set ∷ [] → Reads unit w (noneOf es)
  -- "round brackets nest"
  brackets : {u w : List ℕ} {t : Tree} → Reads choice u t → w ≡ opening ∷ u ++ closing ∷ [] → Reads unit w t
  -- "a unit may carry any number of `*`": a unit with one more is a unit
  star : {u w : List ℕ} {t : Tree} → Reads unit u t → w ≡ u ++ asterisk ∷ [] → Reads unit w (starred t)

-- the reading of a text: its tree, or none where it breaks the grammar
abbrev pub Reading : List ℕ → Option Tree → Type 0
Reading w (some t) = Reads choice w t
Reading w none = (t : Tree) → Reads choice w t → ⊥
