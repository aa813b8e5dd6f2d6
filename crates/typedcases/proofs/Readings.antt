-- Texts and the reading of each, its tree or none, by evaluation. Document 02, order 1.
use mathlib.Core.Path.{◌≡◌, refl, subst}
use mathlib.Core.List.{List, [], ◌∷◌, ◌++◌, map, Memᴰ}
use mathlib.Core.Option
use mathlib.Core.Option.{Option, none, some, map-eq-some_iff}
use Prim.Native.Nat.{ℕ}
use Prim.Native.String.{String}
use lib.ListN.{replicate}
use Rattle.line.specs.Line.{text}
use Rattle.plan.proofs.Cases.{agree}
use Rattle.grammar.specs.Grammar.{Tree, empty_string, one_of, noneOf, followed, either, starred, Reading, opening, closing}
use Rattle.grammar.specs.Ways.{letters, past_letters, stars, choices, chain, tree_of}
use Rattle.grammar.proofs.Evaluate.{run, evaluated}

-- ---- an executable reading

-- what n steps of the evaluation make of a text; none where they are too few
abbrev pub read_within : (n : ℕ) → List ℕ → Option (Option Tree)
read_within n w = Option.map tree_of (run n (chain choices) w)

pub read_within_lem : (n : ℕ) (w : List ℕ) (t : Option Tree) → read_within n w ≡ some t → Reading w t
read_within_lem n w t e =
    let made = (map-eq-some_iff tree_of (run n (chain choices) w)).0 e in
    subst (λ (u : Option Tree). Reading w u) made.2 (evaluated n w made.0 made.1)

-- ---- texts

pub record TextCase : Type 0 where
  pub text : List ℕ
  pub tree : Option Tree

abbrev is : String → Tree → TextCase
is s t = record { text = text s; tree = some t }

abbrev breaks : String → TextCase
breaks s = record { text = text s; tree = none }

-- letters
abbrev a : Tree
a = one_of (1 ∷ [])

abbrev b : Tree
b = one_of (2 ∷ [])

abbrev c : Tree
c = one_of (3 ∷ [])

-- "`;` binds tighter than `|`, both group to the left, round brackets nest"
abbrev grouped : List TextCase
grouped =
    is "a|b;c*" (either a (followed b (starred c)))
    ∷ is "(a|b);c*" (followed (either a b) (starred c))
    ∷ is "a;b|c" (either (followed a b) c)
    ∷ is "a;b;c" (followed (followed a b) c)
    ∷ is "(a;b);c" (followed (followed a b) c)
    ∷ is "a;(b;c)" (followed a (followed b c))
    ∷ is "a|b|c" (either (either a b) c)
    ∷ is "a|(b|c)" (either a (either b c))
    ∷ is "((a))" a
    ∷ is "(a;b)*" (starred (followed a b))
    ∷ []

-- "a unit may carry any number of `*`"
abbrev starry : List TextCase
starry =
    is "a*" (starred a)
    ∷ is "a**" (starred (starred a))
    ∷ is "(a*)*" (starred (starred a))
    ∷ is "0*" (starred empty_string)
    ∷ is "[ab]*" (starred (one_of (1 ∷ 2 ∷ [])))
    ∷ is "a*;b**|c*" (either (followed (starred a) (starred (starred b))) (starred c))
    ∷ []

-- "Letters a to z are events 1 to 26, one alone being a set of one; `[ab]` is a set, `[^ab]` the alphabet without it, and either may
-- list no letters; `0` is the empty string."
abbrev plain : List TextCase
plain =
    is "a" a
    ∷ is "z" (one_of (26 ∷ []))
    ∷ is "0" empty_string
    ∷ is "[]" (one_of [])
    ∷ is "[^]" (noneOf [])
    ∷ is "[a]" a
    ∷ is "[aa]" (one_of (1 ∷ 1 ∷ []))
    ∷ is "[ab]" (one_of (1 ∷ 2 ∷ []))
    ∷ is "[ba]" (one_of (2 ∷ 1 ∷ []))
    ∷ is "[^ab]" (noneOf (1 ∷ 2 ∷ []))
    ∷ is "[az]" (one_of (1 ∷ 26 ∷ []))
    ∷ []

-- an operator without an operand; "an empty text breaks the grammar"
abbrev lacking : List TextCase
lacking =
    breaks ""
    ∷ breaks "a;"
    ∷ breaks ";a"
    ∷ breaks "a|"
    ∷ breaks "|a"
    ∷ breaks "a||b"
    ∷ breaks "a;;b"
    ∷ breaks "a;|b"
    ∷ breaks ";"
    ∷ breaks "|"
    ∷ breaks "*"
    ∷ breaks "*a"
    ∷ breaks "a;*"
    ∷ breaks "a|*"
    ∷ breaks "(*a)"
    ∷ breaks "()"
    ∷ breaks "()*"
    ∷ breaks "(a;)"
    ∷ []

-- units without an operator between them
abbrev unjoined : List TextCase
unjoined =
    breaks "ab"
    ∷ breaks "a*b"
    ∷ breaks "00"
    ∷ breaks "a(b)"
    ∷ breaks "(a)b"
    ∷ breaks "[a][b]"
    ∷ []

-- a bracket without its other one
abbrev unclosed : List TextCase
unclosed =
    breaks "(a"
    ∷ breaks "a)"
    ∷ breaks "("
    ∷ breaks ")"
    ∷ breaks ")a("
    ∷ breaks "((a)"
    ∷ breaks "(a))"
    ∷ breaks "[a"
    ∷ breaks "a]"
    ∷ breaks "["
    ∷ breaks "]"
    ∷ breaks "[^"
    ∷ breaks "[a)"
    ∷ breaks "(a]"
    ∷ []

-- in a set anything but letters, and one `^` in front of them
abbrev unlisted : List TextCase
unlisted =
    breaks "[a^]"
    ∷ breaks "[0]"
    ∷ breaks "[^^a]"
    ∷ breaks "[A]"
    ∷ breaks "[a b]"
    ∷ breaks "[a;b]"
    ∷ breaks "[a|b]"
    ∷ breaks "[a*]"
    ∷ breaks "[(a)]"
    ∷ breaks "[[a]]"
    ∷ breaks "^a"
    ∷ []

-- bytes of no use, "no blanks" among them
abbrev strange : List TextCase
strange =
    breaks "A"
    ∷ breaks "Z"
    ∷ breaks "1"
    ∷ breaks "`"  -- the byte before `a`
    ∷ breaks "{"  -- the byte behind `z`
    ∷ breaks " "
    ∷ breaks "a b"
    ∷ breaks " a"
    ∷ breaks "a "
    ∷ breaks "a;\tb"
    ∷ breaks "a\n"
    ∷ breaks "\na"
    ∷ record { text = 0 ∷ []; tree = none }
    ∷ record { text = 200 ∷ []; tree = none }
    ∷ record { text = 97 ∷ 200 ∷ []; tree = none }
    ∷ record { text = 91 ∷ 225 ∷ 93 ∷ []; tree = none }  -- in a set, the byte of `a` and 128
    ∷ []

-- 127 pairs of round brackets, which with what they hold are 255 bytes
abbrev pub nested : List ℕ → List ℕ
nested w = replicate 127 opening ++ w ++ replicate 127 closing

abbrev deep : List TextCase
deep = record { text = nested (text "a"); tree = some a } ∷ record { text = nested []; tree = none } ∷ []

-- the table
abbrev pub texts : List TextCase
texts = grouped ++ starry ++ plain ++ lacking ++ unjoined ++ unclosed ++ unlisted ++ strange ++ deep

-- 400 steps, which are enough for all of them
abbrev found : TextCase → Option (Option Tree)
found t = read_within 400 t.text

abbrev said : TextCase → Option (Option Tree)
said t = some t.tree

readings : map found texts ≡ map said texts
unfolding run letters past_letters stars
readings = refl

-- each text of the table has the reading that the table says
pub all_readings : {t : TextCase} → Memᴰ t texts → Reading t.text t.tree
all_readings {t} m = read_within_lem 400 t.text t.tree (agree found said readings m)
