-- Letters, and the units without round brackets and stars, as they are read from left to right.
use mathlib.Core.Path.{◌≡◌, refl, ap, ap₂, ◌∙◌, subst}
use mathlib.Core.Bool.{Bool, true, false, cond, false≢true, and-eq-true_iff}
use mathlib.Core.List.{List, [], ◌∷◌, ◌++◌, map}
use Prim.Native.Nat.{ℕ}
use native.Mathlib.Omega.{arith}
use borrow.Author.Tests.{eqb-true, ne_eqb, leb-true, le-leb}
use lib.Dec.{eqb}
use lib.ListN.{drop}
use Rattle.grammar.specs.Grammar.{Tree, empty_string, one_of, noneOf, Lettered, letter, AllLettered, nought, opening_set, closing_set, caret}
use Rattle.grammar.specs.Meaning.{items_of}
use Rattle.grammar.specs.Ways.{Outcome, broken, up_to, starts_with, is_letter, event_of, letters, past_letters, listing, in_set, leaf, item_from}

pub starts : (b : ℕ) (w : List ℕ) → starts_with b w ≡ true → w ≡ b ∷ drop 1 w
starts b [] e = absurd (false≢true e)
starts b (c ∷ w) e = ap (λ (x : ℕ). x ∷ w) (eqb-true c b e)

-- ---- letters

pub letter_event : (c : ℕ) → is_letter c ≡ true → Lettered (event_of c) × (c ≡ letter (event_of c))
letter_event c e =
    let both = (and-eq-true_iff _ _).0 e in
    let low = leb-true 97 c both.0 in
    let high = leb-true c 122 both.1 in
    omega arith

pub is_letter_lem : (e : ℕ) → Lettered e → is_letter (letter e) ≡ true
is_letter_lem e h = (and-eq-true_iff _ _).1 (le-leb 97 (letter e) (omega arith), le-leb (letter e) 122 (omega arith))

pub event_letter : (e : ℕ) → event_of (letter e) ≡ e
event_letter e = omega arith

-- the letters at the beginning of a text, and the bytes behind them

pub letters_split : (w : List ℕ) → w ≡ map letter (letters w) ++ past_letters w
unfolding letters past_letters
letters_split [] = refl
letters_split (c ∷ w) = go (is_letter c) refl (letters_split w)
  where
    go : (b : Bool) → is_letter c ≡ b → w ≡ map letter (letters w) ++ past_letters w
        → c ∷ w ≡ map letter (cond b (event_of c ∷ letters w) []) ++ cond b (past_letters w) (c ∷ w)
    go true p ih = ap₂ (λ (x : ℕ) (y : List ℕ). x ∷ y) (letter_event c p).1 ih
    go false p ih = refl

pub letters_lettered : (w : List ℕ) → AllLettered (letters w)
unfolding letters
letters_lettered [] = tt
letters_lettered (c ∷ w) = go (is_letter c) refl (letters_lettered w)
  where
    go : (b : Bool) → is_letter c ≡ b → AllLettered (letters w) → AllLettered (cond b (event_of c ∷ letters w) [])
    go true p ih = ((letter_event c p).0, ih)
    go false p ih = tt

pub letters_listed : (es r : List ℕ) → AllLettered es → letters (map letter es ++ closing_set ∷ r) ≡ es
unfolding letters
letters_listed [] r h = refl
letters_listed (e ∷ es) r h = rw (is_letter_lem e h.0, event_letter e, letters_listed es r h.1) refl

pub past_listed : (es r : List ℕ) → AllLettered es → past_letters (map letter es ++ closing_set ∷ r) ≡ closing_set ∷ r
unfolding past_letters
past_listed [] r h = refl
past_listed (e ∷ es) r h = rw (is_letter_lem e h.0) (past_listed es r h.1)

no_caret : (es r : List ℕ) → starts_with caret (map letter es ++ closing_set ∷ r) ≡ false
no_caret [] r = refl
no_caret (e ∷ es) r = ne_eqb (letter e) caret (λ q. omega arith)

-- ---- the leaves of a text: how each is read

pub leaf_letter : (e : ℕ) (r : List ℕ) → Lettered e → leaf (letter e ∷ r) ≡ up_to (one_of (e ∷ [])) r
leaf_letter e r h = rw (is_letter_lem e h, event_letter e) refl

listing_listed : (tree : List ℕ → Tree) (es r : List ℕ) → AllLettered es → listing tree (map letter es ++ closing_set ∷ r) ≡ up_to (tree es) r
listing_listed tree es r h = rw (letters_listed es r h, past_listed es r h) refl

pub leaf_set : (es r : List ℕ) → AllLettered es → leaf (opening_set ∷ map letter es ++ closing_set ∷ r) ≡ up_to (one_of es) r
leaf_set es r h = rw (no_caret es r) (listing_listed one_of es r h)

pub leaf_rest : (es r : List ℕ) → AllLettered es → leaf (opening_set ∷ caret ∷ map letter es ++ closing_set ∷ r) ≡ up_to (noneOf es) r
leaf_rest es r h = listing_listed noneOf es r h

-- and these are all

pub data Leaf (w : List ℕ) : Outcome → Type 0 where
  no_leaf : Leaf w broken
  a_nought : {r : List ℕ} → w ≡ nought ∷ r → Leaf w (up_to empty_string r)
  a_letter : {e : ℕ} {r : List ℕ} → Lettered e → w ≡ letter e ∷ r → Leaf w (up_to (one_of (e ∷ [])) r)
  a_set : {es r : List ℕ} → AllLettered es → w ≡ opening_set ∷ map letter es ++ closing_set ∷ r → Leaf w (up_to (one_of es) r)
  a_rest : {es r : List ℕ} → AllLettered es → w ≡ opening_set ∷ caret ∷ map letter es ++ closing_set ∷ r → Leaf w (up_to (noneOf es) r)

listing_cases : {v : List ℕ} (tree : List ℕ → Tree) (w : List ℕ)
    → ((es r : List ℕ) → AllLettered es → w ≡ map letter es ++ closing_set ∷ r → Leaf v (up_to (tree es) r)) → Leaf v (listing tree w)
listing_cases {v} tree w make = go (starts_with closing_set (past_letters w)) refl
  where
    go : (b : Bool) → starts_with closing_set (past_letters w) ≡ b → Leaf v (cond b (up_to (tree (letters w)) (drop 1 (past_letters w))) broken)
    go true p =
        make (letters w) (drop 1 (past_letters w)) (letters_lettered w)
        (letters_split w ∙ ap (λ (x : List ℕ). map letter (letters w) ++ x) (starts closing_set (past_letters w) p))
    go false p = no_leaf

in_set_cases : (c : ℕ) (w : List ℕ) → c ≡ opening_set → Leaf (c ∷ w) (in_set w)
in_set_cases c w q = go (starts_with caret w) refl
  where
    go : (b : Bool) → starts_with caret w ≡ b → Leaf (c ∷ w) (cond b (listing noneOf (drop 1 w)) (listing one_of w))
    go true p = listing_cases noneOf (drop 1 w) (λ es r h e. a_rest h (cc (starts caret w p)))
    go false p = listing_cases one_of w (λ es r h e. a_set h (cc))

leaf_cases : (w : List ℕ) → Leaf w (leaf w)
leaf_cases [] = no_leaf
leaf_cases (c ∷ w) = go (is_letter c) (eqb c nought) (eqb c opening_set) refl refl refl
  where
    go : (l z s : Bool) → is_letter c ≡ l → eqb c nought ≡ z → eqb c opening_set ≡ s
        → Leaf (c ∷ w) (cond l (up_to (one_of (event_of c ∷ [])) w) (cond z (up_to empty_string w) (cond s (in_set w) broken)))
    go true z s p q e = let h = letter_event c p in a_letter h.0 (ap (λ (x : ℕ). x ∷ w) h.1)
    go false true s p q e = a_nought (ap (λ (x : ℕ). x ∷ w) (eqb-true c nought q))
    go false false true p q e = in_set_cases c w (eqb-true c opening_set e)
    go false false false p q e = no_leaf

pub leaf_of : (w : List ℕ) (t : Tree) (r : List ℕ) → leaf w ≡ up_to t r → Leaf w (up_to t r)
leaf_of w t r e = subst (Leaf w) e (leaf_cases w)

-- ---- the item of a leaf

item_of : (a : ℕ) (w : List ℕ) (t : Tree) (r : List ℕ) → Leaf w (up_to t r) → items_of a t ≡ item_from a w ∷ []
unfolding items_of
item_of a w t r (a_nought q) = rw q refl
item_of a w t r (a_letter {e} h q) = rw (q, is_letter_lem e h, event_letter e) refl
item_of a w t r (a_set {es} h q) = rw (q, no_caret es r, letters_listed es r h) refl
item_of a w t r (a_rest {es} h q) = rw (q, letters_listed es r h) refl

pub leaf_item : (a : ℕ) (w : List ℕ) (t : Tree) (r : List ℕ) → leaf w ≡ up_to t r → items_of a t ≡ item_from a w ∷ []
leaf_item a w t r e = item_of a w t r (leaf_of w t r e)
