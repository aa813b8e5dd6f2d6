-- Completeness: what the grammar reads is read so from left to right.
use mathlib.Core.Path.{◌≡◌, refl, subst}
use mathlib.Core.Bool.{false}
use mathlib.Core.List.{List, [], ◌∷◌, ◌++◌, append-nil, append_assoc}
use Prim.Native.Nat.{ℕ}
use Rattle.grammar.specs.Grammar.{Tree, Part, choice, sequence, unit, Reads, alone, bars, single, semicolons, zero, lone, set, rest, brackets, star, semicolon, bar, asterisk, closing}
use Rattle.grammar.specs.Ways.{Outcome, up_to, starts_with, stars, choices, sequences, chain, onward, one_unit, Way, begins, ends, joins, plain, inside}
use Rattle.grammar.proofs.Leaves.{leaf_letter, leaf_set, leaf_rest}

-- no star stands behind the tree
stars_none : (t : Tree) (r : List ℕ) → starts_with asterisk r ≡ false → stars t r ≡ up_to t r
unfolding stars
stars_none t [] h = refl
stars_none t (c ∷ r) h = rw h refl

-- how a part is read that stands before r
abbrev Read : Part → List ℕ → Tree → Type 0
Read choice u t =
    (r : List ℕ) (o : Outcome) → starts_with asterisk r ≡ false → starts_with semicolon r ≡ false → Way (onward choices t) r o
    → Way (chain choices) (u ++ r) o
Read sequence u t = (r : List ℕ) (o : Outcome) → starts_with asterisk r ≡ false → Way (onward sequences t) r o → Way (chain sequences) (u ++ r) o
Read unit u t = (r : List ℕ) → Way one_unit (u ++ r) (stars t r)

read : {p : Part} {w : List ℕ} {t : Tree} → Reads p w t → Read p w t
unfolding stars
read {t} (alone d) = λ r o a s n. begins (read d r (up_to t r) a (ends s)) n
read (bars {u} {v} {t} d e q) = λ r o a s n.
    rw (q, append_assoc u (bar ∷ v) r) (read d (bar ∷ (v ++ r)) o refl refl (joins refl (read e r (up_to t r) a (ends s)) n))
read {t} (single d) = λ r o a n. begins (subst (Way one_unit _) (stars_none t r a) (read d r)) n
read (semicolons {u} {v} {t} d e q) = λ r o a n.
    rw (q, append_assoc u (semicolon ∷ v) r)
    (read d (semicolon ∷ (v ++ r)) o refl (joins refl (subst (Way one_unit _) (stars_none t r a) (read e r)) n))
read (zero q) = λ r. rw q (plain refl refl)
read (lone {e} h q) = λ r. rw q (plain (leaf_letter e r h) refl)
read (set {es} h q) = λ r. rw (q, append_assoc) (plain (leaf_set es r h) refl)
read (rest {es} h q) = λ r. rw (q, append_assoc) (plain (leaf_rest es r h) refl)
read (brackets {t} d q) = λ r.
    rw (q, append_assoc) (inside refl (read d (closing ∷ r) (up_to t (closing ∷ r)) refl refl (ends refl)) refl)
read (star d q) = λ r. rw (q, append_assoc) (read d (asterisk ∷ r))

pub complete : (w : List ℕ) (t : Tree) → Reads choice w t → Way (chain choices) w (up_to t [])
complete w t d = rw append-nil at (read d [] (up_to t []) refl refl (ends refl))
