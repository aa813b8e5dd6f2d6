-- Soundness: what is read from left to right is read by the grammar.
use mathlib.Core.Path.{◌≡◌, refl, sym, ap, ◌∙◌}
use mathlib.Core.Bool.{Bool, true, false, cond}
use mathlib.Core.List.{List, [], ◌∷◌, ◌++◌, map, append-nil, append_assoc}
use Prim.Native.Nat.{ℕ}
use borrow.Author.Tests.{eqb-true}
use lib.Dec.{eqb}
use Rattle.grammar.specs.Grammar.{Tree, starred, Part, choice, sequence, unit, Reads, alone, bars, single, semicolons, zero, lone, set, rest, brackets, star, letter, asterisk, nought, opening, closing, opening_set, closing_set, caret}
use Rattle.grammar.specs.Ways.{Outcome, broken, up_to, stars, Chain, choices, sequences, operator, joined, Task, chain, onward, one_unit, operand, Way, begins, fails, ends, joins, lacks, plain, unfit, inside, unclosed, within}
use Rattle.grammar.proofs.Leaves.{Leaf, a_nought, a_letter, a_set, a_rest, leaf_of}

abbrev pub chained : Chain → Part
chained choices = choice
chained sequences = sequence

-- the part that a task reads
abbrev pub part_of : Task → Part
part_of (chain k) = chained k
part_of (onward k s) = chained k
part_of one_unit = unit

-- the text x has been read before the task begins
abbrev Before : Task → List ℕ → Type 0
Before (chain k) x = x ≡ []
Before (onward k s) x = Reads (chained k) x s
Before one_unit x = x ≡ []

-- the outcome is such a part, behind a text of B
abbrev From : (List ℕ → Type 0) → Part → List ℕ → Outcome → Type 0
From B p w broken = Unit {0}
From B p w (up_to t r) = (x : List ℕ) → B x → (u : List ℕ) × (w ≡ u ++ r) × Reads p (x ++ u) t

abbrev Right : Task → List ℕ → Outcome → Type 0
Right task w o = From (Before task) (part_of task) w o

-- ---- chains

fresh : (k : Chain) → Before (operand k) []
fresh choices = refl
fresh sequences = refl

one : (k : Chain) {u : List ℕ} {t : Tree} → Reads (part_of (operand k)) u t → Reads (chained k) u t
one choices d = alone d
one sequences d = single d

more : (k : Chain) {u v : List ℕ} {s t : Tree}
    → Reads (chained k) u s → Reads (part_of (operand k)) v t → Reads (chained k) (u ++ operator k ∷ v) (joined k s t)
more choices d e = bars d e refl
more sequences d e = semicolons d e refl

-- a chain goes on behind the text u
goes_on : (B : List ℕ → Type 0) (k : Chain) (s : Tree) (w u v : List ℕ) (o : Outcome)
    → w ≡ u ++ v → ((x : List ℕ) → B x → Reads (chained k) (x ++ u) s) → Right (onward k s) v o → From B (chained k) w o
goes_on B k s w u v broken q f h = tt
goes_on B k s w u v (up_to t r) q f h = λ x b.
    let (y, e, d) = h (x ++ u) (f x b) in
    (u ++ y, rw (q, e, append_assoc u y r) refl, rw append_assoc at d)

-- ---- units

stars_right : (w u : List ℕ) (t : Tree) (r : List ℕ) → w ≡ u ++ r → Reads unit u t → Right one_unit w (stars t r)
unfolding stars
stars_right w u t [] q d = λ x b. (u, q, rw b d)
stars_right w u t (c ∷ r) q d = go (eqb c asterisk) refl (stars_right w (u ++ asterisk ∷ []) (starred t) r)
  where
    go : (b : Bool) → eqb c asterisk ≡ b
        → (w ≡ u ++ asterisk ∷ [] ++ r → Reads unit (u ++ asterisk ∷ []) (starred t) → Right one_unit w (stars (starred t) r))
        → Right one_unit w (cond b (stars (starred t) r) (up_to t (c ∷ r)))
    go true p ih = ih (rw (q, append_assoc, eqb-true c asterisk p) refl) (star d refl)
    go false p ih = λ x b. (u, q, rw b d)

leaf_right : (w : List ℕ) (t : Tree) (r : List ℕ) → Leaf w (up_to t r) → (u : List ℕ) × (w ≡ u ++ r) × Reads unit u t
leaf_right w t r (a_nought q) = (nought ∷ [], q, zero refl)
leaf_right w t r (a_letter {e} h q) = (letter e ∷ [], q, lone h refl)
leaf_right w t r (a_set {es} h q) = (opening_set ∷ map letter es ++ closing_set ∷ [], rw append_assoc q, set h refl)
leaf_right w t r (a_rest {es} h q) = (opening_set ∷ caret ∷ map letter es ++ closing_set ∷ [], rw append_assoc q, rest h refl)

right : {task : Task} {w : List ℕ} {o : Outcome} → Way task w o → Right task w o
right (begins {k} {t} {w} {r} {o} d e) =
    let (u, q, f) = right d [] (fresh k) in
    goes_on (Before (chain k)) k t w u r o q (λ x b. rw b (one k f)) (right e)
right (fails d) = tt
right (ends n) = λ x b. ([], refl, rw append-nil b)
right (joins {k} {s} {t} {v} {w} {r} {o} q d e) =
    let (u, p, f) = right d [] (fresh k) in
    goes_on (Before (onward k s)) k (joined k s t) v (operator k ∷ u) r o
    (q ∙ ap (λ (y : List ℕ). operator k ∷ y) p) (λ x b. more k b f) (right e)
right (lacks q d) = tt
right (plain {t} {w} {r} q p) = let (u, e, d) = leaf_right w t r (leaf_of w t r q) in rw p (stars_right w u t r e d)
right (unfit n q) = tt
right (inside {t} {v} {w} {r} q d p) =
    let (u, e, f) = right d [] refl in
    let g = q ∙ ap (λ (y : List ℕ). opening ∷ y) (e ∙ sym (append_assoc u (closing ∷ []) r)) in
    rw p (stars_right v (opening ∷ u ++ closing ∷ []) t r g (brackets f refl))
right (unclosed q d n) = tt
right (within q d) = tt

pub operand_sound : (k : Chain) {w : List ℕ} {t : Tree} {r : List ℕ}
    → Way (operand k) w (up_to t r) → (u : List ℕ) × (w ≡ u ++ r) × Reads (part_of (operand k)) u t
operand_sound k d = right d [] (fresh k)

pub sound : (w : List ℕ) (t : Tree) (r : List ℕ) → Way (chain choices) w (up_to t r) → (u : List ℕ) × (w ≡ u ++ r) × Reads choice u t
sound w t r d = right d [] refl
