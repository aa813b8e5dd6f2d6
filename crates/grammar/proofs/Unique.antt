-- Uniqueness: a task has one outcome, a text at most one tree, and so one reading.
use mathlib.Core.Path.{◌≡◌, refl, sym, ap, ◌∙◌, subst}
use mathlib.Core.Bool.{true, false, true≢false, cond}
use mathlib.Core.List.{List, [], ◌∷◌, append-nil, cons≢nil, tail-eq_of_cons-eq}
use mathlib.Core.Option.{Option, none, some}
use Prim.Native.Nat.{ℕ}
use borrow.Author.Tests.{eqb-false, ne_eqb}
use lib.Dec.{eqb}
use Rattle.grammar.specs.Grammar.{Tree, choice, Reads, Reading, opening, closing}
use Rattle.grammar.specs.Ways.{Outcome, broken, up_to, starts_with, leaf, stars, choices, joined, Task, chain, onward, one_unit, Way, begins, fails, ends, joins, lacks, plain, unfit, inside, unclosed, within, tree_of}
use Rattle.grammar.proofs.Complete.{complete}
use Rattle.grammar.proofs.Sound.{sound}

not_start : (b : ℕ) (v w : List ℕ) → starts_with b v ≡ false → v ≡ b ∷ w → ⊥
not_start b v w n q = eqb-false b b (rw q at n) refl

unlike : {t : Tree} {r : List ℕ} → broken ≡ up_to t r → ⊥
unlike q = let h : true ≡ false = cc in true≢false h

moved : {task : Task} {o : Outcome} {b : ℕ} {v w x : List ℕ} → v ≡ b ∷ w → v ≡ b ∷ x → Way task x o → Way task w o
moved {task} {o} p q d = subst (λ (y : List ℕ). Way task y o) (tail-eq_of_cons-eq (sym q ∙ p)) d

-- ---- units

-- behind a leaf, and behind what stands in brackets
abbrev pub finished : Outcome → Outcome
finished broken = broken
finished (up_to t r) = stars t r

abbrev pub closed : Outcome → Outcome
closed broken = broken
closed (up_to t []) = broken
closed (up_to t (c ∷ r)) = cond (eqb c closing) (stars t r) broken

not_closed : (t : Tree) (r : List ℕ) → starts_with closing r ≡ false → closed (up_to t r) ≡ broken
not_closed t [] n = refl
not_closed t (c ∷ r) n = rw n refl

leaf_unopened : (w : List ℕ) (t : Tree) (r : List ℕ) → leaf w ≡ up_to t r → starts_with opening w ≡ false
leaf_unopened [] t r e = refl
leaf_unopened (c ∷ w) t r e = ne_eqb c opening (λ q. unlike (rw q at e))

leaf_way : {w : List ℕ} {o : Outcome} → starts_with opening w ≡ false → Way one_unit w o → o ≡ finished (leaf w)
leaf_way n (plain q p) = p ∙ ap finished (sym q)
leaf_way n (unfit m q) = ap finished (sym q)
leaf_way {w} n (inside q d p) = absurd (not_start opening w _ n q)
leaf_way {w} n (unclosed q d m) = absurd (not_start opening w _ n q)
leaf_way {w} n (within q d) = absurd (not_start opening w _ n q)

opened_way : (v w : List ℕ) (p o : Outcome)
    → v ≡ opening ∷ w → ((p' : Outcome) → Way (chain choices) w p' → p' ≡ p) → Way one_unit v o → o ≡ closed p
opened_way v w p o e h (plain {t} {r} q s) = absurd (not_start opening v w (leaf_unopened v t r q) e)
opened_way v w p o e h (unfit n q) = absurd (not_start opening v w n e)
opened_way v w p o e h (inside q d s) = s ∙ ap closed (h _ (moved e q d))
opened_way v w p o e h (unclosed {t} {r} q d n) = sym (not_closed t r n) ∙ ap closed (h _ (moved e q d))
opened_way v w p o e h (within q d) = ap closed (h _ (moved e q d))

-- ---- chains

-- how a chain goes on behind an operand
abbrev Next : (Tree → Task) → Outcome → Outcome → Type 0
Next task o broken = Unit {0}
Next task o (up_to t r) = Way (task t) r o

pub one_way : {task : Task} {w : List ℕ} {o p : Outcome} → Way task w o → Way task w p → o ≡ p
one_way (begins {k} d e) (begins {o} f g) = one_way e (subst (Next (onward k) o) (sym (one_way d f)) g)
one_way (begins d e) (fails f) = absurd (unlike (sym (one_way d f)))
one_way (fails d) (begins f g) = absurd (unlike (one_way d f))
one_way (fails d) (fails f) = refl
one_way (ends n) (ends m) = refl
one_way (ends n) (joins q f g) = absurd (not_start _ _ _ n q)
one_way (ends n) (lacks q f) = absurd (not_start _ _ _ n q)
one_way (joins q d e) (ends m) = absurd (not_start _ _ _ m q)
one_way (joins {k} {s} q d e) (joins {o} p f g) =
    one_way e (subst (Next (λ t. onward k (joined k s t)) o) (sym (one_way d (moved q p f))) g)
one_way (joins q d e) (lacks p f) = absurd (unlike (sym (one_way d (moved q p f))))
one_way (lacks q d) (ends m) = absurd (not_start _ _ _ m q)
one_way (lacks q d) (joins p f g) = absurd (unlike (one_way d (moved q p f)))
one_way (lacks q d) (lacks p f) = refl
one_way (plain {t} {w} {r} q s) f = s ∙ ap finished (sym q) ∙ sym (leaf_way (leaf_unopened w t r q) f)
one_way (unfit n q) f = ap finished (sym q) ∙ sym (leaf_way n f)
one_way (inside {t} {v} {w} {r} q d s) f = s ∙ sym (opened_way v w _ _ q (λ p g. sym (one_way d g)) f)
one_way (unclosed {t} {v} {w} {r} q d n) f = sym (opened_way v w _ _ q (λ p g. sym (one_way d g)) f ∙ not_closed t r n)
one_way (within {v} {w} q d) f = sym (opened_way v w _ _ q (λ p g. sym (one_way d g)) f)

-- ---- texts

pub one_tree : {w : List ℕ} {s t : Tree} → Reads choice w s → Reads choice w t → s ≡ t
one_tree {w} {s} {t} d e = let q = one_way (complete w s d) (complete w t e) in cc

pub one_reading : (w : List ℕ) (o p : Option Tree) → Reading w o → Reading w p → o ≡ p
one_reading w none none d e = refl
one_reading w none (some t) d e = absurd (d t e)
one_reading w (some s) none d e = absurd (e s d)
one_reading w (some s) (some t) d e = ap {B = Option Tree} some (one_tree d e)

pub way_reading : (w : List ℕ) (o : Outcome) → Way (chain choices) w o → Reading w (tree_of o)
way_reading w broken d = λ t e. unlike (one_way d (complete w t e))
way_reading w (up_to t []) d = let (u, q, e) = sound w t [] d in rw (q, append-nil u) e
way_reading w (up_to t (c ∷ r)) d = λ s e.
    let q = one_way d (complete w s e) in
    let h : c ∷ r ≡ [] = cc in
    cons≢nil h
