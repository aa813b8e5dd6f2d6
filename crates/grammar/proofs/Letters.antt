-- The letters of a text are those of its tree, in their order.
use mathlib.Core.Path.{◌≡◌, refl, sym, ap, ◌∙◌}
use mathlib.Core.Bool.{Bool, true, false, cond}
use mathlib.Core.List.{List, [], ◌∷◌, ◌++◌, map, append-nil}
use Prim.Native.Nat.{ℕ}
use Rattle.grammar.specs.Grammar.{Tree, Part, Reads, alone, bars, single, semicolons, zero, lone, set, rest, brackets, star, letter, AllLettered, semicolon, bar, asterisk, closing, closing_set}
use Rattle.grammar.specs.Meaning.{letters_of}
use Rattle.grammar.specs.Ways.{is_letter, event_of, typed_letters}
use Rattle.grammar.proofs.Leaves.{is_letter_lem, event_letter}

pub typed_append : (u v : List ℕ) → typed_letters (u ++ v) ≡ typed_letters u ++ typed_letters v
unfolding typed_letters
typed_append [] v = refl
typed_append (c ∷ u) v = go (is_letter c) (typed_append u v)
  where
    go : (b : Bool) → typed_letters (u ++ v) ≡ typed_letters u ++ typed_letters v
        → cond b (event_of c ∷ typed_letters (u ++ v)) (typed_letters (u ++ v)) ≡ cond b (event_of c ∷ typed_letters u) (typed_letters u) ++ typed_letters v
    go true ih = ap (λ (es : List ℕ). event_of c ∷ es) ih
    go false ih = ih

pub typed_listed : (es : List ℕ) → AllLettered es → typed_letters (map letter es) ≡ es
unfolding typed_letters
typed_listed [] h = refl
typed_listed (e ∷ es) h = rw (is_letter_lem e h.0, event_letter e, typed_listed es h.1) refl

pub reads_letters : {p : Part} {w : List ℕ} {t : Tree} → Reads p w t → letters_of t ≡ typed_letters w
unfolding letters_of typed_letters
reads_letters (alone d) = reads_letters d
reads_letters (bars {u} {v} d e q) = rw (q, typed_append u (bar ∷ v), reads_letters d, reads_letters e) refl
reads_letters (single d) = reads_letters d
reads_letters (semicolons {u} {v} d e q) = rw (q, typed_append u (semicolon ∷ v), reads_letters d, reads_letters e) refl
reads_letters (zero q) = rw q refl
reads_letters (lone {e} h q) = rw q (sym (typed_listed (e ∷ []) (h, tt)))
reads_letters (set {es} h q) = rw (q, typed_append (map letter es) (closing_set ∷ []), typed_listed es h) (sym (append-nil es))
reads_letters (rest {es} h q) = rw (q, typed_append (map letter es) (closing_set ∷ []), typed_listed es h) (sym (append-nil es))
reads_letters (brackets {u} d q) = rw (q, typed_append u (closing ∷ [])) (reads_letters d ∙ sym (append-nil (typed_letters u)))
reads_letters (star {u} d q) = rw (q, typed_append u (asterisk ∷ [])) (reads_letters d ∙ sym (append-nil (typed_letters u)))
