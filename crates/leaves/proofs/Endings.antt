-- Where a letter, the empty string or a set ends, by the byte at a place.
use mathlib.Core.Path.{◌≡◌, refl, sym, ap, ◌∙◌}
use mathlib.Core.Bool.{Bool, true, false, cond}
use mathlib.Core.List.{List, [], ◌∷◌}
use Prim.Native.Nat.{ℕ, ◌+◌, ◌<◌}
use native.Mathlib.Omega.{arith}
use lib.ListN.{length, drop}
use Rattle.std.specs.Prelude.{Option, None, Some}
use Rattle.rows.specs.Rows.{place}
use Rattle.grammar.specs.Grammar.{Tree, one_of, noneOf, closing_set, caret}
use Rattle.grammar.specs.Ways.{Outcome, broken, up_to, starts_with, is_letter, event_of, letters, past_letters, listing, in_set, leaf}
use Rattle.leaves.specs.Ends.{Ends}
use Rattle.leaves.proofs.Bytes.{from_here, starts_cons}

-- ---- the same outcome from a place before

pub ends_before : (o : Outcome) (l : List ℕ) (i : ℕ) (r : Option ℕ) → Ends o l (i + 1) r → Ends o l i r
ends_before o l i None h = h
ends_before o l i (Some n) (t, e, further, within) = (t, e, omega arith, within)

-- ---- sets

closed : (b : Bool) (t : Tree) (r r' : List ℕ) → b ≡ true → r ≡ r' → cond b (up_to t r) broken ≡ up_to t r'
closed b t r r' e q = rw (e, q) refl

pub listing_next : (tree : List ℕ → Tree) (w l : List ℕ) (n : ℕ) → drop n l ≡ past_letters w → starts_with closing_set (drop n l) ≡ true
    → listing tree w ≡ up_to (tree (letters w)) (drop (n + 1) l)
listing_next tree w l n e q =
    closed (starts_with closing_set (past_letters w)) (tree (letters w)) (drop 1 (past_letters w)) (drop (n + 1) l)
    (ap (starts_with closing_set) (sym e) ∙ q)
    (ap (drop 1) (sym e ∙ starts_cons closing_set l n q))

pub set_caret : (l : List ℕ) (i : ℕ) → starts_with caret (drop i l) ≡ true → in_set (drop i l) ≡ listing noneOf (drop (i + 1) l)
set_caret l i q =
    ap (λ (b : Bool). cond b (listing noneOf (drop 1 (drop i l))) (listing one_of (drop i l))) q
    ∙ ap (λ (w : List ℕ). listing noneOf (drop 1 w)) (starts_cons caret l i q)

pub set_plain : (w : List ℕ) → starts_with caret w ≡ false → in_set w ≡ listing one_of w
set_plain w q = ap (λ (b : Bool). cond b (listing noneOf (drop 1 w)) (listing one_of w)) q

-- ---- a letter

pub leaf_letter : (l : List ℕ) (i : ℕ) → i < length l → is_letter (place l i) ≡ true
    → leaf (drop i l) ≡ up_to (one_of (event_of (place l i) ∷ [])) (drop (i + 1) l)
leaf_letter l i h e = ap leaf (from_here l i h) ∙ rw e refl
