-- The bytes of a text from a place on.
use mathlib.Core.Path.{◌≡◌, refl, sym, ap, ◌∙◌}
use mathlib.Core.Bool.{true, false, true≢false}
use mathlib.Core.List.{List, [], ◌∷◌}
use Prim.Native.Nat.{ℕ, suc, ◌+◌, ◌≤◌, ◌<◌}
use native.Mathlib.Nat.{lt_of_not-le}
use native.Mathlib.Omega.{arith}
use borrow.Author.Tests.{eqb-true}
use lib.Dec.{eqb}
use lib.ListN.{length, drop, drop_of_length-le}
use lib.Seq.{drop-cons}
use Rattle.rows.specs.Rows.{place}
use Rattle.grammar.specs.Ways.{starts_with, is_letter, starts_with_letter, past_letters}

-- ---- the byte at a place

pub from_here : (l : List ℕ) (i : ℕ) → i < length l → drop i l ≡ place l i ∷ drop (i + 1) l
from_here l i h =
    let e : suc i ≡ i + 1 = omega arith in
    drop-cons l i 0 h ∙ ap (λ (n : ℕ). place l i ∷ drop n l) e

pub starts_at : (b : ℕ) (l : List ℕ) (i : ℕ) → i < length l → eqb (place l i) b ≡ starts_with b (drop i l)
starts_at b l i h = sym (ap (starts_with b) (drop-cons l i 0 h))

pub starts_past : (b : ℕ) (l : List ℕ) (i : ℕ) → length l ≤ i → false ≡ starts_with b (drop i l)
starts_past b l i h = sym (ap (starts_with b) (drop_of_length-le l h))

pub letter_at : (l : List ℕ) (i : ℕ) → i < length l → is_letter (place l i) ≡ starts_with_letter (drop i l)
letter_at l i h = sym (ap starts_with_letter (drop-cons l i 0 h))

pub letter_past : (l : List ℕ) (i : ℕ) → length l ≤ i → false ≡ starts_with_letter (drop i l)
letter_past l i h = sym (ap starts_with_letter (drop_of_length-le l h))

-- where something stands at a place, the place is in the text
pub starts_within : (b : ℕ) (l : List ℕ) (i : ℕ) → starts_with b (drop i l) ≡ true → i < length l
starts_within b l i e = lt_of_not-le (λ h. true≢false (sym e ∙ sym (starts_past b l i h)))

pub starts_cons : (b : ℕ) (l : List ℕ) (i : ℕ) → starts_with b (drop i l) ≡ true → drop i l ≡ b ∷ drop (i + 1) l
starts_cons b l i e =
    let h = starts_within b l i e in
    from_here l i h ∙ ap (λ (x : ℕ). x ∷ drop (i + 1) l) (eqb-true (place l i) b (starts_at b l i h ∙ e))

pub letter_within : (l : List ℕ) (i : ℕ) → starts_with_letter (drop i l) ≡ true → i < length l
letter_within l i e = lt_of_not-le (λ h. true≢false (sym e ∙ sym (letter_past l i h)))

-- ---- letters from a place on

past_letter : (c : ℕ) (w : List ℕ) → is_letter c ≡ true → past_letters (c ∷ w) ≡ past_letters w
unfolding past_letters
past_letter c w e = rw e

pub past_more : (l : List ℕ) (i : ℕ) → starts_with_letter (drop i l) ≡ true → past_letters (drop (i + 1) l) ≡ past_letters (drop i l)
past_more l i e =
    let h = letter_within l i e in
    sym (ap past_letters (from_here l i h) ∙ past_letter (place l i) (drop (i + 1) l) (letter_at l i h ∙ e))

pub past_none : (w : List ℕ) → starts_with_letter w ≡ false → past_letters w ≡ w
unfolding past_letters
past_none [] e = refl
past_none (c ∷ w) e = rw e
