-- Letters from a place of a text on, as a set and one by one.
use mathlib.Core.Path.{◌≡◌, refl, sym, ap, ◌∙◌}
use mathlib.Core.Bool.{Bool, true, false, ◌||◌, or-false}
use mathlib.Core.List.{List, [], ◌∷◌}
use Prim.Native.Nat.{ℕ, ◌+◌, ◌^◌, ◌<◌}
use lib.Bits.{bit_or, or_zero_r}
use lib.ListN.{length, drop}
use Rattle.std.specs.List.{list_any}
use Rattle.masks.proofs.Choices.{or_assoc}
use Rattle.rows.specs.Rows.{place}
use Rattle.expressions.specs.declared.Item.TheVariants.{Events}
use Rattle.plan.specs.Checks.{any, any_from}
use Rattle.plan.proofs.Tests.{any_both}
use Rattle.grammar.specs.Meaning.{listed}
use Rattle.grammar.specs.Ways.{is_letter, starts_with_letter, event_of, letters, item_from, typed_letters}
use Rattle.grammar.proofs.Letters.{typed_append}
use Rattle.leaves.proofs.Bytes.{from_here}

-- ---- the set of the letters from a place on

letters_letter : (c : ℕ) (w : List ℕ) → is_letter c ≡ true → letters (c ∷ w) ≡ event_of c ∷ letters w
unfolding letters
letters_letter c w e = rw e

letters_none : (w : List ℕ) → starts_with_letter w ≡ false → letters w ≡ []
unfolding letters
letters_none [] e = refl
letters_none (c ∷ w) e = rw e

pub listed_single : (e : ℕ) → listed (e ∷ []) ≡ 2 ^ e
unfolding listed
listed_single e = or_zero_r (2 ^ e)

-- the item of a letter
pub item_letter : (a : ℕ) (l : List ℕ) (i : ℕ) → i < length l → is_letter (place l i) ≡ true → item_from a (drop i l) ≡ Events (2 ^ event_of (place l i))
item_letter a l i h e = ap (item_from a) (from_here l i h) ∙ rw e (ap Events (listed_single (event_of (place l i))))

-- one letter more is taken
pub listed_turn : (set : ℕ) (l : List ℕ) (i : ℕ) → i < length l → is_letter (place l i) ≡ true
    → bit_or set (listed (letters (drop i l))) ≡ bit_or (bit_or set (2 ^ event_of (place l i))) (listed (letters (drop (i + 1) l)))
unfolding listed
listed_turn set l i h e =
    ap (λ (w : List ℕ). bit_or set (listed (letters w))) (from_here l i h)
    ∙ ap (λ (es : List ℕ). bit_or set (listed es)) (letters_letter (place l i) (drop (i + 1) l) e)
    ∙ sym (or_assoc set (2 ^ event_of (place l i)) (listed (letters (drop (i + 1) l))))

-- none is left
pub listed_end : (set : ℕ) (w : List ℕ) → starts_with_letter w ≡ false → bit_or set (listed (letters w)) ≡ set
unfolding listed
listed_end set w e = ap (λ (es : List ℕ). bit_or set (listed es)) (letters_none w e) ∙ or_zero_r set

-- ---- a test of each letter

module _ (test : ℕ → Bool) where
  pub any_letter : (c : ℕ) → is_letter c ≡ true → any test (typed_letters (c ∷ [])) ≡ test (event_of c)
  unfolding typed_letters any_from
  any_letter c e = rw e (or-false (test (event_of c)))

  pub any_other : (c : ℕ) → is_letter c ≡ false → any test (typed_letters (c ∷ [])) ≡ false
  unfolding typed_letters any_from
  any_other c e = rw e

  -- each byte is tested
  pub any_each : (l : List ℕ) → list_any (λ c. any test (typed_letters (c ∷ []))) l ≡ any test (typed_letters l)
  unfolding typed_letters any_from
  any_each [] = refl
  any_each (c ∷ l) =
      ap (λ (b : Bool). any test (typed_letters (c ∷ [])) || b) (any_each l)
      ∙ sym (any_both test (typed_letters (c ∷ [])) (typed_letters l))
      ∙ ap (any test) (sym (typed_append (c ∷ []) l))
