-- A row of sets, in which the members of a mask gain a set: one by one, and in the theory of positions. Assumes nothing.
use mathlib.Core.Path.{◌≡◌, refl, sym, ap, ap₂, ◌∙◌}
use mathlib.Core.Bool.{Bool, cond}
use mathlib.Core.List.{List}
use mathlib.Core.Logic.{◌≢◌, by_cases}
use Prim.Native.Nat.{ℕ, ◌-◌, ◌^◌, ◌<◌}
use native.Mathlib.Omega.{arith}
use native.Mathlib.Decide.{ℕ_discrete}
use lib.Bits.{bit_or, bit_and, bit_xor, or_zero_r, and_le_r, xor_lt}
use lib.Dec.{eqb}
use lib.ListN.{length, set, length-set}
use lib.Pow.{pow-lt}
use lib.Seq.{get_or-set_same, get_or-set_other}
use Rattle.masks.specs.Mask.{digit, In, has}
use Rattle.masks.proofs.Members.{digit_lt, digit_and, digit_xor, digit_none, digit_other, digit_self, in_all, in_has}
use Rattle.rows.specs.Rows.{row, place}
use Rattle.rows.proofs.Rows.{row_at, row_ext, row_places}
use Rattle.positions.specs.Making.{gains}

-- ---- members of a mask

same_test : (a b p : ℕ) → digit a p ≡ digit b p → has a p ≡ has b p
same_test a b p e = ap (λ (d : ℕ). eqb d 1) e

-- a member is taken out: the others stay
pub has_without : (m e p : ℕ) → p ≢ e → has (bit_xor m (2 ^ e)) p ≡ has m p
has_without m e p n = same_test (bit_xor m (2 ^ e)) m p (omega (arith, digit_xor m (2 ^ e) p, digit_other e p n, digit_lt m p))

has_not_self : (m e : ℕ) → In e m → has (bit_xor m (2 ^ e)) e ≡ has 0 e
has_not_self m e i = same_test (bit_xor m (2 ^ e)) 0 e (omega (arith, digit_xor m (2 ^ e) e, digit_self e, digit_none e))

-- those from 33 on are dropped: the lower ones stay
has_low : (m p : ℕ) → p < 33 → has (bit_and m (2 ^ 33 - 1)) p ≡ has m p
has_low m p h = same_test (bit_and m (2 ^ 33 - 1)) m p (omega (arith, digit_and m (2 ^ 33 - 1) p, (in_all 33 p).1 h, digit_lt m p))

none_gains : (f : ℕ → ℕ) (x p : ℕ) → gains f 0 x p ≡ f p
none_gains f x p = rw (digit_none p, or_zero_r)

-- ---- one member after the other

-- the sets are those of `old`, but for the members of m that are left
pub record Gaining (old : List ℕ) (m x left : ℕ) (sets : List ℕ) : Type 0 where
  pub few : left < 2 ^ 33
  pub places : length sets ≡ 33
  pub rest : (p : ℕ) → p < 33 → gains (place sets) left x p ≡ gains (place old) m x p

module _ (old : List ℕ) (m x : ℕ) where
  pub gaining_none : length old ≡ 33 → Gaining old m x (bit_and m (2 ^ 33 - 1)) old
  gaining_none h = record {
    few = omega (arith, and_le_r m (2 ^ 33 - 1));
    places = h;
    rest = λ p l. ap (λ (b : Bool). bit_or (place old p) (cond b x 0)) (has_low m p l);
  }

  pub gaining_more : (left e : ℕ) (sets : List ℕ) → Gaining old m x left sets → In e left → e < 33
      → Gaining old m x (bit_xor left (2 ^ e)) (set sets e (bit_or (place sets e) x))
  gaining_more left e sets g i h = record {
    few = xor_lt 33 left (2 ^ e) g.few (pow-lt h);
    places = length-set sets e _ ∙ g.places;
    rest = rest;
  }
    where
      rest : (p : ℕ) → p < 33 → gains (place (set sets e (bit_or (place sets e) x))) (bit_xor left (2 ^ e)) x p ≡ gains (place old) m x p
      rest p l =
          by_cases (ℕ_discrete p e)
          (λ q.
          rw q
          (ap₂ (λ (s : ℕ) (b : Bool). bit_or s (cond b x 0)) (get_or-set_same sets e (bit_or (place sets e) x) 0 (omega (arith, g.places))) (has_not_self left e i)
          ∙ none_gains (λ (k : ℕ). bit_or (place sets e) x) x e
          ∙ ap (λ (b : Bool). bit_or (place sets e) (cond b x 0)) (sym (in_has left e i)) ∙ g.rest e h))
          (λ n.
          ap₂ (λ (s : ℕ) (b : Bool). bit_or s (cond b x 0)) (get_or-set_other sets e p (bit_or (place sets e) x) 0 n) (has_without left e p n) ∙ g.rest p l)

  pub gaining_all : (sets : List ℕ) → Gaining old m x 0 sets → sets ≡ row 33 (gains (place old) m x)
  gaining_all sets g =
      sym (row_places 0 sets) ∙ ap (λ (n : ℕ). row n (place sets)) g.places
      ∙ row_ext (place sets) (gains (place old) m x) 33 (λ p l. sym (none_gains (place sets) x p) ∙ g.rest p l)

-- ---- the rows of the theory

-- the masks that an array keeps gain the set x
pub row_gains : (n : ℕ) (xs : List ℕ) (f g : ℕ → ℕ) (m k x y : ℕ) → xs ≡ row n f → m ≡ k → x ≡ y → ((p : ℕ) → g p ≡ gains f k y p) → row n (gains (place xs) m x) ≡ row n g
row_gains n xs f g m k x y e u v h =
    rw (e, u, v) (row_ext (gains (place (row n f)) k y) g n (λ p l. ap (λ (z : ℕ). bit_or z (cond (has k p) y 0)) (row_at f n p 0 l) ∙ sym (h p)))

-- or stay as they are
pub row_stays : (n : ℕ) (xs : List ℕ) (f g : ℕ → ℕ) (x : ℕ) → xs ≡ row n f → ((p : ℕ) → g p ≡ f p) → row n (gains (place xs) 0 x) ≡ row n g
row_stays n xs f g x e h = row_gains n xs f g 0 0 x x e refl refl (λ p. h p ∙ sym (none_gains f x p))
