-- The members of a list by their places, and of a row; a value stored at a place. Assumes nothing.
use mathlib.Core.Path.{◌≡◌, refl, sym, ap}
use mathlib.Core.List.Memᴰ
use mathlib.Core.List.{List, [], ◌∷◌, Memᴰ}
use mathlib.Core.Logic.{⊎_elim, by_cases}
use Prim.Native.Nat.{ℕ, zero, suc, ◌<◌}
use native.Mathlib.Nat.{not-suc-le-zero, le_of_suc-le-suc}
use native.Mathlib.Decide.{ℕ_discrete}
use native.Mathlib.Omega.{arith}
use lib.ListN.{length, get_or, set}
use Rattle.rows.specs.Rows.{row}

module _ {A : Type 0} (d : A) where
  -- what stands at a place is a member, and each member stands at a place
  pub at_in : (l : List A) (i : ℕ) → i < length l → Memᴰ (get_or l i d) l
  at_in [] i h = absurd (not-suc-le-zero h)
  at_in (x ∷ l) zero h = Memᴰ.head refl
  at_in (x ∷ l) (suc i) h = Memᴰ.tail (at_in l i (le_of_suc-le-suc h))

  pub in_at : {x : A} {l : List A} → Memᴰ x l → (i : ℕ) × (i < length l) × (get_or l i d ≡ x)
  in_at (Memᴰ.head q) = (0, omega arith, sym q)
  in_at (Memᴰ.tail i) = let r = in_at i in (suc r.0, omega arith, r.2)

  -- what holds of each member, and of what stands past the end, holds at each place
  pub at_each : (P : A → Type 0) → P d → (l : List A) → ((a : A) → Memᴰ a l → P a) → (i : ℕ) → P (get_or l i d)
  at_each P z [] h i = z
  at_each P z (x ∷ l) h zero = h x (Memᴰ.head refl)
  at_each P z (x ∷ l) h (suc i) = at_each P z l (λ a m. h a (Memᴰ.tail m)) i

module _ {A : Type 0} (f : ℕ → A) where
  -- the members of a row
  pub in_row : (n : ℕ) {x : A} → Memᴰ x (row n f) → (i : ℕ) × (i < n) × (x ≡ f i)
  unfolding row
  in_row zero m = absurd (Memᴰ.not-nil m)
  in_row (suc n) m =
      ⊎_elim (λ l. let r = in_row n l in (r.0, omega arith, r.2)) (λ r. (n, omega arith, Memᴰ.eq_of_singleton r)) (Memᴰ.append_cases (row n f) m)

  pub row_in : (n i : ℕ) → i < n → Memᴰ (f i) (row n f)
  unfolding row
  row_in zero i h = absurd (omega arith)
  row_in (suc n) i h =
      by_cases (ℕ_discrete i n) (λ e. Memᴰ.append_right (row n f) (Memᴰ.head (ap f e))) (λ o. Memᴰ.append_left (f n ∷ []) (row_in n i (omega arith)))

-- what holds at each place, and of a value, holds at each place once the value is stored
pub set_each : {A : Type 0} (P : ℕ → A → Type 0) (d : A) (l : List A) (k : ℕ) (v : A) → ((n : ℕ) → P n (get_or l n d)) → P k v
    → (n : ℕ) → P n (get_or (set l k v) n d)
set_each P d [] k v old new n = old n
set_each P d (x ∷ l) zero v old new zero = new
set_each P d (x ∷ l) zero v old new (suc n) = old (suc n)
set_each P d (x ∷ l) (suc k) v old new zero = old zero
set_each P d (x ∷ l) (suc k) v old new (suc n) = set_each (λ i. P (suc i)) d l k v (λ i. old (suc i)) new n
