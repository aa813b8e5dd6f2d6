-- Laws of rows and of padded arrays. Assumes nothing.
use mathlib.Core.Path.{◌≡◌, refl, sym, ap, ap₂, ◌∙◌, fun_ext}
use mathlib.Core.List.{List, [], ◌∷◌, ◌++◌, map, append-nil}
use mathlib.Core.Logic.{by_cases}
use Prim.Native.Nat.{ℕ, zero, suc, ◌+◌, ◌-◌, ◌≤◌, ◌<◌}
use native.Mathlib.Numerals.{add-one}
use native.Mathlib.Omega.{arith}
use native.Mathlib.Decide.{ℕ_discrete}
use lib.ListN.{length, get_or, set, take, replicate, length-append, length-replicate, get_or-append, get_or-map}
use lib.Seq.{set_at, append_snoc, get_or_at, take-suc, take-length}
use Rattle.rows.specs.Rows.{row, padded, place}

-- ---- rows

module _ {A : Type 0} (f : ℕ → A) where
  pub row_length : (n : ℕ) → length (row n f) ≡ n
  unfolding row
  row_length zero = refl
  row_length (suc n) = rw (length-append, row_length n) (omega arith)

  pub row_more : (n : ℕ) → row (n + 1) f ≡ row n f ++ (f n ∷ [])
  unfolding row
  row_more n = rw (add-one n)

pub map_append : {A B : Type 0} (g : A → B) (xs ys : List A) → map g (xs ++ ys) ≡ map g xs ++ map g ys
map_append g [] ys = refl
map_append g (x ∷ xs) ys = ap (λ l. g x ∷ l) (map_append g xs ys)

pub map_row : {A B : Type 0} (g : A → B) (f : ℕ → A) (n : ℕ) → map g (row n f) ≡ row n (λ i. g (f i))
unfolding row
map_row g f zero = refl
map_row g f (suc n) = map_append g (row n f) (f n ∷ []) ∙ ap (λ l. l ++ (g (f n) ∷ [])) (map_row g f n)

-- ---- padded arrays

-- one place more is filled
pub padded_push : (n : ℕ) (xs : List ℕ) (i v : ℕ) → length xs ≡ i → i < n → set (padded n xs) i v ≡ padded n (xs ++ (v ∷ []))
unfolding padded
padded_push n xs i v e h =
    let k : n - length xs ≡ suc (n - suc i) = omega arith in
    let m : n - length (xs ++ (v ∷ [])) ≡ n - suc i = rw length-append (omega arith) in
    rw (k, m) (set_at xs 0 (replicate (n - suc i) 0) v i e ∙ sym (append_snoc xs v (replicate (n - suc i) 0)))

-- an array that is filled from the front with a row of numbers
pub padded_row_more : (size : ℕ) (f : ℕ → ℕ) (i v : ℕ) → i < size → v ≡ f i → set (padded size (row i f)) i v ≡ padded size (row (i + 1) f)
padded_row_more size f i v h e =
    padded_push size (row i f) i v (row_length f i) h ∙ ap (λ x. padded size (row i f ++ (x ∷ []))) e ∙ ap (padded size) (sym (row_more f i))

-- the same with a field of each record of a row
pub column_more : {A : Type 0} (size : ℕ) (g : A → ℕ) (f : ℕ → A) (i v : ℕ) → i < size → v ≡ g (f i)
    → set (padded size (map g (row i f))) i v ≡ padded size (map g (row (i + 1) f))
column_more size g f i v h e = rw (map_row g f i, map_row g f (i + 1)) (padded_row_more size (λ k. g (f k)) i v h e)

-- ---- places of a padded array

pub zeros_at : (n i : ℕ) → place (replicate n 0) i ≡ 0
zeros_at zero i = refl
zeros_at (suc n) zero = refl
zeros_at (suc n) (suc i) = zeros_at n i

append_zeros_at : (xs : List ℕ) (k i : ℕ) → place (xs ++ replicate k 0) i ≡ place xs i
append_zeros_at [] k i = zeros_at k i
append_zeros_at (x ∷ xs) k zero = refl
append_zeros_at (x ∷ xs) k (suc i) = append_zeros_at xs k i

-- behind the list stand zeros, as past its end
pub padded_places : (n : ℕ) (xs : List ℕ) → place (padded n xs) ≡ place xs
unfolding padded
padded_places n xs = fun_ext (λ i. append_zeros_at xs (n - length xs) i)

-- a field of the record i, from its column
pub column_at : {A : Type 0} (n : ℕ) (g : A → ℕ) (d : A) → g d ≡ 0 → (l : List A) (i : ℕ) → place (padded n (map g l)) i ≡ g (get_or l i d)
column_at n g d e l i =
    ap (λ (f : ℕ → ℕ). f i) (padded_places n (map g l)) ∙ ap (get_or (map g l) i) (sym e) ∙ get_or-map g l i d

-- ---- rows and lists

pub row_ext : {A : Type 0} (f g : ℕ → A) (n : ℕ) → ((i : ℕ) → i < n → f i ≡ g i) → row n f ≡ row n g
unfolding row
row_ext f g zero h = refl
row_ext f g (suc n) h = ap₂ (λ xs x. xs ++ (x ∷ [])) (row_ext f g n (λ i l. h i (omega arith))) (h n (omega arith))

pub row_take : {A : Type 0} (d : A) (l : List A) (n : ℕ) → n ≤ length l → row n (λ i. get_or l i d) ≡ take n l
unfolding row
row_take d l zero h = refl
row_take d l (suc n) h = rw (take-suc l n d h) (ap (λ xs. xs ++ (get_or l n d ∷ [])) (row_take d l n (omega arith)))

-- a list is the row of its places
pub row_places : {A : Type 0} (d : A) (l : List A) → row (length l) (λ i. get_or l i d) ≡ l
row_places d l = row_take d l (length l) (omega arith) ∙ take-length l

-- a place of a row
pub row_at : {A : Type 0} (f : ℕ → A) (n i : ℕ) (d : A) → i < n → get_or (row n f) i d ≡ f i
unfolding row
row_at f zero i d h = absurd (omega arith)
row_at f (suc n) i d h =
    by_cases (ℕ_discrete i n) (λ e. rw e (get_or_at (row n f) (f n) [] d n (row_length f n)))
    (λ o. get_or-append (row n f) (f n ∷ []) d i (omega (arith, row_length f n)) ∙ row_at f n i d (omega arith))

pub padded_length : (n : ℕ) (l : List ℕ) → length l ≤ n → length (padded n l) ≡ n
unfolding padded
padded_length n l h = length-append l (replicate (n - length l) 0) ∙ omega (arith, length-replicate {A = ℕ} (n - length l) 0)

-- a full array has nothing behind
pub padded_full : (n : ℕ) (f : ℕ → ℕ) → padded n (row n f) ≡ row n f
unfolding padded
padded_full n f =
    let z : n - length (row n f) ≡ 0 = omega (arith, row_length f n) in
    rw z (append-nil (row n f))
