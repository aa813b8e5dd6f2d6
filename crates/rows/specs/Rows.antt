-- Lists by the numbers of their places: rows, and the arrays in which the code keeps lists.
use Rattle.std.specs.Prelude.{ℕ, zero, suc, ◌-◌, List, [], ◌∷◌, ◌++◌, length, get_or, replicate}

-- f 0, f 1, .. , n of them
unfoldable pub row : {A : Type 0} → ℕ → (ℕ → A) → List A
row zero f = []
row (suc n) f = row n f ++ (f n ∷ [])

-- an array of n places that begins with xs, with 0 in the places behind
unfoldable pub padded : ℕ → List ℕ → List ℕ
padded n xs = xs ++ replicate (n - length xs) 0

-- what stands at a place, and 0 past the end
abbrev pub place : List ℕ → ℕ → ℕ
place xs i = get_or xs i 0

-- what stands in a table of rows, in row s at place e
abbrev pub cell : List (List ℕ) → ℕ → ℕ → ℕ
cell table s e = place (get_or table s []) e
