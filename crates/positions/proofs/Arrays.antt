-- The operands in an array, as a stack. Assumes nothing.
use mathlib.Core.Path.{◌≡◌, refl, sym, ap, ap₂, ◌∙◌}
use mathlib.Core.List.{List, [], ◌∷◌}
use Prim.Native.Nat.{ℕ, zero, suc, ◌+◌, ◌≤◌, ◌<◌}
use native.Mathlib.Numerals.{add-one}
use native.Mathlib.Omega.{arith}
use lib.ListN.{length, get_or, set, drop}
use lib.Seq.{get_or-set_same, get_or-set_other}
use Rattle.expressions.specs.Stack.{Operand as Masks}
use Rattle.positions.specs.declared.Operand.{Operand}
use Rattle.positions.specs.Making.{nothing, operand_of}

-- the first n operands of an array, the newest first
unfoldable pub listed : List Operand → ℕ → List Masks
listed xs zero = []
listed xs (suc n) = operand_of (get_or xs n nothing) ∷ listed xs n

pub listed_none : (xs : List Operand) → listed xs 0 ≡ []
unfolding listed
listed_none xs = refl

-- a store at or above n changes nothing below
listed_above : (xs : List Operand) (i n : ℕ) (o : Operand) → n ≤ i → listed (set xs i o) n ≡ listed xs n
unfolding listed
listed_above xs i zero o h = refl
listed_above xs i (suc n) o h =
    ap₂ (λ x l. operand_of x ∷ l) (get_or-set_other xs i n o nothing (λ e. omega arith)) (listed_above xs i n o (omega arith))

pub listed_push : (xs : List Operand) (n : ℕ) (o : Operand) → n < length xs → listed (set xs n o) (n + 1) ≡ operand_of o ∷ listed xs n
unfolding listed
listed_push xs n o h =
    ap (listed (set xs n o)) (add-one n)
    ∙ ap₂ (λ x l. operand_of x ∷ l) (get_or-set_same xs n o nothing h) (listed_above xs n n o (omega arith))

-- the newest operand and those below it
pub listed_top : (xs : List Operand) (n k : ℕ) (m : Masks) (l : List Masks) → n ≡ suc k → listed xs n ≡ m ∷ l → (operand_of (get_or xs k nothing) ≡ m) × (listed xs k ≡ l)
unfolding listed
listed_top xs n k m l h e =
    let t : operand_of (get_or xs k nothing) ∷ listed xs k ≡ m ∷ l = ap (listed xs) (sym h) ∙ e in
    (ap (λ (x : List Masks). get_or x 0 (operand_of nothing)) t, ap (drop 1) t)

pub listed_length : (xs : List Operand) (n : ℕ) → length (listed xs n) ≡ n
unfolding listed
listed_length xs zero = refl
listed_length xs (suc n) = ap suc (listed_length xs n)
