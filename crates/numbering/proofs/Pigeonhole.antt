-- The pigeonhole: numbers below n that go to numbers below m, no two to the same, are at most m.
use mathlib.Core.Path.{◌≡◌, sym, ◌∙◌}
use mathlib.Core.Bool.{cond}
use mathlib.Core.Logic.{◌⊎◌, inl, inr, by_cases, ◌≢◌}
use Prim.Native.Nat.{ℕ, zero, suc, ◌<◌, ◌≤◌}
use native.Mathlib.Omega.{arith}
use native.Mathlib.Decide.{ℕ_discrete}
use borrow.Author.Tests.{eq-eqb, ne_eqb}
use lib.Dec.{eqb}

module _ (f : ℕ → ℕ) (m n : ℕ) where
  -- f, but where it gives m, the value at n instead
  abbrev without : ℕ → ℕ
  without i = cond (eqb (f i) m) (f n) (f i)

  abbrev Cases : ℕ → Type 0
  Cases i = ((f i ≡ m) × (without i ≡ f n)) ⊎ ((f i ≢ m) × (without i ≡ f i))

  cases : (i : ℕ) → Cases i
  cases i = by_cases (ℕ_discrete (f i) m) (λ e. inl (e, rw (eq-eqb (f i) m e))) (λ e. inr (e, rw (ne_eqb (f i) m e)))

-- f sends numbers below n to numbers below m
abbrev pub Below : ℕ → ℕ → (ℕ → ℕ) → Type 0
Below n m f = (i : ℕ) → i < n → f i < m

-- f sends no two numbers below n to the same
abbrev pub Apart : ℕ → (ℕ → ℕ) → Type 0
Apart n f = (i j : ℕ) → i < n → j < n → f i ≡ f j → i ≡ j

without_below : (n m : ℕ) (f : ℕ → ℕ) → Below (suc n) (suc m) f → Apart (suc n) f → Below n m (without f m n)
without_below n m f below apart i h = go (cases f m n i)
  where
    go : Cases f m n i → without f m n i < m
    go (inl c) =
        by_cases (ℕ_discrete (f n) m) (λ e. absurd (omega (arith, apart i n (omega arith) (omega arith) (c.0 ∙ sym e))))
        (λ e. omega (arith, c.1, below n (omega arith)))
    go (inr c) = omega (arith, c.0, c.1, below i (omega arith))

without_apart : (n m : ℕ) (f : ℕ → ℕ) → Apart (suc n) f → Apart n (without f m n)
without_apart n m f apart i j a b e = go (cases f m n i) (cases f m n j)
  where
    go : Cases f m n i → Cases f m n j → i ≡ j
    go (inl c) (inl d) = apart i j (omega arith) (omega arith) (c.0 ∙ sym d.0)
    go (inl c) (inr d) = absurd (omega (arith, apart n j (omega arith) (omega arith) (sym c.1 ∙ e ∙ d.1)))
    go (inr c) (inl d) = absurd (omega (arith, apart i n (omega arith) (omega arith) (sym c.1 ∙ e ∙ d.1)))
    go (inr c) (inr d) = apart i j (omega arith) (omega arith) (sym c.1 ∙ e ∙ d.1)

pub pigeonhole : (n m : ℕ) (f : ℕ → ℕ) → Below n m f → Apart n f → n ≤ m
pigeonhole zero m f below apart = omega arith
pigeonhole (suc n) zero f below apart = absurd (omega (arith, below 0 (omega arith)))
pigeonhole (suc n) (suc m) f below apart =
    omega (arith, pigeonhole n m (without f m n) (without_below n m f below apart) (without_apart n m f apart))
