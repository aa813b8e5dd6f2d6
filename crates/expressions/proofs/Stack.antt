-- How each item changes the masks of a stack of operands.
use mathlib.Core.Path.{◌≡◌, refl}
use mathlib.Core.Bool.{cond}
use mathlib.Core.List.{List, [], ◌∷◌}
use Prim.Native.Nat.{ℕ, ◌+◌, ◌^◌}
use native.Mathlib.Nat.{add-zero}
use native.Mathlib.Omega.{arith}
use lib.Bits.{bit_or, or_zero_r}
use Rattle.masks.specs.Mask.{has}
use Rattle.expressions.specs.Expression.{Expression}
use Rattle.expressions.specs.Items.{empty, events, sequence, choice, repeat, push}
use Rattle.expressions.specs.Positions.{size, first, last, holding}
use Rattle.masks.proofs.Choices.{or_assoc}
use Rattle.expressions.specs.Stack.{free, follows, holdings}

-- ---- the empty string

module _ (st : List Expression) where
  pub free_empty : free (push empty st) ≡ free st
  free_empty = add-zero (free st)

  pub follows_empty : (p : ℕ) → follows (push empty st) p ≡ follows st p
  follows_empty p = or_zero_r (follows st p)

  pub holdings_empty : (e : ℕ) → holdings (push empty st) e ≡ holdings st e
  holdings_empty e = or_zero_r (holdings st e)

-- ---- one event of a set: one position more

module _ (m : ℕ) (st : List Expression) where
  pub follows_events : (p : ℕ) → follows (push (events m) st) p ≡ follows st p
  follows_events p = or_zero_r (follows st p)

  pub holdings_events : (e : ℕ) → holdings (push (events m) st) e ≡ bit_or (holdings st e) (cond (has m e) (2 ^ free st) 0)
  holdings_events e = refl

-- ---- sequence: what begins the newer operand may follow what ends the older

module _ (s r : Expression) (st : List Expression) where
  pub free_sequence : free (push sequence (s ∷ r ∷ st)) ≡ free (s ∷ r ∷ st)
  free_sequence = omega arith

  pub follows_sequence : (p : ℕ)
      → follows (push sequence (s ∷ r ∷ st)) p
      ≡ bit_or (follows (s ∷ r ∷ st) p) (cond (has (last (free st) r) p) (first (free st + size r) s) 0)
  follows_sequence p = simp or_assoc

  pub holdings_sequence : (e : ℕ) → holdings (push sequence (s ∷ r ∷ st)) e ≡ holdings (s ∷ r ∷ st) e
  holdings_sequence e = simp or_assoc

-- ---- choice

module _ (s r : Expression) (st : List Expression) where
  pub free_choice : free (push choice (s ∷ r ∷ st)) ≡ free (s ∷ r ∷ st)
  free_choice = omega arith

  pub follows_choice : (p : ℕ) → follows (push choice (s ∷ r ∷ st)) p ≡ follows (s ∷ r ∷ st) p
  follows_choice p = simp or_assoc

  pub holdings_choice : (e : ℕ) → holdings (push choice (s ∷ r ∷ st)) e ≡ holdings (s ∷ r ∷ st) e
  holdings_choice e = simp or_assoc

-- ---- star: what begins the operand may follow what ends it

module _ (r : Expression) (st : List Expression) where
  pub follows_repeat : (p : ℕ)
      → follows (push repeat (r ∷ st)) p
      ≡ bit_or (follows (r ∷ st) p) (cond (has (last (free st) r) p) (first (free st) r) 0)
  follows_repeat p = simp or_assoc

-- ---- a single operand

pub holdings_one : (r : Expression) (e : ℕ) → holdings (r ∷ []) e ≡ holding 1 r e
holdings_one r e = refl
