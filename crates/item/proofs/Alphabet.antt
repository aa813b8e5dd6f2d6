-- Refusal 12 in words: a set has no event outside the alphabet just where each of its events is one of the alphabet. Assumes nothing.
use mathlib.Core.Path.{◌≡◌}
use mathlib.Core.Bool.{false}
use mathlib.Core.Logic.{◌↔◌}
use Prim.Native.Nat.{ℕ}
use borrow.Author.Tests.{eqb-true, eq-eqb, not-false}
use Rattle.masks.specs.Mask.{Sub}
use Rattle.masks.proofs.Sets.{and_whole}
use Rattle.item.specs.Faults.{strange}

pub not_strange : (alphabet m : ℕ) → (strange alphabet m ≡ false) ↔ Sub m alphabet
not_strange alphabet m = (λ e. (and_whole m alphabet).0 (eqb-true _ _ (not-false _ e)), λ h. rw (eq-eqb _ _ ((and_whole m alphabet).1 h)))
