-- Patterns from their items, for tables of patterns and their answers.
use mathlib.Core.List.{List, [], ◌∷◌}
use Prim.Native.Nat.{ℕ, zero, suc, ◌+◌, ◌-◌, ◌^◌}
use Rattle.plan.proofs.Cases.{Fields}

-- a kind alone
abbrev pub kind : ℕ → Fields
kind k = (k, 3) ∷ []

-- the field of the events of a set: event 1 is the first of 31 bits
abbrev ones : List ℕ → ℕ
ones [] = 0
ones (zero ∷ es) = ones es
ones (suc e ∷ es) = 2 ^ (30 - e) + ones es

abbrev pub one : List ℕ → Fields
one es = (1, 3) ∷ (ones es, 31) ∷ []

abbrev pub empty : Fields
empty = kind 0

abbrev pub sequence : Fields
sequence = kind 2

abbrev pub choice : Fields
choice = kind 3

abbrev pub repeat : Fields
repeat = kind 4
