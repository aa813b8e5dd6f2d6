-- The masks of a stack of operands, item by item: how positions are built while the items are read. No public promise speaks of
-- these definitions.
use Rattle.std.specs.Prelude.{Bool, true, ◌||◌, ◌&&◌, cond, List, [], ◌∷◌, ℕ, ◌+◌}
use Rattle.std.specs.Int.Bits.{bit_or}
use Rattle.expressions.specs.Expression.{Expression}
use Rattle.expressions.specs.Positions.{null, size, first, last, follow, holding}

-- the number of the next position: those of the newest operand are the last
abbrev pub free : List Expression → ℕ
free [] = 1
free (r ∷ st) = free st + size r

-- what an item needs to know of an operand
pub record Operand : Type 0 where
  pub null : Bool
  pub first : ℕ
  pub last : ℕ

-- of one whose positions are numbered from i on
abbrev pub operand_at : ℕ → Expression → Operand
operand_at i r = record { null = null r; first = first i r; last = last i r }

abbrev pub masks : List Expression → List Operand
masks [] = []
masks (r ∷ st) = operand_at (free st) r ∷ masks st

-- the positions that may follow p, in all the operands
abbrev pub follows : List Expression → ℕ → ℕ
follows [] p = 0
follows (r ∷ st) p = bit_or (follows st p) (follow (free st) r p)

-- the positions whose set holds the event e
abbrev pub holdings : List Expression → ℕ → ℕ
holdings [] e = 0
holdings (r ∷ st) e = bit_or (holdings st e) (holding (free st) r e)

-- sequence, choice and star
abbrev pub both_of : Operand → Operand → Operand
both_of r s = record {
  null = r.null && s.null;
  first = bit_or r.first (cond r.null s.first 0);
  last = bit_or (cond s.null r.last 0) s.last;
}

abbrev pub either_of : Operand → Operand → Operand
either_of r s = record { null = r.null || s.null; first = bit_or r.first s.first; last = bit_or r.last s.last }

abbrev pub many_of : Operand → Operand
many_of r = record { null = true; first = r.first; last = r.last }
