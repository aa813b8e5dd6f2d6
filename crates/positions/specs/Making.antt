-- What the code makes of one item. No public promise speaks of it.
use Rattle.std.specs.Prelude.{false, true, cond, ℕ}
use Rattle.std.specs.Int.Bits.{bit_or}
use Rattle.masks.specs.Mask.{has}
use Rattle.expressions.specs.declared.Item.{Item}
use Rattle.expressions.specs.declared.Item.TheVariants.{Empty as empty, Events as events, Sequence as sequence, Choice as choice, Repeat as repeat}
use Rattle.expressions.specs.Stack.{Operand as Masks, both_of, either_of, many_of}
use Rattle.positions.specs.declared.Operand.{Operand}
use Rattle.positions.specs.declared.Made.{Made}

-- ---- the operand

-- what stands past the end of an array
abbrev pub nothing : Operand
nothing = record { null = false; first = 0; last = 0 }

-- an operand as the theory of positions has it
abbrev pub operand_of : Operand → Masks
operand_of o = record { null = o.null; first = o.first; last = o.last }

-- the operand o; `begins` may follow `ends`; and `size` new positions hold the events m
abbrev pub making : Masks → ℕ → ℕ → ℕ → ℕ → Made
making o ends begins m size = record { null = o.null; first = o.first; last = o.last; ends = ends; begins = begins; events = m; size = size }

-- what an item makes; a new position has the weight `at`. Of one operand it is the older, of none neither
abbrev pub made : Item → ℕ → Operand → Operand → Made
made empty at older newer = making (record { null = true; first = 0; last = 0 }) 0 0 0 0
made (events m) at older newer = making (record { null = false; first = at; last = at }) 0 0 m 1
made sequence at older newer = making (both_of (operand_of older) (operand_of newer)) older.last newer.first 0 0
made choice at older newer = making (either_of (operand_of older) (operand_of newer)) 0 0 0 0
made repeat at older newer = making (many_of (operand_of older)) older.last older.first 0 0

-- ---- the masks

-- what f keeps of p; the members of m gain the set x
abbrev pub gains : (ℕ → ℕ) → ℕ → ℕ → ℕ → ℕ
gains f m x p = bit_or (f p) (cond (has m p) x 0)
